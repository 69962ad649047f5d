-- `input::next_line` meets its contract. The loop's invariant: the line so far and the bytes after it are those that were pending and that reads gave.
-- The measure is the number of reads that are left.
use Prim.Native.Nat.{ℕ}
use mathlib.Core.Path.{refl, sym, ◌∙◌, subst}
use native.Mathlib.Omega.{arith}
use Rattle.input.specs.Reading.{Refilled}
use Rattle.input.proofs.Reading.{underway-first, underway-again, next-found}
use borrow.Author.Rules.{rules}
use Rattle.input.proofs.reader.Reader.next_line.Goals as goal

pub loop-q-init : goal.loop-q-init
loop-q-init c = (underway-first _ c.behind-q.result _ c.behind-q.ensures.ends, refl, refl)

pub refilled-q-requires : goal.refilled-q-requires
refilled-q-requires c =
    let u = c.loop-q.invariant in
    let more = u.0.ends.more (sym c.has_line.ensures ∙ c.if-has_line.true) in record {
      start_le_n = omega (arith, u.0.order, u.0.ends.within);
      n_in_bounds = u.0.ends.inside;
      block_length_in_bounds = omega (arith, u.1, u.2, c.requires.block_length_in_bounds);
      left_nonzero = more;
    }

pub loop-q-smaller : goal.loop-q-smaller
loop-q-smaller c = c.refilled-q.ensures.left

pub loop-q-preserved : goal.loop-q-preserved
loop-q-preserved c =
    let l = c.loop-q in
    let q = c.refilled-q.result in
    let after = c.refilled-q.new.block in
    let over = c.loop-q-test.true in
    let filled = subst (λ (room : ℕ). Refilled room l.q q l.block after) l.invariant.2 c.refilled-q.ensures in
    (underway-again _ _ l.q q _ l.block _ l.invariant.0 over filled, search rules, search rules)

pub returns : goal.returns
returns c =
    let l = c.loop-q in
    let u = l.invariant.0 in
    let looked = c.behind-q.ensures in
    let r = c.args.self.now in record {
      next = next-found _ r c.behind-q.result l.q _ _ _ looked u refl refl refl c.found_at_end.ensures;
      start_le_end = u.order;
      n_in_bounds_2 = u.ends.inside;
      left_lt_left = omega (arith, u.left, looked.left);
    }
