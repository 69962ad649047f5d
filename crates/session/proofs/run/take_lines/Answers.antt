-- `session::run::take_lines` meets its contract. The loop's invariant: the line from `start` to `end` has been taken and no more; at `end` is its LF, or
-- the block's end. The measure is what is left of the block.
use Prim.Native.Nat.{◌≤◌, ◌+◌}
use mathlib.Core.Path.{◌≡◌, refl, ◌∙◌}
use native.Mathlib.Omega.{arith}
use lib.ListN.{length}
use Rattle.input.specs.Lines.{ended, longer, part}
use Rattle.input.proofs.Lines.{first-line, next-line}
use Rattle.session.specs.Run.{enters}
use Rattle.session.proofs.Runs.{in_block, drop-further}
use borrow.Author.Rules.{rules}
use Rattle.session.proofs.run.take_lines.Goals as goal
use Rattle.session.proofs.run.take_lines.Goals.{then-loop-end-test+else-out-s-ge-LONGEST_PRINT, else-loop-end-test}

pub loop-end-init : goal.loop-end-init
loop-end-init c =
    let a = c.args in
    let f = c.line_end-end.ensures in (
      omega arith,
      f.lower_bound,
      f.upper_bound,
      f.result_value,
      omega arith,
      first-line enters _ a.block.now a.state.len c.line_end-end.result f.lower_bound f.by_index,
      c.requires.used_in_bounds,
      refl,
      refl,
      refl,
    )

pub overflow_sub-out : goal.overflow_sub-out
overflow_sub-out c = let i = c.loop-end.invariant in omega (arith, i.6, i.7)

pub enter-s-requires : goal.enter-s-requires
enter-s-requires c =
    let l = c.loop-end in
    let i = l.invariant in
    let room = c.if-out-s-ge-LONGEST_PRINT.true in
    omega (arith, room, i.6, i.7)

pub overflow_add-start : goal.overflow_add-start
overflow_add-start c =
    search (rules, c.loop-end-test.true, c.ranges)

pub line_end-end-requires-in-loop-end : goal.line_end-end-requires-in-loop-end
line_end-end-requires-in-loop-end c = record {
  at_le_n = omega (arith, c.loop-end-test.true);
  n_in_bounds = c.requires.n_in_bounds;
}

pub loop-end-preserved : goal.loop-end-preserved
loop-end-preserved c =
    let l = c.loop-end in
    let a = c.args in
    let f = c.line_end-end-in-loop-end.ensures in
    let e = c.enter-s.ensures in
    let x = in_block l.s a.block.now l.store l.out l.start l.end in
    let room = c.if-out-s-ge-LONGEST_PRINT.true in
    let lf = l.invariant.3 c.loop-end-test.true in
    let next = c.line_end-end-in-loop-end.result in
    let behind : l.end + 1 ≤ next = f.lower_bound in
    let within : next ≤ a.n = f.upper_bound in
    let fits : next ≤ length a.block.now = omega (arith, within, c.requires.n_in_bounds) in
    let rest = part (l.end + 1) next a.block.now in
    let last = c.enter-s.new in
    let left : in_block c.enter-s.result a.block.now last.store last.out (l.end + 1) next ≡ longer (ended enters x) rest =
    λ i. record { done = record { card = e.card_value i; store = e.store_after i; printed = e.out_after i }; line = rest } in (
      f.lower_bound,
      omega (arith, behind, l.invariant.1),
      f.upper_bound,
      f.result_value,
      omega (arith, e.used_bound, l.invariant.0, l.invariant.1, l.invariant.4),
      left ∙ next-line enters _ x a.block.now a.state.len l.end next l.invariant.1 (omega (arith, behind)) fits lf f.by_index l.invariant.5,
      omega (arith, e.used_bound, room, l.invariant.6, l.invariant.7),
      search rules,
      e.out_unchanged ∙ drop-further l.out a.out.now l.s.used c.enter-s.result.used e.used_le_used l.invariant.8,
      search rules,
    )

pub shape_of-store : goal.shape_of-store
shape_of-store c = c.loop-end.invariant.9

pub shape_of-out : goal.shape_of-out
shape_of-out c = c.loop-end.invariant.7

pub returns : goal.returns
returns c =
    let l = c.loop-end in
    let i = l.invariant in record {
      out_after = i.5;
      stopped = record {
        order = i.0;
        behind = i.1;
        within = i.2;
        at_lf = i.3;
        no_room =
            λ h.
            elim c.loop-end-test.branch [
              | then-loop-end-test+else-out-s-ge-LONGEST_PRINT w ↦ omega (arith, w.if-out-s-ge-LONGEST_PRINT.false, i.6, i.7)
              | else-loop-end-test w ↦ absurd (omega (arith, h, w.loop-end-test.false))
            ];
        few = i.4;
        fits = i.6;
        size = i.7;
        beyond = i.8;
      };
    }
