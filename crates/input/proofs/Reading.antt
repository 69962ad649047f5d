-- Laws of a reader of lines: between two reads, the line so far and the bytes after it are what was pending and what the reads gave.
use Prim.Native.Nat.{ℕ, zero, suc, ◌+◌, ◌-◌, ◌≤◌, ◌<◌}
use mathlib.Core.Path.{◌≡◌, refl, sym, ap, ◌∙◌}
use mathlib.Core.Bool.{Bool, cond}
use mathlib.Core.List.{List, [], ◌∷◌, ◌++◌, append_assoc, append-nil}
use native.Mathlib.Decide.{dec_lt}
use native.Mathlib.Nat.{le_refl}
use native.Mathlib.Omega.{arith}
use lib.Dec.{ltb}
use lib.ListN.{take, drop}
use borrow.Author.Tests.{lt-ltb, le-ltb}
use Rattle.input.specs.Lines.{part, NoLf}
use Rattle.input.specs.Reading.{is_line, pending, Next, EndsFrom, Looked, Refilled}
use Rattle.input.specs.declared.reader.Reader.{Reader}
use Rattle.input.proofs.Lines.{cut-cut, part-append, part-cons, free_part}

free-append : (a b : List ℕ) → NoLf a → NoLf b → NoLf (a ++ b)
free-append [] b fa fb k h e = fb k h e
free-append (x ∷ xs) b fa fb zero h e = fa 0 (omega arith) e
free-append (x ∷ xs) b fa fb (suc k) h e = free-append xs b (λ j g. fa (suc j) (omega arith)) fb k (omega arith) e

-- no byte is between a place and itself
pub part_none : (l : List ℕ) (a b : ℕ) → b ≤ a → part a b l ≡ []
part_none l a b h =
    let none : b - a ≡ 0 = omega arith in
    ap (λ (k : ℕ). take k (drop a l)) none

-- the line so far, whole, and the reads that it took, from where the reader q₀ was
pub record Underway (room : ℕ) (q₀ q : Reader) (before block : List ℕ) : Type 0 where
  pub read : List ℕ
  pub line : List ℕ
  pub free : NoLf line
  pub bytes : part q₀.start q₀.n before ++ read ≡ line ++ part q.end q.n block
  pub given : take room (part q.start q.end block) ≡ take room line
  pub order : q.start ≤ q.end
  pub ends : EndsFrom q.end q block
  pub left : q.left ≤ q₀.left

-- where it ends holds from there on too
ends_there : (from : ℕ) (q : Reader) (block : List ℕ) → EndsFrom from q block → EndsFrom q.end q block
ends_there from q block e =
    record {
      behind = le_refl q.end;
      within = e.within;
      inside = e.inside;
      free = λ k h g. absurd (omega (arith, h, g));
      lf = e.lf;
      more = e.more;
    }

pub underway-first : (room : ℕ) (q : Reader) (block : List ℕ) → EndsFrom q.start q block → Underway room q q block block
underway-first room q block e =
    let rest = part q.start q.n block in
    record {
      read = [];
      line = part q.start q.end block;
      free = free_part block q.start q.end e.free;
      bytes = append-nil rest ∙ part-append block q.start q.end q.n e.behind e.within;
      given = refl;
      order = e.behind;
      ends = ends_there q.start q block e;
      left = le_refl q.left;
    }

pub underway-again : (room : ℕ) (q₀ q p : Reader) (before block after : List ℕ) → Underway room q₀ q before block → q.end ≡ q.n
    → Refilled room q p block after → Underway room q₀ p before after
underway-again room q₀ q p before block after u over f =
    record {
      read = u.read ++ part len p.n after;
      line = u.line ++ new;
      free = free-append u.line new u.free (free_part after len p.end f.ends.free);
      bytes =
          sym (append_assoc old u.read (part len p.n after))
          ∙ ap (λ (l : List ℕ). l ++ part len p.n after) line_read
          ∙ ap (λ (l : List ℕ). u.line ++ l) (part-append after len p.end p.n f.ends.behind f.ends.within)
          ∙ sym (append_assoc u.line new (part p.end p.n after));
      given =
          ap (take room) front
          ∙ ap (λ (l : List ℕ). take room (l ++ new)) (f.front ∙ (λ i. take room (part q.start (sym over i) block)) ∙ u.given)
          ∙ cut-cut room u.line new;
      order = omega (arith, f.start);
      ends = ends_there len p after f.ends;
      left = omega (arith, f.left, u.left);
    }
  where
    old : List ℕ
    old = part q₀.start q₀.n before

    len : ℕ
    len = f.len

    new : List ℕ
    new = part len p.end after

    -- all that has been read is the line
    line_read : old ++ u.read ≡ u.line
    line_read =
        u.bytes
        ∙ ap (λ (l : List ℕ). u.line ++ l) (part_none block q.end q.n (omega (arith, over)))
        ∙ append-nil u.line

    front : part p.start p.end after ≡ take len after ++ new
    front =
        let all : len - 0 ≡ len = omega arith in
        (λ i. part (f.start i) p.end after)
        ∙ part-append after 0 len p.end (omega arith) f.ends.behind
        ∙ ap (λ (n : ℕ). take n after ++ new) all

-- where the reads end, the line has ended, or the input has
pub next-found : (room : ℕ) (r q₀ q p : Reader) (before after : List ℕ) → Looked r q₀ before → Underway room q₀ q before after → p.start ≡ q.start
    → p.end ≡ q.end → p.n ≡ q.n → is_line p.found ≡ ltb q.end q.n → Next room r p before after
next-found room r q₀ q p before after l u es ee en eg =
    record {
      read = u.read;
      line = u.line;
      free = u.free;
      bytes = ap (λ (x : List ℕ). x ++ u.read) (same (dec_lt r.end r.n)) ∙ u.bytes ∙ ap (λ (x : List ℕ). u.line ++ x) (rest (dec_lt q.end q.n));
      given = (λ i. take room (part (es i) (ee i) after)) ∙ u.given;
    }
  where
    -- what was pending is what is looked at
    same : Dec (r.end < r.n) → pending r before ≡ part q₀.start q₀.n before
    same (yes h) =
        let at : r.end + 1 ≡ q₀.start = omega (arith, l.start) in
        (λ i. part (at i) (sym l.same i) before)
    same (no h) =
        part_none before (r.end + 1) r.n (omega arith) ∙ sym (part_none before q₀.start q₀.n (omega (arith, l.start, l.same)))

    rest : Dec (q.end < q.n) → part q.end q.n after ≡ cond (is_line p.found) (10 ∷ pending p after) []
    rest (yes h) =
        part-cons after q.end q.n h u.ends.inside
        ∙ (λ i. u.ends.lf h i ∷ part (sym ee i + 1) (sym en i) after)
        ∙ ap (λ (b : Bool). cond b (10 ∷ pending p after) []) (sym (eg ∙ lt-ltb q.end q.n h))
    rest (no h) =
        part_none after q.end q.n (omega arith)
        ∙ ap (λ (b : Bool). cond b (10 ∷ pending p after) []) (sym (eg ∙ le-ltb q.end q.n (omega arith)))
