-- The tests of the code, case by case.
use Prim.Native.Nat.{ℕ, zero, suc, ◌+◌, ◌≤◌, ◌<◌, min, max}
use mathlib.Core.Path.{◌≡◌, ap, ◌∙◌}
use mathlib.Core.Bool.{Bool, true, false, not, ◌||◌, beq, cond}
use mathlib.Core.List.{List}
use native.Mathlib.Nat.{not-suc-le-zero}
use native.Mathlib.Numerals.{add-one}
use native.Mathlib.Omega.{arith}
use lib.ListN.{get_or}
use Rattle.card.proofs.TallyLaws.{by_less}
use Rattle.cells.specs.declared.cell.Cell.{Cell}
use Rattle.cells.specs.Work.{largest_count}
use Rattle.card.specs.Fresh.{no_cell}
use Rattle.card.specs.declared.card.Card.{Card}
use Rattle.steady.specs.Steady.{same_but, steady_from, count_holds, state_holds, cell_holds, least, least_holds, made_of}
use Rattle.steady.proofs.Cells.{Way, way}
use Rattle.steady.proofs.Cells.Way.{stays, falls, rises}

-- std's `min` and `max` of numbers
pub min-least : (a b : ℕ) → min a b ≡ least a b
min-least a b = by_less b a (λ t. min a b ≡ cond t b a) (λ h. omega arith) (λ h. omega arith)

pub made_many : (k steady : ℕ) → min k (max steady 1) ≡ made_of k steady
unfolding made_of
made_many k steady =
    min-least k _ ∙ ap (least k) (by_less steady 1 (λ t. max steady 1 ≡ cond t 1 steady) (λ h. omega arith) (λ h. omega arith))

pub least-next : (i all one : ℕ) (before after : List Cell) → all ≡ least_holds i before after
    → one ≡ cell_holds (get_or before i no_cell) (get_or after i no_cell) → least all one ≡ least_holds (i + 1) before after
unfolding least_holds
least-next i all one before after e f = rw (add-one, ← e, ← f)

-- a count that rises has room for the ticks for which it holds
pub room-count : (config x y m : ℕ) → 0 < m → m ≤ count_holds config x y → x < y → x + m ≤ largest_count
room-count config x y zero pos h less = absurd (not-suc-le-zero pos)
room-count config x y (suc m) pos h less = go (way config x y m h)
  where
    go : Way config x y m → x + suc m ≤ largest_count
    go (stays e) = absurd (omega arith)
    go (falls e _ _) = absurd (omega arith)
    go (rises _ r _) = r

pub room-cell : (a b : Cell) (m : ℕ) → 0 < m → m ≤ cell_holds a b → a.count.0 < b.count.0 → a.count.0 + m ≤ largest_count
unfolding state_holds
room-cell a b m pos h less = go (not (beq a.bit b.bit) || not (beq a.pulse b.pulse)) h
  where
    go : (t : Bool) → m ≤ cond t 0 (count_holds a.config a.count.0 b.count.0) → a.count.0 + m ≤ largest_count
    go true g = absurd (omega arith)
    go false g = room-count a.config a.count.0 b.count.0 m pos g less

pub steady_then : (n : ℕ) (c d : Card) → same_but c d ≡ true → least_holds n c.cells d.cells ≡ steady_from n c d
unfolding steady_from
steady_then n c d e = rw e

pub steady-else : (n : ℕ) (c d : Card) → same_but c d ≡ false → 0 ≡ steady_from n c d
unfolding steady_from
steady-else n c d e = rw e
