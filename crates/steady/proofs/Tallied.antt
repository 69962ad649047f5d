-- The tallies after many ticks that name the same cells, one tick more.
use Prim.Native.Nat.{ℕ, suc, ◌+◌, ◌-◌, ◌≤◌}
use mathlib.Core.Path.{◌≡◌, refl, sym, ap, ap₂, ◌∙◌}
use mathlib.Core.Bool.{Bool, true, false, cond}
use mathlib.Core.List.{List, ◌++◌}
use native.Mathlib.Omega.{arith}
use lib.Dec.{ltb}
use lib.ListN.{get_or, drop, length, take-append-drop}
use lib.Seq.{drop_at}
use borrow.Author.Tests.{lt-ltb, le-ltb}
use Rattle.words.specs.Listed.{listed}
use Rattle.words.proofs.Listed.{front_at, length-listed, listed_same, listed-take}
use Rattle.cells.specs.declared.cell.Ticks.{Ticks}
use Rattle.card.specs.declared.tallies.Tallies.{Tallies}
use Rattle.card.specs.Tally.{ticks, standstill, counted, tallied_by}
use Rattle.card.proofs.TallyLaws.{by_less}
use Rattle.ticks.specs.Rest.{total_after}
use Rattle.ticks.proofs.AtRest.{after_none}
use Rattle.steady.specs.Steady.{counted_for, tallies_on, tallied_for}

-- a number of ticks up to the standstill never falls, and one tick more counts on below it
pub after-least : (t k : ℕ) → t ≤ total_after t k
after-least t k = by_less t standstill (λ b. t ≤ cond b (cond (ltb (t + k) standstill) (t + k) standstill) t)
    (λ h. by_less (t + k) standstill (λ b. t ≤ cond b (t + k) standstill) (λ _. omega arith) (λ _. omega arith)) (λ _. omega arith)

pub after_next : (t k : ℕ) → total_after t (suc k) ≡ cond (ltb (total_after t k) standstill) (total_after t k + 1) (total_after t k)
after_next t k = by_less t standstill
    (λ b. cond b (cond (ltb (t + suc k) standstill) (t + suc k) standstill) t
    ≡ cond (ltb (cond b (cond (ltb (t + k) standstill) (t + k) standstill) t) standstill) (cond b (cond (ltb (t + k) standstill) (t + k) standstill) t + 1)
    (cond b (cond (ltb (t + k) standstill) (t + k) standstill) t))
    (λ h. by_less (t + k) standstill
    (λ b. cond (ltb (t + suc k) standstill) (t + suc k) standstill
    ≡ cond (ltb (cond b (t + k) standstill) standstill) (cond b (t + k) standstill + 1) (cond b (t + k) standstill))
    (λ l. by_less (t + suc k) standstill (λ b. cond b (t + suc k) standstill ≡ cond (ltb (t + k) standstill) (t + k + 1) (t + k))
    (λ g. rw (lt-ltb (t + k) standstill l) (omega arith)) (λ g. rw (lt-ltb (t + k) standstill l) (omega arith)))
    (λ l. let over : standstill ≤ t + suc k = omega arith in rw (le-ltb (t + suc k) standstill over)))
    (λ h. rw (le-ltb t standstill h))

-- one tally
counted_next : (named : Bool) (d : ℕ) (v : Ticks) → counted named (counted_for named d v) ≡ counted_for named (suc d) v
unfolding counted counted_for
counted_next false d v = refl
counted_next true d v = go (ltb (total_after v.0 d) standstill) (after_next v.0 d)
  where
    go : (b : Bool) → total_after v.0 (suc d) ≡ cond b (total_after v.0 d + 1) (total_after v.0 d)
        → cond b (ticks (total_after v.0 d + 1)) (ticks (total_after v.0 d)) ≡ ticks (total_after v.0 (suc d))
    go true e = ap ticks (sym e)
    go false e = ap ticks (sym e)

counted_none : (named : Bool) (v : Ticks) → counted_for named 0 v ≡ v
unfolding counted_for
counted_none true v = ap ticks (after_none v.0)
counted_none false v = refl

module _ (n : ℕ) (named : ℕ → Bool) (t : Tallies) where
  pub tallied-zero : n ≤ length t.cells → tallied_for n named 0 t ≡ t
  unfolding tallied_for
  tallied-zero h =
      let total = after_none t.total.0 in
      let gone : total_after t.total.0 0 - t.total.0 ≡ 0 = omega (arith, total) in
      let each = listed_same (λ i. counted_for (named i) (total_after t.total.0 0 - t.total.0) (get_or t.cells i (ticks 0)))
      (λ i. get_or t.cells i (ticks 0)) n
      (λ i _. ap (λ (d : ℕ). counted_for (named i) d (get_or t.cells i (ticks 0))) gone ∙ counted_none (named i) (get_or t.cells i (ticks 0))) in
      let cells = ap (λ (l : List Ticks). l ++ drop n t.cells) (each ∙ listed-take t.cells (ticks 0) n h) ∙ take-append-drop n t.cells in
      λ k. record { cells = cells k; total = ticks (total k) }

  pub tallied-next : (k : ℕ) → tallied_by n named (tallied_for n named k t) ≡ tallied_for n named (suc k) t
  unfolding tallied_for tallied_by
  tallied-next k = go (ltb a standstill) (after_next from k)
    where
      from : ℕ
      from = t.total.0

      a : ℕ
      a = total_after from k

      f : ℕ → ℕ → Ticks
      f d i = counted_for (named i) d (get_or t.cells i (ticks 0))

      now : List Ticks
      now = listed (f (a - from)) n ++ drop n t.cells

      one : a + 1 - from ≡ suc (a - from)
      one = omega (arith, after-least from k)

      cells : listed (λ i. counted (named i) (get_or now i (ticks 0))) n ++ drop n now ≡ listed (f (a + 1 - from)) n ++ drop n t.cells
      cells =
          let each = listed_same (λ i. counted (named i) (get_or now i (ticks 0))) (f (a + 1 - from)) n
          (λ i h. ap (counted (named i)) (front_at (f (a - from)) n t.cells i (ticks 0) h)
          ∙ counted_next (named i) (a - from) (get_or t.cells i (ticks 0))
          ∙ ap (λ (d : ℕ). f d i) (sym one)) in
          ap₂ ◌++◌ each (drop_at (listed (f (a - from)) n) (drop n t.cells) n (length-listed (f (a - from)) n))

      go : (b : Bool) → total_after from (suc k) ≡ cond b (a + 1) a
          → cond b (record { cells = listed (λ i. counted (named i) (get_or now i (ticks 0))) n ++ drop n now; total = ticks (a + 1) })
          (record { cells = now; total = ticks a })
          ≡ tallies_on n named (total_after from (suc k)) t
      go true e = (λ k. record { cells = cells k; total = ticks (a + 1) }) ∙ ap (λ (x : ℕ). tallies_on n named x t) (sym e)
      go false e = ap (λ (x : ℕ). tallies_on n named x t) (sym e)
