-- `steady::tallies_through` meets its contract: after i turns the first i tallies are those after the ticks.
use Prim.Native.Nat.{ℕ, ◌-◌, ◌≤◌, ◌<◌}
use mathlib.Core.Path.{◌≡◌, refl, sym, ap, subst, ◌∙◌}
use native.Mathlib.Omega.{arith}
use lib.ListN.{get_or, length}
use Rattle.words.specs.Bits.{bit_at}
use Rattle.words.specs.Listed.{listed}
use Rattle.words.proofs.Listed.{listed_next, behind-at}
use Rattle.cells.specs.declared.cell.Ticks.{Ticks}
use Rattle.card.specs.Tally.{ticks}
use Rattle.card.specs.Address.{cell_room}
use Rattle.ticks.proofs.Turns.{as_long}
use Rattle.steady.specs.Steady.{counted_for, tallies_on, tallied_for}
use Rattle.steady.proofs.Tallied.{after-least}
use Rattle.steady.proofs.tallies_through.Goals as goal

pub overflow_sub-d : goal.overflow_sub-d
overflow_sub-d c = subst (λ (x : ℕ). c.args.t.total.0 ≤ x) (sym c.total_after-total.ensures) (after-least _ _)

pub loop-i-init : goal.loop-i-init
unfolding listed
loop-i-init c = record { cells = refl; total = refl }

pub loop-i-preserved : goal.loop-i-preserved
loop-i-preserved c =
    let l = c.loop-i in
    let a = c.args in
    let d = c.total_after-total.result - a.t.total.0 in
    let f : ℕ → Ticks = λ i. counted_for (bit_at a.named i) d (get_or a.t.cells i (ticks 0)) in
    let long : length a.t.cells ≡ cell_room = search (as_long, c.well_formed) in
    let inside : l.i < length a.t.cells = omega (arith, long) in
    let old = behind-at f l.i a.t.cells l.next.cells (ticks 0) l.invariant.cells inside in
    let new = c.counted_for.ensures ∙ (λ k. counted_for (c.bit.ensures k) d (old k)) in
    record { cells = listed_next f l.i a.t.cells l.next.cells _ (ticks 0) l.invariant.cells new inside; total = l.invariant.total }

pub returns : goal.returns
unfolding tallied_for
returns c =
    let l = c.loop-i in
    let a = c.args in
    let end : l.i ≡ a.n = omega arith in
    let cells = rw end at l.invariant.cells in
    (λ k. record { cells = cells k; total = l.invariant.total k }) ∙ ap (λ (x : ℕ). tallies_on a.n (bit_at a.named) x a.t) c.total_after-total.ensures
