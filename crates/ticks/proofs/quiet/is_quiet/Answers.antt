-- `ticks::quiet::is_quiet` meets its contract: what it tests is what the law of the fast path asks.
use mathlib.Core.Path.{◌≡◌, refl, sym, ◌∙◌}
use mathlib.Core.Bool.{Bool, true, false, ◌&&◌, false≢true}
use borrow.Author.Tests.{eq-eqb, ne_eqb, not-true, not-false}
use native.Mathlib.Omega.{arith}
use lib.Dec.{eqb}
use Rattle.ticks.specs.Reading.{view}
use Rattle.ticks.specs.Rest.{steady, all_rest, is_quiet}
use Rattle.ticks.specs.Tick.{turned}
use Rattle.ticks.proofs.AtRest.{steady-wires, rest-seen, quiet-turned}
use borrow.Author.Rules.{rules}
use Rattle.ticks.proofs.quiet.is_quiet.Goals as goal

-- the tests, where the second fails, and where the first two pass
off : (a b r : Bool) → b ≡ false → false ≡ ((a && b) && r)
off true false r e = refl
off false false r e = refl
off a true r e = absurd (false≢true (sym e))

on : (a b r : Bool) → a ≡ true → b ≡ true → r ≡ ((a && b) && r)
on true true r p q = refl
on false b r p q = absurd (false≢true p)
on true false r p q = absurd (false≢true q)

pub returns-then-edited-ne0 : goal.returns-then-edited-ne0
unfolding is_quiet
returns-then-edited-ne0 c = record {
  value = rw (ne_eqb _ 0 c.if-edited-ne0.true);
  w_value = λ h. absurd (false≢true h);
}

pub returns-then-not-unchanged : goal.returns-then-not-unchanged
unfolding is_quiet
returns-then-not-unchanged c =
    let a = c.args in
    let o = a.w.outputs in record {
      value = off (eqb a.edited 0) (steady a.w) (all_rest a.n (view a.n 0 o o a.w.levels) a.cells)
          (sym c.unchanged.ensures ∙ not-true _ c.if-not-unchanged.true-raw);
      w_value = λ h. absurd (false≢true h);
    }

pub returns : goal.returns
unfolding is_quiet
returns c =
    let a = c.args in
    let o = a.w.outputs in
    let l = a.w.levels in
    let rest = rest-seen a.n (view a.n 0 o o l) c.sees.result a.cells
    (c.sees.ensures a.n (search rules) (search rules) (search rules))
    ∙ sym c.all_rest.ensures.value in
    let edited : a.edited ≡ 0 = c.if-edited-ne0.false in
    let same = sym c.unchanged.ensures ∙ not-false _ c.if-not-unchanged.false-raw in
    let words = steady-wires a.w same in record {
      value = sym rest ∙ on _ _ _ (eq-eqb a.edited 0 edited) same;
      w_value = λ h. (λ j. turned a.n false a.cells (edited j) (words j))
          ∙ quiet-turned a.n o l a.cells (rest ∙ h) (omega (arith, c.all_rest.ensures.cells_len)) (search rules);
    }
