-- `ticks::rest::at_rest` meets its contract: what it tests is what the laws of rest ask, both ways.
use Prim.Native.Nat.{ℕ, ◌%◌, ◌^◌, ◌<◌}
use mathlib.Core.Path.{◌≡◌, refl, sym, ap₂, subst, ◌∙◌}
use mathlib.Core.Bool.{Bool, true, false≢true, not, ◌||◌}
use native.Mathlib.Nat.{mod-lt, mod-eq_of_lt}
use lib.Dec.{eqb}
use lib.Pow.{pow_pos}
use borrow.Author.Tests.{eqb-true, eq-eqb, not-false}
use Rattle.words.proofs.Bools.{or_left, or_right, and_left, and_right, and_both}
use Rattle.card.specs.Address.{cells_for}
use Rattle.ticks.specs.Rest.{AtRest, Decides}
use Rattle.ticks.proofs.AtRest.{memory-steady, idle-rests, rests-still, rest-fits}
use Rattle.ticks.proofs.rest.at_rest.Goals as goal

pub returns-then-input-card : goal.returns-then-input-card
returns-then-input-card c =
    let a = c.args in
    (λ _. idle-rests (cells_for a.card.size) a.card a.input c.if-input-card.true, λ _. refl)

-- the test of the words, of a memory whose words are those of n cells
whole : (n o : ℕ) → eqb o (o % 2 ^ n) ≡ true → o < 2 ^ n
whole n o e = subst (λ (x : ℕ). x < 2 ^ n) (sym (eqb-true o (o % 2 ^ n) e)) (mod-lt o (pow_pos n))

pub returns-then-card-holds_still : goal.returns-then-card-holds_still
returns-then-card-holds_still c =
    let a = c.args in
    let n = c.cells_for-n.result in (
      λ e. absurd (false≢true e),
      λ rest. let m = a.card.memory in
          let at = subst (λ (k : ℕ). AtRest k a.card a.input) (sym c.cells_for-n.ensures.value) rest in
          let s = rests-still n a.card a.input c.if-input-card.false at in
          let fits = eq-eqb m.outputs (m.outputs % 2 ^ n) (sym (mod-eq_of_lt (rest-fits n a.card a.input c.if-input-card.false at))) in
          sym (ap₂ (λ (x y : Bool). not x || not y) (eq-eqb _ _ s.edited) (c.holds_still.ensures ∙ and_both _ _ fits (memory-steady m s.memory)))
          ∙ c.if-card-holds_still.true,
    )

pub rests_on-requires : goal.rests_on-requires
rests_on-requires c =
    let a = c.args in
    let m = a.card.memory in
    let n = c.cells_for-n.result in
    let held = sym c.holds_still.ensures ∙ not-false _ (or_right (not (eqb a.card.edited 0)) _ c.if-card-holds_still.false) in record {
      n_le_cell_room = c.cells_for-n.ensures.upper_bound;
      code_value = c.if-input-card.false;
      edited_value = eqb-true a.card.edited 0 (not-false _ (or_left _ _ c.if-card-holds_still.false));
      outputs_bound = whole n m.outputs (and_left _ _ held);
      levels_value = and_right (eqb m.outputs (m.outputs % 2 ^ n)) _ held;
    }

pub returns : goal.returns
returns c =
    let a = c.args in
    subst (λ (k : ℕ). Decides c.rests_on.result (AtRest k a.card a.input)) c.cells_for-n.ensures.value c.rests_on.ensures
