-- `survey::dependents` meets its contract.
use Prim.Native.Nat.{ℕ, ◌-◌}
use mathlib.Core.Path.{refl, sym, subst, ◌∙◌}
use mathlib.Core.Bool.{true≢false}
use native.Mathlib.Omega.{arith}
use borrow.Author.Tests.{not-true, not-false}
use Rattle.card.specs.Address.{connector_count, first_connector}
use Rattle.card.proofs.Places.{among-bounds}
use Rattle.survey.specs.Survey.{Smallest}
use Rattle.survey.proofs.dependents.Goals as goal

pub returns-then-not-is_connector : goal.returns-then-not-is_connector
returns-then-not-is_connector c =
    let no = sym c.is_connector.ensures ∙ not-true _ c.if-not-is_connector.true-raw in
    record { refused = λ _. refl; number = λ e. absurd (true≢false (sym e ∙ no)); smallest = λ e. absurd (true≢false (sym e ∙ no)) }

-- the place is a connector's
pub overflow_sub-place : goal.overflow_sub-place
overflow_sub-place c =
    (among-bounds first_connector connector_count c.args.place (sym c.is_connector.ensures ∙ not-false _ c.if-not-is_connector.false-raw)).0

pub overflow_cast-place : goal.overflow_cast-place
overflow_cast-place c =
    let h = among-bounds first_connector connector_count c.args.place (sym c.is_connector.ensures ∙ not-false _ c.if-not-is_connector.false-raw) in
    record { fits = omega (arith, h) }

pub reach-r-requires : goal.reach-r-requires
reach-r-requires c =
    let h = among-bounds first_connector connector_count c.args.place (sym c.is_connector.ensures ∙ not-false _ c.if-not-is_connector.false-raw) in record {
      k_lt_connector_count = omega (arith, h);
      n_le_cell_room = c.cells_for-n.ensures.upper_bound;
    }

pub returns : goal.returns
returns c =
    let a = c.args in
    let yes = sym c.is_connector.ensures ∙ not-false _ c.if-not-is_connector.false-raw in
    let same = c.cells_for-n.ensures.value in
    let r = c.reach-r.result in
    record {
      refused = λ e. absurd (true≢false (sym yes ∙ e));
      number = λ _. refl;
      smallest = λ _. subst
          (λ (n : ℕ). Smallest n a.card.cells a.card.connectors (a.place - first_connector) r.cells r.connectors) same c.reach-r.ensures;
    }
