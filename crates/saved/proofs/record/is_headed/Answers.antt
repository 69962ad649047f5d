-- `saved::record::is_headed` meets its contract: the length, the head of the trigger, and those of the two rows of fields.
use Prim.Native.Nat.{ℕ, ◌+◌}
use mathlib.Core.Path.{sym, ap, ◌∙◌}
use borrow.Author.Tests.{eq-eqb, ne_eqb}
use Rattle.saved.specs.Record.{record_length}
use Rattle.saved.specs.Headers.{starts_at, trigger_headed, cell_headed, connector_headed, headed}
use Rattle.saved.proofs.record.is_headed.Goals as goal

pub returns-then-bytes-place : goal.returns-then-bytes-place
unfolding headed
returns-then-bytes-place c =
    let a = c.args in
    rw (ne_eqb _ (record_length a.n a.width) (λ e. c.if-bytes-place.true (e ∙ ap (λ (x : ℕ). x + 96) (sym c.connectors_at-place.ensures.value))))

pub returns : goal.returns
unfolding headed starts_at trigger_headed cell_headed connector_headed
returns c =
    let a = c.args in
    let place = c.connectors_at-place.ensures.value in
    rw (
      c.all_numbered-connectors.ensures,
      c.all_numbered-cells.ensures,
      place,
      eq-eqb _ (record_length a.n a.width) (c.if-bytes-place.false ∙ ap (λ (x : ℕ). x + 96) place),
    )
