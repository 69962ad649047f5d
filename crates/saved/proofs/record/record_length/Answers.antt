-- `saved::record::record_length` meets its contract.
use Prim.Native.Nat.{ℕ, ◌+◌}
use mathlib.Core.Path.{ap, ◌∙◌}
use Rattle.saved.specs.Record.{record_length, config_width}
use Rattle.saved.proofs.record.record_length.Goals as goal

pub returns : goal.returns
returns c =
    ap (λ (x : ℕ). x + 96) c.connectors_at.ensures.value ∙ ap (λ (m : ℕ). record_length m config_width) c.cells_for-n.ensures.value
