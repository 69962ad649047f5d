-- `saved::record::connector_bytes` meets its contract: the field written out.
use mathlib.Core.Path.{refl}
use Rattle.saved.specs.Record.{connector_field}
use Rattle.saved.proofs.record.connector_bytes.Goals as goal

pub returns : goal.returns
unfolding connector_field
returns c = refl
