-- `saved::record::connector_in` meets its contract: each byte is read at its place.
use Rattle.saved.specs.Record.{connector_in}
use Rattle.saved.proofs.record.connector_in.Goals as goal

pub returns : goal.returns
unfolding connector_in
returns c = rw c.connectors_at.ensures.value
