-- `saved::record::put_connectors` meets its contract: after k turns the fields of the first k entries are stored.
use Prim.Native.Nat.{◌-◌}
use lib.ListN.{length}
use Rattle.card.specs.Address.{connector_count}
use Rattle.saved.specs.Record.{connector_length, connector_field}
use Rattle.saved.proofs.Fields.{FieldsStored}
use Rattle.saved.proofs.record.put_connectors.Given as goal

abbrev pub invariant-loop-k : goal.invariant-loop-k
invariant-loop-k l = FieldsStored connector_field connector_length l.start (length l.initial.out) connector_count l.connectors l.initial.out l.out l.k

abbrev pub decreases-loop-k : goal.decreases-loop-k
decreases-loop-k l = connector_count - l.k
