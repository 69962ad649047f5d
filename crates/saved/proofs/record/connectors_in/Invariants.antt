-- `saved::record::connectors_in` meets its contract: after k turns the first k entries are those of the record.
use Prim.Native.Nat.{◌-◌, ◌≤◌}
use mathlib.Core.Path.{◌≡◌}
use mathlib.Core.List.{◌++◌}
use lib.ListN.{drop}
use Rattle.words.specs.Listed.{listed}
use Rattle.card.specs.Address.{connector_count}
use Rattle.saved.specs.Record.{connector_in}
use Rattle.saved.proofs.record.connectors_in.Given as goal

abbrev pub invariant-loop-k : goal.invariant-loop-k
invariant-loop-k l = (l.k ≤ connector_count) × (l.next ≡ listed (connector_in l.n l.width l.bytes) l.k ++ drop l.k l.initial.next)

abbrev pub decreases-loop-k : goal.decreases-loop-k
decreases-loop-k l = connector_count - l.k
