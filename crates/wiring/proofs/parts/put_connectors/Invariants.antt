-- `wiring::parts::put_connectors` meets its contract: after k turns the lines of the first k entries are written.
use Prim.Native.Nat.{◌-◌}
use Rattle.card.specs.Address.{connector_count}
use Rattle.wiring.specs.Wiring.{connector_commands}
use Rattle.wiring.specs.Parts.{connector_most}
use Rattle.wiring.proofs.PartLaws.{Written}
use Rattle.wiring.proofs.parts.put_connectors.Given as goal

abbrev pub invariant-loop-k : goal.invariant-loop-k
invariant-loop-k l = Written connector_commands l.start connector_most connector_count l.connectors l.initial.out l.out l.at l.k

abbrev pub decreases-loop-k : goal.decreases-loop-k
decreases-loop-k l = connector_count - l.k
