-- `card::connectors::each_of` meets its contract: after k turns the first k are there.
use Rattle.std.proofs.Common.{◌≡◌, ◌-◌, ◌≤◌, ◌++◌, drop, replicate}
use Rattle.words.specs.Listed.{listed}
use Rattle.card.specs.Address.{connector_count}
use Rattle.card.specs.Connectors.{connector_at, no_connector}
use Rattle.card.proofs.connectors.each_of.Given as goal

abbrev pub invariant-loop-k : goal.invariant-loop-k
invariant-loop-k l =
    (l.k ≤ connector_count) × (l.all ≡ listed (connector_at l.c) l.k ++ drop l.k (replicate connector_count no_connector))

abbrev pub decreases-loop-k : goal.decreases-loop-k
decreases-loop-k l = connector_count - l.k
