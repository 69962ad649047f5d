-- `card::presets::connectors_under` meets its contract: after k turns the first k connectors are those under the row.
use Rattle.std.proofs.Common.{◌≡◌, ℕ, ◌-◌, ◌≤◌, List, ◌++◌, get_or, drop}
use Rattle.words.specs.Listed.{listed}
use Rattle.card.specs.declared.card.Connector.{Connector}
use Rattle.card.specs.Address.{connector_count}
use Rattle.card.specs.Connectors.{no_connector}
use Rattle.card.specs.Presets.{sourced}
use Rattle.card.specs.PresetRows.{source_under}
use Rattle.card.proofs.presets.connectors_under.Given as goal

-- the connector at an index under the row
abbrev pub under : ℕ → List Connector → ℕ → Connector
under w connectors k = sourced (source_under w k) (get_or connectors k no_connector)

abbrev pub invariant-loop-k : goal.invariant-loop-k
invariant-loop-k l = (l.k ≤ connector_count) × (l.next ≡ listed (under l.row l.connectors) l.k ++ drop l.k l.connectors)

abbrev pub decreases-loop-k : goal.decreases-loop-k
decreases-loop-k l = connector_count - l.k
