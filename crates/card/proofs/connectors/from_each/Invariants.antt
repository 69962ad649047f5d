-- `card::connectors::from_each` meets its contract: after k turns the sources and both words have the first k.
use Rattle.std.proofs.Common.{◌≡◌, ℕ, ◌-◌, ◌≤◌, Bool, eqb, List, ◌++◌, get_or, drop, replicate}
use Rattle.words.specs.Bits.{word_of}
use Rattle.words.specs.Listed.{listed}
use Rattle.card.specs.declared.card.Connector.{Connector}
use Rattle.card.specs.Address.{connector_count}
use Rattle.card.specs.Connectors.{open_drain_type, push_pull_type, no_connector}
use Rattle.card.proofs.connectors.from_each.Given as goal

abbrev pub is_kind : ℕ → List Connector → ℕ → Bool
is_kind kind all k = eqb (get_or all k no_connector).kind kind

-- the source of entry k, and whether it is of a type
abbrev pub source_in : List Connector → ℕ → ℕ
source_in all k = (get_or all k no_connector).source

abbrev pub invariant-loop-k : goal.invariant-loop-k
invariant-loop-k l =
    (l.k ≤ connector_count)
    × (l.sources ≡ listed (source_in l.all) l.k ++ drop l.k (replicate connector_count 0))
    × (l.push ≡ word_of (is_kind push_pull_type l.all) l.k)
    × (l.drain ≡ word_of (is_kind open_drain_type l.all) l.k)

abbrev pub decreases-loop-k : goal.decreases-loop-k
decreases-loop-k l = connector_count - l.k
