-- Document 01, "Lines": the connectors of a card, their types as two words and their sources. What
-- connectors drive and show in a tick is in ticks/specs/Levels.
use Rattle.std.specs.Prelude.{ℕ, Bool, cond, ◌&&◌, ◌||◌, List, length, ◌==◌, nat_eq, slice_index, slice_index_or, slice_set}
use Rattle.words.specs.Bits.{bit_at, word_of, with_bit}
use Rattle.words.specs.Listed.{listed}
use Rattle.card.specs.declared.card.Connector.{Connector}
use Rattle.card.specs.declared.card.Connectors.{Connectors}
use Rattle.card.specs.Address.{connector_count}

-- "Y is 0 input, 1 open-drain, 2 push-pull"
abbrev pub input : ℕ
input = 0

abbrev pub open_drain_type : ℕ
open_drain_type = 1

abbrev pub push_pull_type : ℕ
push_pull_type = 2

abbrev pub is_output : ℕ → Bool
is_output kind = kind == open_drain_type || kind == push_pull_type

-- the type and the source of connector k, "bits 0-7 BNC1-8, 8-15 TTL0-7". Push-pull is asked first:
-- it is the type where both bits are set. Past the row: an input from 0
unfoldable pub kind_at : Connectors → ℕ → ℕ
kind_at d k = cond (bit_at d.push_pull k) push_pull_type (cond (bit_at d.open_drain k) open_drain_type input)

unfoldable pub source_at : Connectors → ℕ → ℕ
source_at d k = slice_index d.sources k

abbrev pub connector_at : Connectors → ℕ → Connector
connector_at d k = record { kind = kind_at d k; source = source_at d k }

-- with another type, or another source, at k; a number that is neither open-drain nor push-pull
-- makes an input
unfoldable pub with_kind : Connectors → (k kind : ℕ) → Connectors
with_kind d k kind =
    record {
      sources = d.sources;
      push_pull = with_bit d.push_pull k (kind == push_pull_type);
      open_drain = with_bit d.open_drain k (kind == open_drain_type);
    }

unfoldable pub with_source : Connectors → (k source : ℕ) → Connectors
with_source d k source = record { sources = slice_set d.sources k source; push_pull = d.push_pull; open_drain = d.open_drain }

-- the sixteen in order, one by one; and a row of sixteen made of them
unfoldable pub each : Connectors → List Connector
each d = listed (connector_at d) connector_count

-- past a list: an input from 0
abbrev pub no_connector : Connector
no_connector = record { kind = input; source = 0 }

unfoldable pub from_each : List Connector → Connectors
from_each cs =
    record {
      sources = listed (λ k. (slice_index_or cs k no_connector).source) connector_count;
      push_pull = word_of (λ k. nat_eq (slice_index_or cs k no_connector).kind push_pull_type) connector_count;
      open_drain = word_of (λ k. nat_eq (slice_index_or cs k no_connector).kind open_drain_type) connector_count;
    }

-- sixteen sources, no bit above the sixteenth, and no connector with both bits: the words are those
-- of the types. Lines leave no other row
unfoldable pub well_formed : Connectors → Bool
well_formed d =
    (length d.sources == connector_count)
    && (d.push_pull == (from_each (each d)).push_pull && d.open_drain == (from_each (each d)).open_drain)
