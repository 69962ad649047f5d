-- Document 02, "How far does one line reach: a survey call": the smallest set, over the number n of
-- cells. What is promised of everything outside it is in Unreached.
use Rattle.std.specs.Prelude.{ℕ, ◌+◌, ◌-◌, ◌^◌, ◌<◌, ◌≡◌, Bool, true, false, ◌&&◌, List, eqb, get_or}
use Rattle.words.specs.Bits.{bit_at}
use Rattle.cells.specs.declared.table.Slots.{Slots}
use Rattle.cells.specs.declared.cell.Cell.{Cell}
use Rattle.cells.specs.Table.{slots, row_of, masked, any_slot}
use Rattle.card.specs.declared.card.Card.{Card}
use Rattle.card.specs.declared.card.Connector.{Connector}
use Rattle.card.specs.declared.card.Connectors.{Connectors}
use Rattle.card.specs.Address.{connector_count, first_cell, first_connector, among, base_of}
use Rattle.card.specs.Connectors.{push_pull_type, is_output, connector_at}
use Rattle.card.specs.Fresh.{no_cell}
use Rattle.ticks.specs.Reading.{level_at}
use Rattle.survey.specs.declared.Surveyed.{Surveyed}

-- ---- the set, of bases

-- the slots whose base is in the set
abbrev pub slots_in : (ℕ → Bool) → List ℕ → Slots
slots_in set s = slots (set (base_of (get_or s 0 0))) (set (base_of (get_or s 1 0))) (set (base_of (get_or s 2 0))) (set (base_of (get_or s 3 0)))

-- a cell "with a used slot whose base is in the set": level, inverse and edges alike
unfoldable pub reads_set : (ℕ → Bool) → Cell → Bool
reads_set set cell = any_slot (masked (row_of cell.kind).used (slots_in set cell.slots))

-- an "output connector whose source's base is in it"
unfoldable pub driven_from : (ℕ → Bool) → Connector → Bool
driven_from set c = is_output c.kind && set (base_of c.source)

-- a set that "holds the connector itself, unless it is push-pull, every cell with a used slot whose
-- base is in the set, and every output connector whose source's base is in it"; the connector is
-- number k of sixteen, from 0
pub record Holds (n : ℕ) (cs : List Cell) (ds : Connectors) (k : ℕ) (set : ℕ → Bool) : Type 0 where
  pub itself : eqb (connector_at ds k).kind push_pull_type ≡ false → set (first_connector + k) ≡ true
  pub cells : (i : ℕ) → i < n → reads_set set (get_or cs i no_cell) ≡ true → set (first_cell + i) ≡ true
  pub outputs : (j : ℕ) → j < connector_count → driven_from set (connector_at ds j) ≡ true → set (first_connector + j) ≡ true

-- the set that "a cell word and a word in the sample's order" give: base 0 and reserved bases are
-- never in it
abbrev pub set_of : (n cells connectors : ℕ) → ℕ → Bool
set_of n cells connectors = level_at n (bit_at cells) (bit_at connectors)

-- "the smallest set that holds" these
pub record Smallest (n : ℕ) (cs : List Cell) (ds : Connectors) (k cells connectors : ℕ) : Type 0 where
  pub holds : Holds n cs ds k (set_of n cells connectors)
  pub least : (set : ℕ → Bool) → Holds n cs ds k set → (b : ℕ) → set_of n cells connectors b ≡ true → set b ≡ true
  pub cells_fit : cells < 2 ^ n
  pub connectors_fit : connectors < 2 ^ connector_count

-- the call, for a place that may be none: "For a connector's address", else "5 and zero words"
pub record Survey (n : ℕ) (c : Card) (place : ℕ) (r : Surveyed) : Type 0 where
  pub refused : among first_connector connector_count place ≡ false → r ≡ record { k = 5; cells = 0; connectors = 0 }
  pub number : among first_connector connector_count place ≡ true → r.k ≡ 0
  pub smallest : among first_connector connector_count place ≡ true
      → Smallest n c.cells c.connectors (place - first_connector) r.cells r.connectors
