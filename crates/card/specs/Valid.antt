-- Document 01, rows 5 to 13 of "When the card says no", as tests of single values; and the settings
-- that lines can set, which a record may hold.
use Rattle.std.specs.Prelude.{ℕ, Bool, true, false, cond, not, ◌&&◌, ◌||◌, List, length, take, ◌==◌, nat_le, nat_lt, slice_index, slice_index_or, Option, None, Some, is_some, unwrap_or}
use Rattle.text.specs.Digits.{every}
use Rattle.cells.specs.declared.table.Slots.{Slots}
use Rattle.cells.specs.declared.table.Row.{Row}
use Rattle.cells.specs.declared.table.Kept.{Kept}
use Rattle.cells.specs.declared.table.Kept.TheVariants.{Stateless, Bit, Count, Counted}
use Rattle.cells.specs.declared.cell.Cell.{Cell}
use Rattle.cells.specs.Table.{row_of, type_count}
use Rattle.cells.specs.Work.{largest_count}
use Rattle.card.specs.declared.card.Card.{Card}
use Rattle.card.specs.declared.card.Connector.{Connector}
use Rattle.card.specs.Address.{first_cell, first_connector, connector_count, among}
use Rattle.card.specs.Chart.{entry_of}
unfoldable pub use Rattle.card.specs.Address.{permitted_base}
use Rattle.card.specs.declared.card.Connectors.{Connectors}
use Rattle.card.specs.Connectors.{push_pull_type, is_output, no_connector, each, well_formed}

-- ---- single values

-- the largest address, and the largest clock code
abbrev pub largest_address : ℕ
largest_address = 255

abbrev pub largest_clock : ℕ
largest_clock = 4

-- the clock code under which BNC1 brings the trigger
abbrev pub front_trigger : ℕ
front_trigger = 4

-- 5: "pointer place"
unfoldable pub bad_place : (n p : ℕ) → Bool
bad_place n p = not (among first_cell n p || among first_connector connector_count p)

-- 7: "cell type over 18, connector type over 2, clock over 4", where cell types now go to 22
unfoldable pub bad_cell_type : ℕ → Bool
bad_cell_type v = nat_le type_count v

unfoldable pub bad_connector_type : ℕ → Bool
bad_connector_type v = nat_lt push_pull_type v

unfoldable pub bad_clock : ℕ → Bool
bad_clock v = nat_lt largest_clock v

-- 9: "configuration over its range, or a type that has none", by the largest of the range
abbrev pub over : Option ℕ → ℕ → Bool
over None v = true
over (Some largest) v = nat_lt largest v

unfoldable pub bad_config : (kind v : ℕ) → Bool
bad_config kind v = over (row_of kind).largest v

-- 10: "slot not used", of the slots that are given
unfoldable pub unused_slot : ℕ → Slots → Bool
unused_slot kind given =
    ((given.x && not (row_of kind).used.x) || (given.y && not (row_of kind).used.y))
    || ((given.z && not (row_of kind).used.z) || (given.f && not (row_of kind).used.f))

-- 11: "address over 255 or reserved", by its entry
unfoldable pub bad_address : (n a : ℕ) → Bool
bad_address n a = nat_lt largest_address a || not (entry_of n a).permitted

-- 13: BNC1, the first connector, an output while the trigger is 4
unfoldable pub front_driven : (trigger kind : ℕ) → Bool
front_driven trigger kind = trigger == front_trigger && is_output kind

-- ---- settings

-- 15: "unused slot or configuration not 0; edge slot under 128", else an address that a line could
-- set
unfoldable pub valid_slot : (n : ℕ) (used edge : Bool) (a : ℕ) → Bool
valid_slot n used edge a = cond used (not (bad_address n a) && (not edge || (entry_of n a).edge)) (a == 0)

-- the four slots of a cell
unfoldable pub valid_slots : ℕ → Row → List ℕ → Bool
valid_slots n row s =
    (length s == 4)
    && ((valid_slot n row.used.x row.edge.x (slice_index s 0) && valid_slot n row.used.y row.edge.y (slice_index s 1))
    && (valid_slot n row.used.z row.edge.z (slice_index s 2) && valid_slot n row.used.f row.edge.f (slice_index s 3)))

-- the largest configuration of a type without one is 0
unfoldable pub valid_cell : ℕ → Cell → Bool
valid_cell n cell =
    (not (bad_cell_type cell.kind) && nat_le cell.config (unwrap_or (row_of cell.kind).largest 0)) && valid_slots n (row_of cell.kind) cell.slots

unfoldable pub valid_connector : ℕ → Connector → Bool
valid_connector n k = not (bad_connector_type k.kind) && not (bad_address n k.source)

-- settings of a card of n cells as a record holds them. A list may have cells after the first n;
-- nothing is asked of them
unfoldable pub valid : (n trigger : ℕ) → List Cell → List Connector → Bool
valid n trigger cells connectors =
    ((not (bad_clock trigger) && not (front_driven trigger (slice_index_or connectors 0 no_connector).kind))
    && (length (take n cells) == n && length connectors == connector_count))
    && (every (valid_cell n) (take n cells) && every (valid_connector n) connectors)

-- the settings of a card that lines can set
abbrev pub valid_settings : (n trigger : ℕ) → List Cell → Connectors → Bool
valid_settings n trigger cells connectors = well_formed connectors && valid n trigger cells (each connectors)

unfoldable pub valid_card : ℕ → Card → Bool
valid_card n c = valid_settings n c.trigger c.cells c.connectors

-- ---- what a type keeps

-- a counter's count takes the place of a configuration where one is read
abbrev pub is_counted : Kept → Bool
is_counted Stateless = false
is_counted Bit = false
is_counted Count = false
is_counted Counted = true

-- 9, of a read: "a type that has none"; document 02: of a counter "a CCA Z read gives the count"
unfoldable pub no_config : ℕ → Bool
no_config kind = not (is_some (row_of kind).largest || is_counted (row_of kind).kept)

-- 12: "no state, or over 1 in a flip-flop"; document 02, "Long exposures": "A counter's F over
-- 65535 gives 12"
unfoldable pub bad_state_as : Kept → ℕ → Bool
bad_state_as Stateless v = true
bad_state_as Bit v = nat_lt 1 v
bad_state_as Count v = false
bad_state_as Counted v = nat_lt largest_count v

unfoldable pub bad_state : (kind v : ℕ) → Bool
bad_state kind v = bad_state_as (row_of kind).kept v

-- 12, of a read: "no state"
unfoldable pub no_state : ℕ → Bool
no_state kind = bad_state kind 0
