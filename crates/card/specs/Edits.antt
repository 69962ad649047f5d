-- Document 01, "Lines": what an accepted line does to the card. No line alters the memory, which
-- has the outputs, the levels and the driven word. "Edited" is document 01's term for a cell that a
-- write has touched since the last tick that ran.
use Rattle.std.specs.Prelude.{ℕ, ◌+◌, ◌-◌, ◌^◌, Bool, true, false, cond, not, ◌&&◌, List, [], ◌∷◌, ◌++◌, map, take, drop, ◌==◌, nat_lt, slice_index, slice_index_or, slice_set}
use Rattle.words.specs.Bits.{with_bit}
use Rattle.cells.specs.declared.table.Slots.{Slots}
use Rattle.cells.specs.declared.table.Kept.{Kept}
use Rattle.cells.specs.declared.table.Kept.TheVariants.{Stateless, Bit, Count, Counted}
use Rattle.cells.specs.declared.cell.Cell.{Cell}
use Rattle.cells.specs.declared.cell.State.{State}
use Rattle.cells.specs.declared.cell.Pulses.{Pulses}
use Rattle.cells.specs.Table.{row_of}
use Rattle.cells.specs.State.{state_of, cell_of, with_state}
use Rattle.cells.specs.Work.{pulses}
use Rattle.card.specs.declared.card.Card.{Card}
use Rattle.card.specs.declared.card.Connector.{Connector}
use Rattle.card.specs.declared.card.Connectors.{Connectors}
use Rattle.card.specs.Address.{first_cell, first_connector, connector_count, among, edge_address}
use Rattle.card.specs.Connectors.{input, connector_at, no_connector, with_kind, with_source}
use Rattle.card.specs.Fresh.{clear_state, fresh_cell, no_cell}
use Rattle.card.specs.Valid.{front_trigger}

-- ---- parts of the card, replaced

-- all that a line can replace
abbrev pub with_parts : Card → (pointer trigger : ℕ) → List Cell → Connectors → (edited : ℕ) → Card
with_parts c pointer trigger cells connectors edited =
    record {
      pointer = pointer;
      trigger = trigger;
      cells = cells;
      connectors = connectors;
      edited = edited;
      memory = c.memory;
      size = c.size;
      tallies = c.tallies;
    }

abbrev pub with_pointer : Card → ℕ → Card
with_pointer c p = with_parts c p c.trigger c.cells c.connectors c.edited

-- the settings and states, with the cells that are now edited; nothing else of the card
abbrev pub with_settings : Card → (trigger : ℕ) → List Cell → Connectors → (edited : ℕ) → Card
with_settings c trigger cells connectors edited = with_parts c c.pointer trigger cells connectors edited

-- the card with the cell at index i replaced, and edited
abbrev pub with_cell : Card → ℕ → Cell → Card
with_cell c i cell = with_settings c c.trigger (slice_set c.cells i cell) c.connectors (with_bit c.edited i true)

abbrev pub with_connectors : Card → Connectors → Card
with_connectors c connectors = with_settings c c.trigger c.cells connectors c.edited

-- ---- the pointer

-- "moves the pointer (1-16, 33-48)": it is at a cell, or at a connector
abbrev pub is_at_cell : ℕ → Card → Bool
is_at_cell n c = among first_cell n c.pointer

abbrev pub is_at_connector : Card → Bool
is_at_connector c = among first_connector connector_count c.pointer

-- the cell or the connector at the pointer; elsewhere one with nothing set
unfoldable pub current_cell : ℕ → Card → Cell
current_cell n c = cond (is_at_cell n c) (slice_index_or c.cells (c.pointer - first_cell) no_cell) fresh_cell

unfoldable pub current_connector : Card → Connector
current_connector c = cond (is_at_connector c) (connector_at c.connectors (c.pointer - first_connector)) no_connector

-- the one at the pointer replaced; elsewhere nothing changes
unfoldable pub put_cell : ℕ → Card → Cell → Card
put_cell n c cell = cond (is_at_cell n c) (with_cell c (c.pointer - first_cell) cell) c

-- the row of connectors replaced where the pointer is at one
unfoldable pub put_connectors : Card → Connectors → Card
put_connectors c connectors = cond (is_at_connector c) (with_connectors c connectors) c

-- ---- the effects

-- "`M E=n` moves the pointer"
unfoldable pub move : Card → ℕ → Card
move c p = with_pointer c p

-- "`PM E=n` sets the trigger source; 4 also makes BNC1 an input": it keeps its source
unfoldable pub set_trigger : Card → ℕ → Card
set_trigger c t =
    with_settings c t c.cells
    (cond (t == front_trigger) (with_kind c.connectors 0 input) c.connectors)
    c.edited

-- "`HOME E` or `! E` clears all states"; "by HOME and by a load, all are" edited
abbrev pub cleared_cell : Cell → Cell
cleared_cell cell = with_state cell clear_state

-- the first n of some cells; the others stay
abbrev pub cleared_cells : ℕ → List Cell → List Cell
cleared_cells n cells = map cleared_cell (take n cells) ++ drop n cells

unfoldable pub home : ℕ → Card → Card
home n c = with_settings c c.trigger (cleared_cells n c.cells) c.connectors (2 ^ n - 1)

-- "edge slots become 128"
abbrev pub blank_slot : Bool → ℕ
blank_slot edge = cond edge edge_address 0

abbrev pub blank_slots : Slots → List ℕ
blank_slots edge = blank_slot edge.x ∷ blank_slot edge.y ∷ blank_slot edge.z ∷ blank_slot edge.f ∷ []

-- "Y sets the type (clears configuration, slots, state; edge slots become 128)"
unfoldable pub typed : ℕ → Cell
typed kind = cell_of kind 0 (blank_slots (row_of kind).edge) clear_state

unfoldable pub set_type : (n : ℕ) → Card → (kind : ℕ) → Card
set_type n c kind = put_cell n c (typed kind)

-- "Z the configuration (clears a timer's state)"; a counter has no configuration to write
unfoldable pub configured_state : Kept → State → State
configured_state Stateless s = s
configured_state Bit s = s
configured_state Count s = clear_state
configured_state Counted s = s

unfoldable pub configured : Cell → ℕ → Cell
configured cell config = cell_of cell.kind config cell.slots (configured_state (row_of cell.kind).kept (state_of cell))

unfoldable pub set_config : (n : ℕ) → Card → (config : ℕ) → Card
set_config n c config = put_cell n c (configured (current_cell n c) config)

-- "F the state: 0 or 1 for flip-flops, the count for timers, ending a pulse"; a type that keeps no
-- state has none to set
abbrev pub bit_state : State → Bool → State
bit_state s bit = record { bit = bit; count = s.count; pulse = s.pulse }

abbrev pub count_state : State → Pulses → State
count_state s count = record { bit = s.bit; count = count; pulse = false }

-- document 02: of a counter F "writes the count and leaves "active" as it is"
abbrev pub recounted_state : State → Pulses → State
recounted_state s count = record { bit = s.bit; count = count; pulse = s.pulse }

unfoldable pub stated_as : Kept → State → ℕ → State
stated_as Stateless s v = s
stated_as Bit s v = bit_state s (not (v == 0))
stated_as Count s v = count_state s (pulses v)
stated_as Counted s v = recounted_state s (pulses v)

unfoldable pub stated : Cell → ℕ → Cell
stated cell v = with_state cell (stated_as (row_of cell.kind).kept (state_of cell) v)

unfoldable pub set_state : (n : ℕ) → Card → (v : ℕ) → Card
set_state n c v = put_cell n c (stated (current_cell n c) v)

-- "an edge-sensitive slot given 0-127 stores that plus 128"
abbrev pub stored_address : Bool → ℕ → ℕ
stored_address edge v = cond (edge && nat_lt v edge_address) (v + edge_address) v

-- "`36CCB` with one to four different `p=n`": the slots given take the values, the others stay
abbrev pub wired_slot : (given edge : Bool) (v old : ℕ) → ℕ
wired_slot given edge v old = cond given (stored_address edge v) old

abbrev pub wired_slots : Slots → Slots → List ℕ → List ℕ → List ℕ
wired_slots given edge v old =
    wired_slot given.x edge.x (slice_index v 0) (slice_index old 0)
    ∷ wired_slot given.y edge.y (slice_index v 1) (slice_index old 1)
    ∷ wired_slot given.z edge.z (slice_index v 2) (slice_index old 2)
    ∷ wired_slot given.f edge.f (slice_index v 3) (slice_index old 3)
    ∷ []

unfoldable pub wired : Cell → Slots → List ℕ → Cell
wired cell given v = cell_of cell.kind cell.config (wired_slots given (row_of cell.kind).edge v cell.slots) (state_of cell)

unfoldable pub set_slots : ℕ → Card → Slots → List ℕ → Card
set_slots n c given v = put_cell n c (wired (current_cell n c) given v)

-- "At a connector Y is 0 input, 1 open-drain, 2 push-pull, and Z the source"
unfoldable pub set_connector_type : Card → ℕ → Card
set_connector_type c kind = put_connectors c (with_kind c.connectors (c.pointer - first_connector) kind)

unfoldable pub set_source : Card → ℕ → Card
set_source c source = put_connectors c (with_source c.connectors (c.pointer - first_connector) source)
