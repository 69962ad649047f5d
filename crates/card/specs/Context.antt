-- Document 01, "Lines": what a line goes by before it changes anything, what its reads give, and
-- row 13 of "When the card says no".
use Rattle.std.specs.Prelude.{ℕ, ◌/◌, ◌%◌, Bool, cond, ◌&&◌, ◌==◌, nat_lt, slice_index}
use Rattle.words.specs.Bits.{bit_number}
use Rattle.cells.specs.declared.table.Kept.{Kept}
use Rattle.cells.specs.declared.table.Kept.TheVariants.{Stateless, Bit, Count, Counted}
use Rattle.cells.specs.declared.cell.State.{State}
use Rattle.cells.specs.declared.cell.Cell.{Cell}
use Rattle.cells.specs.State.{state_of}
use Rattle.cells.specs.Table.{row_of}
use Rattle.card.specs.declared.card.Card.{Card}
use Rattle.card.specs.declared.context.Context.{Context}
use Rattle.card.specs.Address.{first_connector}
use Rattle.card.specs.Edits.{is_at_cell, current_cell, current_connector}
use Rattle.card.specs.Presets.{sets_front}
use Rattle.card.specs.Valid.{front_trigger, front_driven, is_counted}

-- where the pointer is and what is there, the trigger source, and the words "as of the last
-- tick"
abbrev pub context_of : ℕ → Card → Context
context_of n c =
    record {
      pointer = c.pointer;
      at_cell = is_at_cell n c;
      trigger = c.trigger;
      cell = current_cell n c;
      connector = current_connector c;
      levels = c.memory.levels;
      outputs = c.memory.outputs;
      size = c.size;
    }

-- ---- what reads give

-- "`36CCA p?` reads Y, Z or F": the type; the configuration of a cell or the source of a connector;
-- the state
abbrev pub type_read : Context → ℕ
type_read x = cond x.at_cell x.cell.kind x.connector.kind

-- document 02: of a counter "a CCA Z read gives the count"
unfoldable pub config_shown : Cell → ℕ
config_shown cell = cond (is_counted (row_of cell.kind).kept) cell.count.0 cell.config

abbrev pub config_read : Context → ℕ
config_read x = cond x.at_cell (config_shown x.cell) x.connector.source

-- a flip-flop's bit, a timer's count, a counter's
unfoldable pub state_as : Kept → State → ℕ
state_as Stateless s = 0
state_as Bit s = bit_number s.bit
state_as Count s = s.count.0
state_as Counted s = s.count.0

abbrev pub state_read : Context → ℕ
state_read x = state_as (row_of x.cell.kind).kept (state_of x.cell)

-- "`36CCB p?`", the slots counted from X; there are four
abbrev pub slot_read : Context → ℕ → ℕ
slot_read x i = cond (nat_lt i 4) (slice_index x.cell.slots i) 0

-- "`36RDADC X?` front levels, `Y?` backplane": the bits 0-7 and 8-15 of the levels
abbrev pub front_read : Context → ℕ
front_read x = x.levels % 256

abbrev pub back_read : Context → ℕ
back_read x = x.levels / 256

-- "`Z?` cells": the lower sixteen; document 02, "Thirty-two cells": "`36RDADC F?` reads cells 17 to
-- 32"
abbrev pub lower_read : Context → ℕ
lower_read x = x.outputs % 65536

abbrev pub upper_read : Context → ℕ
upper_read x = x.outputs / 65536

-- ---- 13: "a line makes BNC1 an output while trigger is 4"

abbrev pub drives_front : Context → ℕ → Bool
drives_front x v = x.pointer == first_connector && front_driven x.trigger v

abbrev pub preset_drives : (n : ℕ) → Context → (v : ℕ) → Bool
preset_drives n x v = sets_front n v && x.trigger == front_trigger
