-- Document 01, "Lines", its last sentence: the card as it powers up, with everything low and no
-- cell edited.
use Rattle.std.specs.Prelude.{ℕ, ◌-◌, ◌^◌, false, List, [], ◌++◌, replicate}
use Rattle.cells.specs.declared.cell.Cell.{Cell}
use Rattle.cells.specs.declared.cell.State.{State}
use Rattle.cells.specs.State.{cell_of}
use Rattle.cells.specs.Work.{pulses}
use Rattle.card.specs.declared.card.Connectors.{Connectors}
use Rattle.card.specs.declared.card.Card.{Card}
use Rattle.card.specs.declared.card.Memory.{Memory}
use Rattle.card.specs.Address.{cell_count, cell_room, connector_count, front_count}
use Rattle.card.specs.Tally.{no_tallies}

-- all that a cell keeps between ticks, cleared
abbrev pub clear_state : State
clear_state = record { bit = false; count = pulses 0; pulse = false }

-- "cells constant 0"
abbrev pub fresh_cell : Cell
fresh_cell = cell_of 0 0 (replicate 4 0) clear_state

-- past the list: a constant 0 with no slots
abbrev pub no_cell : Cell
no_cell = cell_of 0 0 [] clear_state

-- "BNCs push-pull from 0, backplane inputs from 0"
abbrev pub fresh_connectors : Connectors
fresh_connectors = record { sources = replicate connector_count 0; push_pull = 2 ^ front_count - 1; open_drain = 0 }

-- "everything before the first tick counts as low"
abbrev pub no_memory : Memory
no_memory = record { driven = 0; pulled = 0; outputs = 0; outputs2 = 0; outputs3 = 0; levels = 0; levels2 = 0 }

-- a card as it powers up with some settings: pointer 1, nothing remembered, and no tick counted
abbrev pub started : (size trigger : ℕ) → List Cell → Connectors → (edited : ℕ) → Card
started size trigger cells connectors edited =
    record {
      pointer = 1;
      trigger = trigger;
      cells = cells;
      connectors = connectors;
      edited = edited;
      memory = no_memory;
      size = size;
      tallies = no_tallies;
    }

-- "pointer 1, cells constant 0, BNCs push-pull from 0, backplane inputs from 0, trigger 0"; "a
-- fresh card has none edited": a card of n cells, with room after them
abbrev pub fresh_of : ℕ → Card
fresh_of n = started n 0 (replicate n fresh_cell ++ replicate (cell_room - n) fresh_cell) fresh_connectors 0

unfoldable pub fresh : Card
fresh = fresh_of cell_count
