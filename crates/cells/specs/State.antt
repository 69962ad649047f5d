-- What a cell keeps between ticks, as a whole.
use Rattle.std.specs.Prelude.{ℕ, Bool, List}
use Rattle.cells.specs.declared.cell.Cell.{Cell}
use Rattle.cells.specs.declared.cell.State.{State}
use Rattle.cells.specs.declared.cell.Pulses.{Pulses}

-- a state by its parts
abbrev pub state : Pulses → (bit pulse : Bool) → State
state count bit pulse = record { count = count; bit = bit; pulse = pulse }

-- the state of a cell
abbrev pub state_of : Cell → State
state_of cell = state cell.count cell.bit cell.pulse

-- a cell with these settings and this state, and a cell with another state
abbrev pub cell_of : (kind config : ℕ) (slots : List ℕ) → State → Cell
cell_of kind config slots s = record { kind = kind; config = config; slots = slots; count = s.count; bit = s.bit; pulse = s.pulse }

abbrev pub with_state : Cell → State → Cell
with_state cell s = cell_of cell.kind cell.config cell.slots s
