-- Document 01, "One tick" and "Who wakes": a tick of either kind, over the number n of cells.
use Rattle.std.specs.Prelude.{ℕ, zero, suc, ◌+◌, ◌*◌, ◌%◌, ◌^◌, Bool, true, false, ◌||◌, cond, List, ◌++◌, eqb, drop, get_or}
use Rattle.std.specs.Int.Count.{ones}
use Rattle.words.specs.Bits.{bit_at, bit_number, word_of}
use Rattle.words.specs.Listed.{listed}
use Rattle.cells.specs.declared.table.Slots.{Slots}
use Rattle.cells.specs.declared.cell.Cell.{Cell}
use Rattle.cells.specs.declared.cell.Worked.{Worked}
use Rattle.cells.specs.State.{state_of, with_state}
use Rattle.cells.specs.Work.{work_out}
use Rattle.cells.specs.Wake.{wakes}
use Rattle.card.specs.declared.card.Card.{Card}
use Rattle.card.specs.declared.card.Memory.{Memory}
use Rattle.card.specs.declared.card.Connectors.{Connectors}
use Rattle.card.specs.Fresh.{no_cell}
use Rattle.card.specs.Tally.{tallied_by}
use Rattle.ticks.specs.declared.connectors.Lines.{Lines}
use Rattle.ticks.specs.declared.view.Input.{Input}
use Rattle.ticks.specs.declared.view.Wires.{Wires}
use Rattle.ticks.specs.declared.tick.Turned.{Turned}
use Rattle.ticks.specs.declared.tick.Answer.{Answer}
use Rattle.ticks.specs.declared.tick.Ticked.{Ticked}
use Rattle.ticks.specs.Reading.{slots_read, view}
use Rattle.ticks.specs.Levels.{effective_sample, lines_of}

-- ---- what a cell reads

-- what a reader in position i sees in this tick, saw in the last tick that ran, and saw in the one
-- before; `below` is the word of this tick's outputs, of which only those of cells below i are seen
abbrev pub sees_now : (n i : ℕ) → Wires → (below : ℕ) → ℕ → Bool
sees_now n i w below = view n i below w.outputs w.levels

abbrev pub saw_last : (n i : ℕ) → Wires → ℕ → Bool
saw_last n i w = view n i w.outputs w.outputs2 w.levels2

abbrev pub saw_earlier : (n i : ℕ) → Wires → ℕ → Bool
saw_earlier n i w = view n i w.outputs2 w.outputs3 w.levels3

-- the readings of four slots in this tick, and what they were in the last tick that ran
unfoldable pub read_now : (n i : ℕ) → Wires → ℕ → List ℕ → Slots
read_now n i w below s = slots_read (sees_now n i w below) (saw_last n i w) s

unfoldable pub read_last : (n i : ℕ) → Wires → List ℕ → Slots
read_last n i w s = slots_read (saw_last n i w) (saw_earlier n i w) s

-- ---- one cell

-- what a tick makes of one cell: the cell, its output, whether the rules name it, in a full tick
-- too, and whether it was worked out
pub record Turn : Type 0 where
  pub cell : Cell
  pub out : Bool
  pub named : Bool
  pub woke : Bool

-- "a cell worked out gets the state and output that "Cells" gives for its state and its slots as
-- read in this tick"
abbrev pub turn_to : Cell → (named : Bool) → Worked → Turn
turn_to cell named r = record { cell = with_state cell r.state; out = r.out; named = named; woke = true }

abbrev pub worked_turn : Cell → (named : Bool) → Slots → Turn
worked_turn cell named now = turn_to cell named (work_out cell.kind cell.config (state_of cell) now)

-- "others keep state and output"; the rules do not name them
abbrev pub slept_turn : Cell → Bool → Turn
slept_turn cell out = record { cell = cell; out = out; named = false; woke = false }

-- the rules name a cell: by whether it was edited, and what its slots read now and read in the last
-- tick that ran
abbrev pub rules_name : Cell → (edited : Bool) → (now last : Slots) → Bool
rules_name cell edited now last = wakes cell.kind (state_of cell) edited now last

-- a full tick works out every cell, a quick tick those that the rules name; `out` is the last
-- output
abbrev pub turn_by : (full : Bool) → Cell → (edited out : Bool) → (now last : Slots) → Turn
turn_by full cell edited out now last =
    let rule = rules_name cell edited now last in
    cond (full || rule) (worked_turn cell rule now) (slept_turn cell out)

-- the rules name cell i, and its turn
unfoldable pub named : (n : ℕ) → Cell → (i edited : ℕ) → Wires → ℕ → Bool
named n cell i edited w below = rules_name cell (bit_at edited i) (read_now n i w below cell.slots) (read_last n i w cell.slots)

unfoldable pub turn_at : (n : ℕ) → Bool → Cell → (i edited : ℕ) → Wires → ℕ → Turn
turn_at n full cell i edited w below =
    turn_by full cell (bit_at edited i) (bit_at w.outputs i) (read_now n i w below cell.slots) (read_last n i w cell.slots)

-- ---- all cells

-- "cells 1 to 16 are worked out in order": the word of the outputs of the cells below i, and the
-- turn of cell i, which sees them
module _ (n : ℕ) (full : Bool) (cells : List Cell) (edited : ℕ) (w : Wires) where
  unfoldable pub outputs_below : ℕ → ℕ
  outputs_below zero = 0
  outputs_below (suc i) =
      outputs_below i + bit_number (turn_at n full (get_or cells i no_cell) i edited w (outputs_below i)).out * 2 ^ i

  abbrev pub turn_of : ℕ → Turn
  turn_of i = turn_at n full (get_or cells i no_cell) i edited w (outputs_below i)

  abbrev pub cell_after : ℕ → Cell
  cell_after i = (turn_of i).cell

  abbrev pub turn_named : ℕ → Bool
  turn_named i = (turn_of i).named

  abbrev pub woke_at : ℕ → Bool
  woke_at i = (turn_of i).woke

  -- the new cells (those past n stay), the cell word, the set of the cells that the rules name, in
  -- a full tick too, and the woken set, "bit 0 cell 1"
  unfoldable pub turned : Turned
  turned =
      record { cells = listed cell_after n ++ drop n cells; outputs = outputs_below n; named = word_of turn_named n; woken = word_of woke_at n }

-- ---- a tick

abbrev pub wires_of : Memory → ℕ → Wires
wires_of m levels =
    record { levels = levels; levels2 = m.levels; levels3 = m.levels2; outputs = m.outputs; outputs2 = m.outputs2; outputs3 = m.outputs3 }

-- connectors are "read from the last tick's cells and levels, with edges against the tick before
-- that": no cell is below position 0
abbrev pub lines_in : (n : ℕ) → Memory → Connectors → ℕ → Lines
lines_in n m connectors sample =
    lines_of (view n 0 m.outputs m.outputs m.levels) (view n 0 m.outputs2 m.outputs2 m.levels2) connectors sample

abbrev pub lines : (n : ℕ) → Card → Input → Lines
lines n c input = lines_in n c.memory c.connectors (effective_sample input.sample input.attached)

-- of the cell words a card of n cells has n bits: no reader sees what a given card has above them,
-- and a tick that runs drops it
abbrev pub trimmed : (n : ℕ) → Memory → Memory
trimmed n m =
    record {
      driven = m.driven;
      pulled = m.pulled;
      outputs = m.outputs % 2 ^ n;
      outputs2 = m.outputs2 % 2 ^ n;
      outputs3 = m.outputs3 % 2 ^ n;
      levels = m.levels;
      levels2 = m.levels2;
    }

-- the memory moved on by a tick with these lines and outputs
abbrev pub moved : Memory → Lines → (outputs : ℕ) → Memory
moved m l outputs =
    record {
      driven = l.driven;
      pulled = l.pulled;
      outputs = outputs;
      outputs2 = m.outputs;
      outputs3 = m.outputs2;
      levels = l.levels;
      levels2 = m.levels;
    }

-- the card after a tick that ran: it clears the edits, moves the memory m on, and counts the cells
-- that the rules name
abbrev pub card_after : (n : ℕ) → Memory → Card → Lines → Turned → Card
card_after n m c l t =
    record {
      pointer = c.pointer;
      trigger = c.trigger;
      cells = t.cells;
      connectors = c.connectors;
      edited = 0;
      memory = moved m l t.outputs;
      size = c.size;
      tallies = tallied_by n (bit_at t.named) c.tallies;
    }

-- what a reader in position i reads in a tick that shows these levels, and in a tick that shows the
-- card's own
abbrev pub read_on : (n : ℕ) → Bool → Card → (levels : ℕ) → ℕ → List ℕ → Slots
read_on n full c levels i s =
    let w = wires_of c.memory levels in
    read_now n i w (outputs_below n full c.cells c.edited w i) s

abbrev pub read_in : (n : ℕ) → Bool → Card → Input → ℕ → List ℕ → Slots
read_in n full c input i s = read_on n full c (lines n c input).levels i s

-- "driven word ..., cell word ..., woken set ..., and the number of ones in that set"
abbrev pub answer_of : Lines → Turned → Answer
answer_of l t = record { ran = true; driven = l.driven; cells = t.outputs; woken = t.woken; count = ones t.woken }

abbrev pub turned_in : (n : ℕ) → Bool → Card → ℕ → Turned
turned_in n full c levels = turned n full c.cells c.edited (wires_of c.memory levels)

abbrev pub ran_with : (n : ℕ) → Memory → Card → Lines → Turned → Ticked
ran_with n m c l t = record { card = card_after n m c l t; answer = answer_of l t }

-- a tick that runs: the lines l, which are the driven word and the levels, and the turns of all
-- cells under these levels; and with the card's own lines
abbrev pub ticked_on : (n : ℕ) → Bool → Card → Lines → Ticked
ticked_on n full c l = ran_with n (trimmed n c.memory) c l (turned_in n full c l.levels)

abbrev pub ticked : (n : ℕ) → Bool → Card → Input → Ticked
ticked n full c input = ticked_on n full c (lines n c input)

-- "idle" and nothing changes; the words of an idle answer are 0
abbrev pub idle_answer : Answer
idle_answer = record { ran = false; driven = 0; cells = 0; woken = 0; count = 0 }

abbrev pub idle : Card → Ticked
idle c = record { card = c; answer = idle_answer }

-- "If the code isn't the chosen trigger source the answer is "idle" and nothing changes"
abbrev pub tick_on : (n : ℕ) → Bool → Card → (code : ℕ) → Lines → Ticked
tick_on n full c code l = cond (eqb code c.trigger) (ticked_on n full c l) (idle c)

-- a tick of the card by itself
unfoldable pub tick : (n : ℕ) → Bool → Card → Input → Ticked
tick n full c input = tick_on n full c input.code (lines n c input)
