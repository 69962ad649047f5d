-- Document 01, "Who wakes": why the cells of a card wake in a tick, over the number n of cells.
-- What they read is that of the tick's own definition.
use Rattle.std.specs.Prelude.{ℕ, Bool, false, cond, List, eqb, get_or, replicate}
use Rattle.words.specs.Bits.{bit_at}
use Rattle.words.specs.Listed.{listed}
use Rattle.cells.specs.declared.cell.Cell.{Cell}
use Rattle.reasons.specs.declared.cell.Reasons.{Reasons}
use Rattle.cells.specs.Table.{no_slot}
use Rattle.cells.specs.State.{state_of}
use Rattle.reasons.specs.CellReasons.{reasons_of}
use Rattle.card.specs.declared.card.Card.{Card}
use Rattle.card.specs.Fresh.{no_cell}
use Rattle.ticks.specs.declared.view.Input.{Input}
use Rattle.ticks.specs.declared.view.Wires.{Wires}
use Rattle.ticks.specs.Tick.{read_now, read_last, outputs_below, wires_of, lines}

-- cell i's reasons, by what it reads in this tick and read in the last one that ran; `below` is the
-- word of this tick's outputs
unfoldable pub reasons_at : (n : ℕ) → Cell → (i edited : ℕ) → Wires → ℕ → Reasons
reasons_at n cell i edited w below =
    reasons_of cell.kind (state_of cell) (bit_at edited i) (read_now n i w below cell.slots) (read_last n i w cell.slots)

-- in a tick of either kind that runs
abbrev pub reasons_in : (n : ℕ) → Bool → Card → Input → ℕ → Reasons
reasons_in n full c input i =
    let w = wires_of c.memory (lines n c input).levels in
    reasons_at n (get_or c.cells i no_cell) i c.edited w (outputs_below n full c.cells c.edited w i)

abbrev pub no_reasons : Reasons
no_reasons = record { edited = false; moved = no_slot; now = no_slot; clock = false; trigger = false; other = false }

-- of every cell; an idle tick wakes none
unfoldable pub tick_reasons : (n : ℕ) → Bool → Card → Input → List Reasons
tick_reasons n full c input = cond (eqb input.code c.trigger) (listed (reasons_in n full c input) n) (replicate n no_reasons)
