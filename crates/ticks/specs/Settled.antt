-- Why a quick tick may leave a cell alone: what the card remembers that a cell read, and when its
-- cells may sleep.
use Rattle.std.specs.Prelude.{ℕ, ◌<◌, ◌≡◌, Bool, false, List, get_or}
use Rattle.words.specs.Bits.{bit_at}
use Rattle.cells.specs.declared.table.Slots.{Slots}
use Rattle.cells.specs.declared.cell.Cell.{Cell}
use Rattle.cells.specs.State.{state_of}
use Rattle.cells.specs.Work.{keeping, work_out}
use Rattle.cells.specs.Wake.{stirred, disagree}
use Rattle.card.specs.declared.card.Card.{Card}
use Rattle.card.specs.declared.card.Memory.{Memory}
use Rattle.card.specs.Fresh.{no_cell}
use Rattle.ticks.specs.declared.tick.Ticked.{Ticked}
use Rattle.ticks.specs.Reading.{slots_read, view}

-- what a reader in position i read in the last tick that ran, by the memory of it
unfoldable pub remembered : (n i : ℕ) → Memory → List ℕ → Slots
remembered n i m s = slots_read (view n i m.outputs m.outputs2 m.levels) (view n i m.outputs2 m.outputs3 m.levels2) s

-- a cell with an output keeps both its state and the output when it is worked out with any readings
-- that agree with `last` on the used slots that are no edge slots, and that stir nothing
unfoldable pub Keeps : Cell → Bool → Slots → Type 0
Keeps cell out last = (now : Slots) → disagree cell.kind now last ≡ false → stirred cell.kind (state_of cell) now ≡ false
    → work_out cell.kind cell.config (state_of cell) now ≡ keeping (state_of cell) out

-- every cell that is not edited does
unfoldable pub Settled : ℕ → Card → Type 0
Settled n c = (i : ℕ) → i < n → bit_at c.edited i ≡ false
    → Keeps (get_or c.cells i no_cell) (bit_at c.memory.outputs i) (remembered n i c.memory (get_or c.cells i no_cell).slots)

-- two ticks are alike: the same card, and answers that agree in whether the tick ran, its driven
-- word and its cell word
pub record AlikeTicks (a b : Ticked) : Type 0 where
  pub card : a.card ≡ b.card
  pub ran : a.answer.ran ≡ b.answer.ran
  pub driven : a.answer.driven ≡ b.answer.driven
  pub cells : a.answer.cells ≡ b.answer.cells
