-- Document 01, "Who wakes" and the last sentences of "Lists of calls": what a tick makes of any
-- card, reachable or not, over the number n of cells. The set has a cell exactly where the rules
-- name it (in a full tick every cell), such a cell "gets the state and output that "Cells" gives
-- for its state and its slots as read in this tick", and the "others keep state and output". Said
-- of a tick with any lines, and of a tick with the card's own.
use Rattle.std.specs.Prelude.{ℕ, ◌^◌, ◌≤◌, ◌<◌, ◌≡◌, Bool, true, ◌||◌, cond, get_or}
use Rattle.std.specs.Int.Count.{ones}
use Rattle.words.specs.Bits.{bit_at, count_of}
use Rattle.cells.specs.declared.table.Slots.{Slots}
use Rattle.cells.specs.declared.cell.Cell.{Cell}
use Rattle.cells.specs.declared.cell.Worked.{Worked}
use Rattle.cells.specs.State.{state_of, with_state}
use Rattle.cells.specs.Work.{work_out}
use Rattle.card.specs.declared.card.Card.{Card}
use Rattle.card.specs.Fresh.{no_cell}
use Rattle.card.specs.Tally.{tallied_by}
use Rattle.ticks.specs.declared.connectors.Lines.{Lines}
use Rattle.ticks.specs.declared.view.Input.{Input}
use Rattle.ticks.specs.declared.tick.Ticked.{Ticked}
use Rattle.ticks.specs.Tick.{rules_name, read_on, lines, trimmed, moved, idle, tick_on, tick}
use Rattle.ticks.specs.Settled.{remembered}

-- cell i before the tick, and what its slots read in it
abbrev pub cell_before : Card → ℕ → Cell
cell_before c i = get_or c.cells i no_cell

abbrev pub reads_at : (n : ℕ) → Bool → Card → (levels : ℕ) → ℕ → Slots
reads_at n full c levels i = read_on n full c levels i (cell_before c i).slots

-- the rules name it, by what the memory says that it read in the last tick that ran; and it is
-- worked out, if they do or the tick is full
abbrev pub cell_named : (n : ℕ) → Bool → Card → (levels : ℕ) → ℕ → Bool
cell_named n full c levels i =
    let cell = cell_before c i in
    rules_name cell (bit_at c.edited i) (reads_at n full c levels i) (remembered n i c.memory cell.slots)

abbrev pub due_at : (n : ℕ) → Bool → Card → (levels : ℕ) → ℕ → Bool
due_at n full c levels i = full || cell_named n full c levels i

-- what "Cells" gives for it
abbrev pub worked_at : (n : ℕ) → Bool → Card → (levels : ℕ) → ℕ → Worked
worked_at n full c levels i =
    let cell = cell_before c i in
    work_out cell.kind cell.config (state_of cell) (reads_at n full c levels i)

-- the cell after the tick, and its output
abbrev pub cell_exact : (n : ℕ) → Bool → Card → (levels : ℕ) → ℕ → Cell
cell_exact n full c levels i = cond (due_at n full c levels i) (with_state (cell_before c i) (worked_at n full c levels i).state) (cell_before c i)

abbrev pub output_exact : (n : ℕ) → Bool → Card → (levels : ℕ) → ℕ → Bool
output_exact n full c levels i = cond (due_at n full c levels i) (worked_at n full c levels i).out (bit_at c.memory.outputs i)

-- a tick that ran. Of each cell: its bit of the set, the cell, and its bit of the cell word. The
-- count is "the number of ones in that set", which is the number of cells that are due; neither
-- word has a bit from n on. Cells past n stay, and so do pointer, trigger source, connectors and
-- size; the edits are cleared. The tallies count the cells that the rules name. The driven word and
-- the levels are those of the lines, and the memory moves on, of which the earlier cell words are
-- cut to n bits
pub record Exact (n : ℕ) (full : Bool) (c : Card) (l : Lines) (t : Ticked) : Type 0 where
  pub ran : t.answer.ran ≡ true
  pub woken : (i : ℕ) → i < n → bit_at t.answer.woken i ≡ due_at n full c l.levels i
  pub cell : (i : ℕ) → i < n → get_or t.card.cells i no_cell ≡ cell_exact n full c l.levels i
  pub output : (i : ℕ) → i < n → bit_at t.answer.cells i ≡ output_exact n full c l.levels i
  pub count : t.answer.count ≡ ones t.answer.woken
  pub counted : t.answer.count ≡ count_of (due_at n full c l.levels) n
  pub set_fits : t.answer.woken < 2 ^ n
  pub word_fits : t.answer.cells < 2 ^ n
  pub beyond : (i : ℕ) → n ≤ i → get_or t.card.cells i no_cell ≡ cell_before c i
  pub pointer : t.card.pointer ≡ c.pointer
  pub trigger : t.card.trigger ≡ c.trigger
  pub connectors : t.card.connectors ≡ c.connectors
  pub size : t.card.size ≡ c.size
  pub edited : t.card.edited ≡ 0
  pub tallies : t.card.tallies ≡ tallied_by n (cell_named n full c l.levels) c.tallies
  pub driven : t.answer.driven ≡ l.driven
  pub memory : t.card.memory ≡ moved (trimmed n c.memory) (record { driven = t.answer.driven; pulled = l.pulled; levels = l.levels })
      t.answer.cells

-- on every card, for either kind of tick and whatever its lines: its own clock does exactly this,
-- and every other leaves the card and answers idle, with words of 0. So does a tick of the card by
-- itself, whose connectors are driven as "One tick" says
pub record WorksExactly (n : ℕ) : Type 0 where
  pub own_on : (full : Bool) (c : Card) (code : ℕ) (l : Lines) → code ≡ c.trigger → Exact n full c l (tick_on n full c code l)
  pub other_on : (full : Bool) (c : Card) (code : ℕ) (l : Lines) → (code ≡ c.trigger → ⊥) → tick_on n full c code l ≡ idle c
  pub own : (full : Bool) (c : Card) (input : Input) → input.code ≡ c.trigger → Exact n full c (lines n c input) (tick n full c input)
  pub other : (full : Bool) (c : Card) (input : Input) → (input.code ≡ c.trigger → ⊥) → tick n full c input ≡ idle c
