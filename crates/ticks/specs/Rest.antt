-- When a card is at rest, so that its clock may stop, and what the code tests for it: over the
-- number n of cells. The same tests are the fast path of a quick tick, which looks at no cell
-- closely; no rule of document 01 is in them, and the law is that such a tick is the tick of
-- specs/Tick.
use Rattle.std.specs.Prelude.{ℕ, zero, suc, ◌+◌, ◌≡◌, Bool, true, false, not, ◌&&◌, cond, List, eqb, ltb, get_or}
use Rattle.cells.specs.declared.cell.Cell.{Cell}
use Rattle.cells.specs.State.{state_of}
use Rattle.cells.specs.Wake.{stirred}
use Rattle.card.specs.declared.card.Card.{Card}
use Rattle.card.specs.declared.card.Memory.{Memory}
use Rattle.card.specs.Fresh.{no_cell}
use Rattle.card.specs.Tally.{ticks, standstill}
use Rattle.ticks.specs.declared.view.Input.{Input}
use Rattle.ticks.specs.declared.tick.Answer.{Answer}
use Rattle.ticks.specs.declared.tick.Turned.{Turned}
use Rattle.ticks.specs.declared.view.Wires.{Wires}
use Rattle.ticks.specs.Reading.{slots_read, view}
use Rattle.ticks.specs.Tick.{idle, tick}

-- a card with another tick total
abbrev pub with_total : Card → ℕ → Card
with_total c total =
    record {
      pointer = c.pointer;
      trigger = c.trigger;
      cells = c.cells;
      connectors = c.connectors;
      edited = c.edited;
      memory = c.memory;
      size = c.size;
      tallies = record { cells = c.tallies.cells; total = ticks total };
    }

abbrev pub total_of : Card → ℕ
total_of c = c.tallies.total.0

-- a card is at rest under an input: a quick tick with it would name no cell and leave all but the
-- tick total as it is
pub record AtRest (n : ℕ) (c : Card) (input : Input) : Type 0 where
  pub asleep : (tick n false c input).answer.woken ≡ 0
  pub kept : with_total (tick n false c input).card (total_of c) ≡ c

-- "how many ticks ran ... Once the tick total is 4,294,967,295 all of them stand still": the total
-- after k ticks more
abbrev pub total_after : (total k : ℕ) → ℕ
total_after total k = cond (ltb total standstill) (cond (ltb (total + k) standstill) (total + k) standstill) total

-- the total of a card at rest after k ticks with the input: those on another clock do not run
abbrev pub rest_total : Card → Input → (k : ℕ) → ℕ
rest_total c input k = cond (eqb input.code c.trigger) (total_after (total_of c) k) (total_of c)

-- what a quick tick of a card at rest answers: the words of the last tick that ran, and no cell
-- woken; another clock's is idle
abbrev pub still_answer : Memory → Answer
still_answer m = record { ran = true; driven = m.driven; cells = m.outputs; woken = 0; count = 0 }

abbrev pub rest_answer : Card → Input → Answer
rest_answer c input = cond (eqb input.code c.trigger) (still_answer c.memory) (idle c).answer

-- an answer is true exactly where a statement holds
abbrev pub Decides : Bool → Type 0 → Type 0
Decides q S = (q ≡ true → S) × (S → q ≡ true)

-- ---- what the code tests

-- every word is what it was in the last two ticks
abbrev pub steady : Wires → Bool
steady w =
    (eqb w.outputs2 w.outputs && eqb w.outputs3 w.outputs) && (eqb w.levels2 w.levels && eqb w.levels3 w.levels)

-- nothing stirs a cell under a view that does not change
abbrev pub cell_rests : (ℕ → Bool) → Cell → Bool
cell_rests view cell = not (stirred cell.kind (state_of cell) (slots_read view view cell.slots))

-- nothing stirs any of the first n
unfoldable pub all_rest : ℕ → (ℕ → Bool) → List Cell → Bool
all_rest zero view cells = true
all_rest (suc n) view cells = all_rest n view cells && cell_rests view (get_or cells n no_cell)

-- ---- the fast path

-- a quick tick takes it: no cell is edited, no word has changed, and nothing stirs a cell
unfoldable pub is_quiet : ℕ → List Cell → (edited : ℕ) → Wires → Bool
is_quiet n cells edited w = (eqb edited 0 && steady w) && all_rest n (view n 0 w.outputs w.outputs w.levels) cells

-- the words of a tick in which every one is what it was in the last two
abbrev pub steady_wires : (outputs levels : ℕ) → Wires
steady_wires outputs levels =
    record { levels = levels; levels2 = levels; levels3 = levels; outputs = outputs; outputs2 = outputs; outputs3 = outputs }

-- what a tick has made of all cells, in parts
abbrev pub turned_to : List Cell → (outputs named woken : ℕ) → Turned
turned_to cells outputs named woken = record { cells = cells; outputs = outputs; named = named; woken = woken }

-- every cell has slept
abbrev pub slept_all : List Cell → ℕ → Turned
slept_all cells outputs = turned_to cells outputs 0 0
