-- Lists of ticks on one card: which of them run, what a cell's slots read in those, and the card
-- that they leave. The card's own ticks have the lines that its connectors give. In a rack the
-- lines come from elsewhere, so all is said of any way to give them.
use Rattle.std.specs.Prelude.{ℕ, ◌≡◌, Bool, true, false, cond, List, [], ◌∷◌, eqb, get_or}
use Rattle.cells.specs.declared.table.Slots.{Slots}
use Rattle.cells.specs.declared.cell.Cell.{Cell}
use Rattle.card.specs.declared.card.Card.{Card}
use Rattle.card.specs.Fresh.{no_cell}
use Rattle.ticks.specs.declared.connectors.Lines.{Lines}
use Rattle.ticks.specs.declared.view.Input.{Input}
use Rattle.ticks.specs.declared.tick.Ticked.{Ticked}
use Rattle.ticks.specs.Tick.{read_on, lines, tick_on, tick}

-- ---- one tick

-- a tick whose lines are given: whether it is full, its clock code, and what the connectors drive
-- and show
pub record Step : Type 0 where
  pub full : Bool
  pub code : ℕ
  pub lines : Lines

-- cell i
abbrev pub cell_at : Card → ℕ → Cell
cell_at c i = get_or c.cells i no_cell

-- it runs; what cell i's slots read in it; what it makes of the card, and its answer
abbrev pub step_runs : Card → Step → Bool
step_runs c s = eqb s.code c.trigger

abbrev pub step_reads : (n : ℕ) → Card → Step → (i : ℕ) → Slots
step_reads n c s i = read_on n s.full c s.lines.levels i (cell_at c i).slots

abbrev pub stepped : ℕ → Card → Step → Ticked
stepped n c s = tick_on n s.full c s.code s.lines

-- ---- lists of ticks

-- `on` says which step a tick is on the card as it then is
module _ (n : ℕ) (T : Type 0) (on : Card → T → Step) where
  abbrev pub tick_by : Card → T → Ticked
  tick_by c t = stepped n c (on c t)

  -- the last of some ticks, and the card after all of them
  unfoldable pub last_of : Card → T → List T → Ticked
  last_of c t [] = tick_by c t
  last_of c t (u ∷ ts) = last_of (tick_by c t).card u ts

  unfoldable pub after_all : Card → List T → Card
  after_all c [] = c
  after_all c (t ∷ ts) = after_all (tick_by c t).card ts

  -- what cell i's slots read in those that run, in order
  unfoldable pub readings_in : Card → List T → ℕ → List Slots
  readings_in c [] i = []
  readings_in c (t ∷ ts) i =
      let rest = readings_in (tick_by c t).card ts i in
      cond (step_runs c (on c t)) (step_reads n c (on c t) i ∷ rest) rest

  -- in each of those it holds of the cell as it comes into the tick, and of what its slots read
  unfoldable pub Throughout : (Cell → Slots → Type 0) → Card → List T → ℕ → Type 0
  Throughout H c [] i = Unit {0}
  Throughout H c (t ∷ ts) i =
      (step_runs c (on c t) ≡ true → H (cell_at c i) (step_reads n c (on c t) i)) × Throughout H (tick_by c t).card ts i

-- none of the readings found the reset, slot Z of timers and counters, high
unfoldable pub ResetLow : List Slots → Type 0
ResetLow [] = Unit {0}
ResetLow (r ∷ rs) = (r.z ≡ false) × ResetLow rs

-- ---- the card's own ticks

-- a list of them: of each whether it is full, and what comes in with it
abbrev pub Ticks : Type 0
Ticks = List (Bool × Input)

-- the lines are the card's own
abbrev pub own : ℕ → Card → Bool × Input → Step
own n c t = record { full = t.0; code = t.1.code; lines = lines n c t.1 }

-- a tick runs; the card after it, and after a list of them
abbrev pub runs : Card → Bool × Input → Bool
runs c t = eqb t.1.code c.trigger

abbrev pub after_tick : ℕ → Card → Bool × Input → Card
after_tick n c t = (tick n t.0 c t.1).card

abbrev pub after_ticks : ℕ → Card → Ticks → Card
after_ticks n c ts = after_all n (Bool × Input) (own n) c ts

-- what cell i's slots read in those of a list that ran, in order
abbrev pub readings : (n : ℕ) → Card → Ticks → (i : ℕ) → List Slots
readings n c ts i = readings_in n (Bool × Input) (own n) c ts i
