-- Document 02, "A delay keeps its word": after a trigger, over any list of ticks, of either kind
-- and idle ones among them, that find a timer's reset low and take no other trigger, its count and
-- its output are those of its duration and the number of pulses. Said of any card, and of any way
-- to give the lines.
use Rattle.std.specs.Prelude.{ℕ, ◌-◌, ◌<◌, ◌≤◌, ◌≡◌, Bool, true, false, List}
use Rattle.words.specs.Bits.{bit_at}
use Rattle.cells.specs.declared.table.Slots.{Slots}
use Rattle.cells.specs.declared.table.Class.{Class}
use Rattle.cells.specs.declared.cell.Cell.{Cell}
use Rattle.cells.specs.State.{state_of}
use Rattle.cells.specs.Table.{row_of}
use Rattle.cells.specs.Timing.{is_timer, takes, pulses_in, pulses_before, shown, ignoring}
use Rattle.card.specs.declared.card.Card.{Card}
use Rattle.ticks.specs.declared.view.Input.{Input}
use Rattle.ticks.specs.declared.tick.Ticked.{Ticked}
use Rattle.ticks.specs.Runs.{Step, cell_at, step_runs, step_reads, tick_by, last_of, readings_in, Throughout, ResetLow, own}

-- what a cell's type does
abbrev pub class_of : Cell → Class
class_of cell = (row_of cell.kind).class

-- "a timer of duration d, at least 1," takes a trigger in a tick: the tick runs, and the timer
-- takes one by the state that it comes with and what its slots read
pub record TakesTrigger (n : ℕ) (c : Card) (s : Step) (i : ℕ) : Type 0 where
  pub timer : is_timer (class_of (cell_at c i)) ≡ true
  pub duration : 1 ≤ (cell_at c i).config
  pub ran : step_runs c s ≡ true
  pub took : takes (cell_at c i).kind (state_of (cell_at c i)) (step_reads n c s i) ≡ true

-- the cell takes no trigger by these readings
abbrev pub TakesNone : Cell → Slots → Type 0
TakesNone cell r = takes cell.kind (state_of cell) r ≡ false

-- what is promised after a tick: the count, the output, that is the cell's bit in the cell word,
-- and the same bit in the answer of a tick that ran
pub record TimerAfter (t : Ticked) (i : ℕ) (k : Class) (d p : ℕ) : Type 0 where
  pub count : (cell_at t.card i).count.0 ≡ d - p
  pub output : bit_at t.card.memory.outputs i ≡ shown k d p
  pub answer : t.answer.ran ≡ true → bit_at t.answer.cells i ≡ shown k d p

module _ (n : ℕ) (T : Type 0) (on : Card → T → Step) where
  -- t is the tick of the trigger, whose own clock is not counted, and ts are those after it. "While
  -- its reset stays low and no other trigger is taken" this holds after the last of them, and so
  -- after each, since the list may end anywhere
  unfoldable pub TimerPromiseOn : Type 0
  TimerPromiseOn = (c : Card) (t : T) (ts : List T) (i : ℕ) → i < n → TakesTrigger n c (on c t) i
      → let next = (tick_by n T on c t).card in
      let rs = readings_in n T on next ts i in
      ResetLow rs → Throughout n T on TakesNone next ts i
      → TimerAfter (last_of n T on c t ts) i (class_of (cell_at c i)) (cell_at c i).config (pulses_in rs)

  -- "Types 14 and 16 ignore triggers while the count is above 0", and 15 and 17 "during the pulse
  -- as well". So with the reset low they take no other trigger up to and with the tick that makes
  -- them free, which is the last whose earlier pulses leave them busy: a low reset alone is enough.
  -- Types 8 and 9 ignore none
  unfoldable pub IgnoresAllOn : Type 0
  IgnoresAllOn = (c : Card) (t : T) (ts : List T) (i : ℕ) → i < n → TakesTrigger n c (on c t) i
      → let next = (tick_by n T on c t).card in
      let rs = readings_in n T on next ts i in
      let k = class_of (cell_at c i) in
      let d = (cell_at c i).config in
      ResetLow rs → ignoring k d (pulses_before rs) ≡ true
      → Throughout n T on TakesNone next ts i × TimerAfter (last_of n T on c t ts) i k d (pulses_in rs)

-- over the card's own ticks
abbrev pub TimerPromise : ℕ → Type 0
TimerPromise n = TimerPromiseOn n (Bool × Input) (own n)

abbrev pub IgnoresAll : ℕ → Type 0
IgnoresAll n = IgnoresAllOn n (Bool × Input) (own n)
