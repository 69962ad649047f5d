-- Document 01, "Who wakes", and document 02, "Counter cells": whether a quick tick works out a
-- cell.
use Rattle.std.specs.Prelude.{ℕ, ◌≡◌, Bool, true, false, not, ◌&&◌, ◌||◌, ltb}
use Rattle.std.specs.Bool.{beq}
use Rattle.cells.specs.declared.table.Slots.{Slots}
use Rattle.cells.specs.declared.table.Class.{Class}
use Rattle.cells.specs.declared.table.Class.TheVariants.{Nothing, Constant, Gate, Flop, OneShot, Delay, Counter}
use Rattle.cells.specs.declared.table.FlopKind.{FlopKind}
use Rattle.cells.specs.declared.table.FlopKind.TheVariants.{DFlop, SyncDFlop, ClearDFlop, Jk}
use Rattle.cells.specs.declared.table.CounterKind.{CounterKind}
use Rattle.cells.specs.declared.table.CounterKind.TheVariants.{WhileBoth, WhileEither, FromStart, FromStartAtZero}
use Rattle.cells.specs.declared.cell.State.{State}
use Rattle.cells.specs.Table.{slots, row_of, masked, level_slots, any_slot}
use Rattle.cells.specs.Work.{trigger}

-- "a timer's clock is high while its count is above 0 or its pulse is on"
abbrev pub timer_clock : (count : ℕ) (pulse : Bool) → Slots → Bool
timer_clock count pulse r = r.y && (ltb 0 count || pulse)

-- "a timer's ... trigger is high", or its clock as above
abbrev pub timer_stirred : (count : ℕ) (pulse : Bool) → Slots → Bool
timer_stirred count pulse r = trigger r || timer_clock count pulse r

-- a flip-flop's clock: Z in a JK, Y in the others
abbrev pub flop_clock : FlopKind → Slots → Bool
flop_clock DFlop r = r.y
flop_clock SyncDFlop r = r.y
flop_clock ClearDFlop r = r.y
flop_clock Jk r = r.z

-- "a clock while active (19 and 20 by A and B as read in that tick, 21 and 22 by what they kept)"
abbrev pub counter_clock : CounterKind → (active : Bool) → Slots → Bool
counter_clock WhileBoth active r = r.y && (r.x && r.f)
counter_clock WhileEither active r = r.y && (r.x || r.f)
counter_clock FromStart active r = r.y && active
counter_clock FromStartAtZero active r = r.y && active

-- "21 and 22 take start, clock, reset, stop"
abbrev pub has_start : CounterKind → Bool
has_start WhileBoth = false
has_start WhileEither = false
has_start FromStart = true
has_start FromStartAtZero = true

-- counters wake "on start, stop, and on a clock while active"
abbrev pub counter_stirred : CounterKind → (active : Bool) → Slots → Bool
counter_stirred k active r = (has_start k && (r.x || r.f)) || counter_clock k active r

-- stirred: "a flip-flop's clock slot is high", or the above; gates and constants are never stirred
unfoldable pub stirred_as : Class → State → Slots → Bool
stirred_as Nothing s r = false
stirred_as Constant s r = false
stirred_as (Gate g) s r = false
stirred_as (Flop f) s r = flop_clock f r
stirred_as (OneShot t) s r = timer_stirred s.count.0 s.pulse r
stirred_as (Delay t) s r = timer_stirred s.count.0 s.pulse r
stirred_as (Counter k) s r = counter_stirred k s.bit r

unfoldable pub stirred : ℕ → State → Slots → Bool
stirred kind s r = stirred_as (row_of kind).class s (masked (row_of kind).used r)

-- the type has edge slots
abbrev pub has_edges : ℕ → Bool
has_edges kind = any_slot (row_of kind).edge

-- nothing stirs a cell of the type
abbrev pub NeverStirred : ℕ → Type 0
NeverStirred kind = (s : State) (r : Slots) → stirred kind s r ≡ false

-- in a slot of the set the two readings have other values
abbrev pub differ : Bool → Bool → Bool → Bool
differ s a b = s && not (beq a b)

-- the slots of the set in which they have
abbrev pub differing : Slots → Slots → Slots → Slots
differing s a b = slots (differ s.x a.x b.x) (differ s.y a.y b.y) (differ s.z a.z b.z) (differ s.f a.f b.f)

abbrev pub disagree_on : Slots → Slots → Slots → Bool
disagree_on s a b = any_slot (differing s a b)

-- "a used slot that isn't an edge slot has another value than in that tick"
unfoldable pub disagree : ℕ → Slots → Slots → Bool
disagree kind now last = disagree_on (level_slots (row_of kind)) now last

-- a level slot of the type is among these
unfoldable pub moved : ℕ → Slots → Bool
moved kind m = any_slot (masked (level_slots (row_of kind)) m)

-- a cell wakes: "it was edited since the last tick that ran", or is stirred, or a level slot
-- disagrees with that tick
unfoldable pub wakes : ℕ → State → Bool → Slots → Slots → Bool
wakes kind s edited now last = edited || (stirred kind s now || disagree kind now last)
