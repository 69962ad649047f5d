-- Document 01, "Cells", and document 02, "Counter cells": what working out a cell gives, family by
-- family. In every definition `r` holds the readings of the used slots; a slot that is not used
-- reads low.
use Rattle.std.specs.Prelude.{ℕ, ◌+◌, ◌-◌, ◌*◌, Bool, true, false, not, ◌&&◌, ◌||◌, cond, List, [], ◌∷◌, eqb, ltb}
use Rattle.std.specs.Bool.{beq}
use Rattle.words.specs.Bits.{bit_at, bit_number}
use Rattle.cells.specs.declared.table.Slots.{Slots}
use Rattle.cells.specs.declared.table.Class.{Class}
use Rattle.cells.specs.declared.table.Class.TheVariants.{Nothing, Constant, Gate, Flop, OneShot, Delay, Counter}
use Rattle.cells.specs.declared.table.GateKind.{GateKind}
use Rattle.cells.specs.declared.table.GateKind.TheVariants.{Lookup, And2, Or2, Xor2, And4, Or4}
use Rattle.cells.specs.declared.table.FlopKind.{FlopKind}
use Rattle.cells.specs.declared.table.FlopKind.TheVariants.{DFlop, SyncDFlop, ClearDFlop, Jk}
use Rattle.cells.specs.declared.table.CounterKind.{CounterKind}
use Rattle.cells.specs.declared.table.CounterKind.TheVariants.{WhileBoth, WhileEither, FromStart, FromStartAtZero}
use Rattle.cells.specs.declared.cell.State.{State}
use Rattle.cells.specs.declared.cell.Worked.{Worked}
use Rattle.cells.specs.declared.cell.Pulses.{Pulses}
use Rattle.cells.specs.declared.work.Looked.{Looked}
use Rattle.cells.specs.Table.{slots, row_of, masked}

-- a number of pulses
abbrev pub pulses : ℕ → Pulses
pulses n = record { 0 = n }

-- a constant: "high unless 0"
abbrev pub constant_out : ℕ → Bool
constant_out config = not (eqb config 0)

-- "p = X + 2Y + 4Z + 8F over the slots used"
abbrev pub place_of : Slots → ℕ
place_of r = bit_number r.x + 2 * bit_number r.y + 4 * bit_number r.z + 8 * bit_number r.f

-- and back: four bits as slots, X lowest. The code holds readings and sets of slots so
unfoldable pub slots_of : ℕ → Slots
slots_of p = slots (bit_at p 0) (bit_at p 1) (bit_at p 2) (bit_at p 3)

-- "the answer is bit number p of the code"
abbrev pub lookup_out : ℕ → Slots → Bool
lookup_out code r = bit_at code (place_of r)

-- the gates: a lookup with its code, and those of two and of four slots
abbrev pub gate_out : GateKind → ℕ → Slots → Bool
gate_out Lookup code r = lookup_out code r
gate_out And2 code r = r.x && r.y
gate_out Or2 code r = r.x || r.y
gate_out Xor2 code r = not (beq r.x r.y)
gate_out And4 code r = (r.x && r.y) && (r.z && r.f)
gate_out Or4 code r = (r.x || r.y) || (r.z || r.f)

-- document 02, "Four-input gates, last slot first": AND4 and OR4 "look at F first, then Z, Y, X,
-- and stop as soon as one value decides", and say "how many slots" they looked at: "the place in
-- that order of the first that decides, 4 where none does". The answer is then the value that
-- decides, and the other one where none does
abbrev pub look_on : (deciding : Bool) → ℕ → List Bool → Looked
look_on v place [] = record { out = not v; slots = place }
look_on v place (b ∷ bs) = cond (beq b v) (record { out = v; slots = place + 1 }) (look_on v (place + 1) bs)

unfoldable pub looked : (deciding : Bool) → Slots → Looked
looked v r = look_on v 0 (r.f ∷ r.z ∷ r.y ∷ r.x ∷ [])

-- the value that decides: "A 0 decides AND4, a 1 decides OR4"
abbrev pub decides_and : Bool
decides_and = false

abbrev pub decides_or : Bool
decides_or = true

-- how many slots a cell of a type looks at so: AND4 and OR4 are types 10 and 11, and no other type
-- does
abbrev pub looked_at : (kind : ℕ) → Slots → ℕ
looked_at kind r = cond (eqb kind 10) (looked decides_and r).slots (cond (eqb kind 11) (looked decides_or r).slots 0)

-- type 1: "reset gives 0; else preset gives 1; else a clock edge takes D; else hold"
abbrev pub d_flop : Slots → Bool → Bool
d_flop r bit = cond r.z false (cond r.f true (cond r.y r.x bit))

-- type 12: "the same three, only at a clock edge"
abbrev pub sync_d_flop : Slots → Bool → Bool
sync_d_flop r bit = cond r.y (cond r.z false (cond r.f true r.x)) bit

-- type 18: "reset gives 0; else at an edge F gives 0, else D"
abbrev pub clear_d_flop : Slots → Bool → Bool
clear_d_flop r bit = cond r.z false (cond r.y (cond r.f false r.x) bit)

-- type 13: "at an edge J K = 10 sets, 01 clears, 11 toggles, 00 holds"
abbrev pub jk : Slots → Bool → Bool
jk r bit = cond r.z (cond r.x (cond r.y (not bit) true) (cond r.y false bit)) bit

-- a flip-flop's next bit
abbrev pub flop_next : FlopKind → Slots → Bool → Bool
flop_next DFlop r bit = d_flop r bit
flop_next SyncDFlop r bit = sync_d_flop r bit
flop_next ClearDFlop r bit = clear_d_flop r bit
flop_next Jk r bit = jk r bit

-- a timer's trigger: X or, where F is used, F
abbrev pub trigger : Slots → Bool
trigger r = r.x || r.f

-- a trigger is taken unless the timer ignores triggers while it is busy, and it is
unfoldable pub taken : (retrigger : Bool) → Slots → (busy : Bool) → Bool
taken retrigger r busy = trigger r && (retrigger || not busy)

-- "Types 14 and 16 ignore triggers while the count is above 0"
abbrev pub shot_busy : (count : ℕ) → Bool
shot_busy count = ltb 0 count

-- types 15 and 17 "while the count is above 0", and by document 02 "during the pulse as well, also
-- with duration 0": both before this tick's work
abbrev pub delay_busy : (count : ℕ) (pulse : Bool) → Bool
delay_busy count pulse = ltb 0 count || pulse

-- a timer's count, of duration d: "reset sets the count to 0. Else a taken trigger ... sets it to d
-- and the clock is ignored. Else a clock edge lowers a count above 0 by 1." A delay's goes in the
-- "same order"
abbrev pub next_count : (reset taken clock : Bool) (d count : ℕ) → ℕ
next_count reset taken clock d count = cond reset 0 (cond taken d (cond clock (count - 1) count))

-- a delay's pulse: "A taken trigger ... ends a pulse; with d = 0 it starts the pulse"; at a clock
-- edge "reaching 0 starts the pulse; an edge that finds the count at 0 ends a pulse"; "Reset also
-- ends the pulse"
abbrev pub next_pulse : (reset taken clock : Bool) (d count : ℕ) (pulse : Bool) → Bool
next_pulse reset taken clock d count pulse =
    cond reset false (cond taken (eqb d 0) (cond clock (cond (ltb 0 count) (eqb count 1 || pulse) false) pulse))

-- worked out with the state as it was; with a new bit, which is the output; with a new count and
-- pulse
abbrev pub keeping : State → Bool → Worked
keeping s out = record { state = s; out = out }

abbrev pub holding : State → Bool → Worked
holding s bit = record { state = record { bit = bit; count = s.count; pulse = s.pulse }; out = bit }

abbrev pub counting : State → ℕ → Bool → Bool → Worked
counting s count pulse out = record { state = record { bit = s.bit; count = pulses count; pulse = pulse }; out = out }

-- a timer's count, and a delay's pulse, after this tick, in which the trigger is taken or not
abbrev pub count_after : (taken : Bool) (d count : ℕ) → Slots → ℕ
count_after taken d count r = next_count r.z taken r.y d count

abbrev pub pulse_after : (taken : Bool) (d count : ℕ) (pulse : Bool) → Slots → Bool
pulse_after taken d count pulse r = next_pulse r.z taken r.y d count pulse

-- one-shot: "High while the count is above 0"
abbrev pub one_shot : Bool → ℕ → State → Slots → Worked
one_shot retrigger d s r =
    let count = count_after (taken retrigger r (shot_busy s.count.0)) d s.count.0 r in
    counting s count s.pulse (ltb 0 count)

-- delay: "High during the pulse"
abbrev pub delay : Bool → ℕ → State → Slots → Worked
delay retrigger d s r =
    let t = taken retrigger r (delay_busy s.count.0 s.pulse) in
    let pulse = pulse_after t d s.count.0 s.pulse r in
    counting s (count_after t d s.count.0 r) pulse pulse

-- counters. 21 and 22: "Reset comes before all else: ... 21 and 22 become inactive, and neither
-- start nor clock is obeyed"; "21 becomes active at start and inactive at stop; stop wins over
-- start"
abbrev pub started_by : (obeyed : Bool) → Slots → Bool → Bool
started_by obeyed r active = cond (r.z || r.f) false ((r.x && obeyed) || active)

-- "19 is active while A and B are high, 20 while either is"; "22 obeys start only while its count
-- is 0"
abbrev pub active_after : CounterKind → Slots → ℕ → Bool → Bool
active_after WhileBoth r count active = r.x && r.f
active_after WhileEither r count active = r.x || r.f
active_after FromStart r count active = started_by true r active
active_after FromStartAtZero r count active = started_by (eqb count 0) r active

-- 21 and 22 keep "active"; 19 and 20 keep only a count, and the bit stays as it was
abbrev pub kept_active : CounterKind → Bool → Bool → Bool
kept_active WhileBoth old new = old
kept_active WhileEither old new = old
kept_active FromStart old new = new
kept_active FromStartAtZero old new = new

-- "adds 1 to a count below 65535"
abbrev pub largest_count : ℕ
largest_count = 65535

unfoldable pub raised : ℕ → ℕ
raised count = cond (ltb count largest_count) (count + 1) count

-- "in a tick where it [reset] is high the count becomes 0"; "While active, a clock edge adds 1 ...,
-- in the starting tick too and not in the stopping one": active is that of this tick
abbrev pub counted_up : (reset active clock : Bool) → ℕ → ℕ
counted_up reset active clock count = cond reset 0 (cond (active && clock) (raised count) count)

-- worked out with a new count and a new "active" bit
abbrev pub counted_as : State → Bool → ℕ → Bool → Worked
counted_as s active count out = record { state = record { bit = active; count = pulses count; pulse = s.pulse }; out = out }

-- "Output is "active"", under reset too: in 19 and 20 reset takes the count, not the output
abbrev pub counter : CounterKind → State → Slots → Worked
counter k s r =
    let active = active_after k r s.count.0 s.bit in
    counted_as s (kept_active k s.bit active) (counted_up r.z active r.y s.count.0) active

-- what each class makes of the configuration, the state and the used readings
unfoldable pub work_as : Class → ℕ → State → Slots → Worked
work_as Nothing config s r = keeping s false
work_as Constant config s r = keeping s (constant_out config)
work_as (Gate g) config s r = keeping s (gate_out g config r)
work_as (Flop f) config s r = holding s (flop_next f r s.bit)
work_as (OneShot retrigger) config s r = one_shot retrigger config s r
work_as (Delay retrigger) config s r = delay retrigger config s r
work_as (Counter k) config s r = counter k s r

-- a cell of a type, worked out with the readings of its four slots
unfoldable pub work_out : (kind config : ℕ) → State → Slots → Worked
work_out kind config s r = work_as (row_of kind).class config s (masked (row_of kind).used r)
