-- Document 01, "Cells", and document 02, "Counter cells": what a timer and a counter do in a tick,
-- as one table by computation on the definitions; and how far a gate of four slots looks. The
-- numbers are read from the papers. Every clause of specs/Work has a row that another reading would
-- change.
use Rattle.std.specs.Prelude.{ℕ, ◌≡◌, refl, Bool, true, false, List, [], ◌∷◌, map}
use Rattle.cells.specs.declared.table.Slots.{Slots}
use Rattle.cells.specs.declared.cell.Worked.{Worked}
use Rattle.cells.specs.Table.{slots, row_of}
use Rattle.cells.specs.Work.{pulses, taken, raised, decides_and, decides_or, looked, work_as, work_out}

-- a timer's count, its pulse and its output; of a counter the count, "active" as it is kept, and
-- the output
abbrev Shown : Type 0
Shown = ℕ × Bool × Bool

-- what a timer of a type and a duration comes to in a tick, from a count and a pulse
timer : (kind d count : ℕ) → Bool → Slots → Worked
timer kind d count pulse r = work_out kind d (record { count = pulses count; bit = false; pulse = pulse }) r

shown : Worked → Shown
shown w = (w.state.count.0, w.state.pulse, w.out)

-- one-shots keep no pulse; one that is given stays
shot : (kind d count : ℕ) → Slots → Shown
shot kind d count r = shown (timer kind d count false r)

pulsed : (kind d count : ℕ) → Bool → Slots → Shown
pulsed kind d count pulse r = shown (timer kind d count pulse r)

counted : (kind count : ℕ) → Bool → Slots → Shown
counted kind count active r =
    let w = work_out kind 0 (record { count = pulses count; bit = active; pulse = false }) r in
    (w.state.count.0, w.state.bit, w.out)

-- what is high in the tick: X is the trigger, Y the clock, Z the reset, F the other trigger of
-- types 16 and 17
abbrev nothing : Slots
nothing = slots false false false false

abbrev clock : Slots
clock = slots false true false false

abbrev trigger : Slots
trigger = slots true false false false

abbrev trigger_clock : Slots
trigger_clock = slots true true false false

abbrev reset : Slots
reset = slots false false true false

abbrev clock_reset : Slots
clock_reset = slots false true true false

abbrev trigger_clock_reset : Slots
trigger_clock_reset = slots true true true false

abbrev other_trigger : Slots
other_trigger = slots false false false true

abbrev other_trigger_clock : Slots
other_trigger_clock = slots false true false true

-- of a counter: A, or start, is X; B, or stop, is F
abbrev a_b : Slots
a_b = slots true false false true

abbrev a_b_clock : Slots
a_b_clock = slots true true false true

abbrev a_b_clock_reset : Slots
a_b_clock_reset = slots true true true true

abbrev a_reset : Slots
a_reset = slots true false true false

abbrev start : Slots
start = slots true false false false

abbrev start_clock : Slots
start_clock = slots true true false false

abbrev start_clock_reset : Slots
start_clock_reset = slots true true true false

abbrev stop : Slots
stop = slots false false false true

abbrev stop_clock : Slots
stop_clock = slots false true false true

-- given, expected
abbrev table : List (Shown × Shown)
table =
    -- "a taken trigger ... sets it to d and the clock is ignored": the count is 3, and not 2
    (shot 8 3 0 trigger_clock, (3, false, true))
    ∷ (shot 14 3 0 trigger_clock, (3, false, true))
    ∷ (shot 16 3 0 other_trigger_clock, (3, false, true))
    ∷ (shot 16 3 0 trigger_clock, (3, false, true))
    -- without a clock it is taken as well; of duration 0 it leaves nothing to count, also where
    -- there was something
    ∷ (shot 8 3 0 trigger, (3, false, true))
    ∷ (shot 8 0 0 trigger, (0, false, false))
    ∷ (shot 8 0 2 trigger, (0, false, false))
    -- F is a trigger in 16 and 17 alone
    ∷ (shot 8 3 0 other_trigger, (0, false, false))
    ∷ (shot 14 3 0 other_trigger, (0, false, false))
    ∷ (pulsed 9 0 0 false other_trigger, (0, false, false))
    ∷ (pulsed 15 0 0 false other_trigger, (0, false, false))
    -- "Else a clock edge lowers a count above 0 by 1. High while the count is above 0"
    ∷ (shot 8 3 3 clock, (2, false, true))
    ∷ (shot 8 3 1 clock, (0, false, false))
    ∷ (shot 8 3 0 clock, (0, false, false))
    ∷ (shot 8 3 2 nothing, (2, false, true))
    ∷ (shot 14 3 0 nothing, (0, false, false))
    -- "reset sets the count to 0", whatever else is high
    ∷ (shot 8 3 2 reset, (0, false, false))
    ∷ (shot 14 3 2 clock_reset, (0, false, false))
    ∷ (shot 16 3 0 trigger_clock_reset, (0, false, false))
    ∷ (shot 8 3 2 trigger_clock_reset, (0, false, false))
    -- "Types 14 and 16 ignore triggers while the count is above 0", and the clock is not ignored
    -- then; type 8 takes them
    ∷ (shot 14 3 2 trigger_clock, (1, false, true))
    ∷ (shot 16 3 2 other_trigger_clock, (1, false, true))
    ∷ (shot 16 3 2 trigger_clock, (1, false, true))
    ∷ (shot 14 3 1 trigger, (1, false, true))
    ∷ (shot 8 3 2 trigger_clock, (3, false, true))
    -- a one-shot that is given with a pulse: it stays, and neither makes the output high nor
    -- keeps a trigger out
    ∷ (pulsed 8 3 1 true clock, (0, true, false))
    ∷ (pulsed 8 3 1 true reset, (0, true, false))
    ∷ (pulsed 14 3 0 true trigger, (3, true, true))
    -- a delay of 1: the trigger's tick, the first clock edge, "reaching 0 starts the pulse", and
    -- the next, which "finds the count at 0"
    ∷ (pulsed 9 1 0 false trigger_clock, (1, false, false))
    ∷ (pulsed 9 1 1 false clock, (0, true, true))
    ∷ (pulsed 9 1 0 true nothing, (0, true, true))
    ∷ (pulsed 9 1 0 true clock, (0, false, false))
    ∷ (pulsed 9 1 0 false clock, (0, false, false))
    ∷ (pulsed 9 3 3 false clock, (2, false, false))
    ∷ (pulsed 9 3 3 false nothing, (3, false, false))
    -- a delay that is given with a count and a pulse keeps the pulse until an edge finds the
    -- count at 0
    ∷ (pulsed 9 5 2 true clock, (1, true, true))
    ∷ (pulsed 9 5 1 true clock, (0, true, true))
    ∷ (pulsed 9 5 2 true nothing, (2, true, true))
    -- "A taken trigger sets count d and ends a pulse"; "Reset also ends the pulse"
    ∷ (pulsed 9 2 0 true trigger, (2, false, false))
    ∷ (pulsed 15 2 0 true trigger_clock_reset, (0, false, false))
    ∷ (pulsed 9 2 0 true reset, (0, false, false))
    -- a reset starts no pulse: not where it takes the count to 0, not with a trigger of duration 0
    ∷ (pulsed 9 2 1 false clock_reset, (0, false, false))
    ∷ (pulsed 9 0 0 false trigger_clock_reset, (0, false, false))
    -- 15 and 17 take a trigger at rest, 17 from X and from F; "with d = 0 it starts the pulse"
    ∷ (pulsed 15 2 0 false trigger, (2, false, false))
    ∷ (pulsed 15 0 0 false trigger, (0, true, true))
    ∷ (pulsed 17 2 0 false trigger, (2, false, false))
    ∷ (pulsed 17 2 0 false other_trigger_clock, (2, false, false))
    -- document 02: 15 and 17 "ignore triggers during the pulse as well, also with duration 0"; the
    -- clock keeps its effect. Type 9 takes them
    ∷ (pulsed 15 2 0 true trigger, (0, true, true))
    ∷ (pulsed 15 2 0 true trigger_clock, (0, false, false))
    ∷ (pulsed 17 0 0 true other_trigger, (0, true, true))
    ∷ (pulsed 17 0 0 true other_trigger_clock, (0, false, false))
    ∷ (pulsed 17 0 0 false other_trigger_clock, (0, true, true))
    ∷ (pulsed 9 0 0 true trigger_clock, (0, true, true))
    -- "Types 15 and 17 ignore triggers while the count is above 0"; type 9 takes them
    ∷ (pulsed 15 2 1 false trigger_clock, (0, true, true))
    ∷ (pulsed 17 2 2 false other_trigger_clock, (1, false, false))
    ∷ (pulsed 15 2 2 false trigger, (2, false, false))
    ∷ (pulsed 9 2 1 false trigger_clock, (2, false, false))
    -- document 02: "Durations and counts of the timer types 8, 9 and 14 to 17 go to 4,294,967,295":
    -- the longest is counted down from there and nothing wraps
    ∷ (shot 16 4294967295 0 other_trigger_clock, (4294967295, false, true))
    ∷ (shot 14 4294967295 4294967295 trigger_clock, (4294967294, false, true))
    ∷ (pulsed 9 4294967295 0 true trigger, (4294967295, false, false))
    ∷ (pulsed 17 4294967295 4294967295 false clock, (4294967294, false, false))
    ∷ (pulsed 15 4294967295 65536 false clock, (65535, false, false))
    -- "19 is active while A and B are high, 20 while either is"; "While active, a clock edge adds
    -- 1"; neither keeps "active": the bit stays
    ∷ (counted 19 4 false a_b_clock, (5, false, true))
    ∷ (counted 19 4 true a_b_clock, (5, true, true))
    ∷ (counted 19 4 false a_b, (4, false, true))
    ∷ (counted 19 4 true start_clock, (4, true, false))
    ∷ (counted 19 4 true stop_clock, (4, true, false))
    ∷ (counted 19 4 true clock, (4, true, false))
    ∷ (counted 20 4 false a_b_clock, (5, false, true))
    ∷ (counted 20 4 false start_clock, (5, false, true))
    ∷ (counted 20 4 false stop_clock, (5, false, true))
    ∷ (counted 20 4 false stop, (4, false, true))
    ∷ (counted 20 4 true clock, (4, true, false))
    -- "in a tick where it is high the count becomes 0": reset takes the count, not the output
    ∷ (counted 19 4 false a_b_clock_reset, (0, false, true))
    ∷ (counted 19 4 false clock_reset, (0, false, false))
    ∷ (counted 20 4 false a_reset, (0, false, true))
    ∷ (counted 20 4 false reset, (0, false, false))
    -- 21: "in the starting tick too and not in the stopping one"; "stop wins over start"; without
    -- start it goes on, and a start keeps the count
    ∷ (counted 21 0 false start_clock, (1, true, true))
    ∷ (counted 21 4 false start_clock, (5, true, true))
    ∷ (counted 21 4 false start, (4, true, true))
    ∷ (counted 21 4 false clock, (4, false, false))
    ∷ (counted 21 4 true clock, (5, true, true))
    ∷ (counted 21 4 true nothing, (4, true, true))
    ∷ (counted 21 4 true stop_clock, (4, false, false))
    ∷ (counted 21 4 true stop, (4, false, false))
    ∷ (counted 21 4 true a_b_clock, (4, false, false))
    ∷ (counted 21 4 false a_b_clock, (4, false, false))
    -- "22 obeys start only while its count is 0"; once active it counts on, and a start that is not
    -- obeyed takes nothing from it
    ∷ (counted 22 0 false start_clock, (1, true, true))
    ∷ (counted 22 0 false start, (0, true, true))
    ∷ (counted 22 1 false start_clock, (1, false, false))
    ∷ (counted 22 3 true clock, (4, true, true))
    ∷ (counted 22 3 true start_clock, (4, true, true))
    ∷ (counted 22 0 false clock, (0, false, false))
    ∷ (counted 22 3 true stop_clock, (3, false, false))
    ∷ (counted 22 0 false a_b_clock, (0, false, false))
    -- "Reset comes before all else": "21 and 22 become inactive, and neither start nor clock is
    -- obeyed"
    ∷ (counted 21 4 true a_b_clock_reset, (0, false, false))
    ∷ (counted 21 4 true clock_reset, (0, false, false))
    ∷ (counted 21 4 false start_clock_reset, (0, false, false))
    ∷ (counted 22 4 true reset, (0, false, false))
    ∷ (counted 22 0 false start_clock_reset, (0, false, false))
    -- "a count below 65535"; one that is given above it stays
    ∷ (counted 21 65534 true clock, (65535, true, true))
    ∷ (counted 21 65535 true clock, (65535, true, true))
    ∷ (counted 19 65535 false a_b_clock, (65535, false, true))
    ∷ (counted 20 70000 false start_clock, (70000, false, true))
    ∷ (counted 21 70000 true clock, (70000, true, true))
    ∷ []

one_table : map (λ (e : Shown × Shown). e.0) table ≡ map (λ (e : Shown × Shown). e.1) table
unfolding timer shown shot pulsed counted row_of taken raised work_as work_out
one_table = refl

-- ---- four-input gates

-- the answer of a gate, and how many slots it looked at
seen : (deciding x y z f : Bool) → Bool × ℕ
seen v x y z f = ((looked v (slots x y z f)).out, (looked v (slots x y z f)).slots)

-- given, expected
abbrev looks : List ((Bool × ℕ) × (Bool × ℕ))
looks =
    -- AND4: F, Z, Y and X decide with a 0, the first of them in this order; none does
    (seen decides_and false false false false, (false, 1))
    ∷ (seen decides_and false false false true, (false, 2))
    ∷ (seen decides_and false false true true, (false, 3))
    ∷ (seen decides_and false true true true, (false, 4))
    ∷ (seen decides_and true true true true, (true, 4))
    -- OR4: they decide with a 1
    ∷ (seen decides_or true true true true, (true, 1))
    ∷ (seen decides_or true true true false, (true, 2))
    ∷ (seen decides_or true true false false, (true, 3))
    ∷ (seen decides_or true false false false, (true, 4))
    ∷ (seen decides_or false false false false, (false, 4))
    ∷ []

four-looks : map (λ (e : (Bool × ℕ) × (Bool × ℕ)). e.0) looks ≡ map (λ (e : (Bool × ℕ) × (Bool × ℕ)). e.1) looks
unfolding seen looked
four-looks = refl
