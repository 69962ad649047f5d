-- Document 01, "Who wakes", and document 02, "Counter cells": the reasons of single cells, as one
-- table by computation. The entries are read from the papers.
use Rattle.std.specs.Prelude.{ℕ, ◌≡◌, refl, Bool, true, false, List, [], ◌∷◌, map}
use Rattle.cells.specs.declared.table.Slots.{Slots}
use Rattle.reasons.specs.declared.cell.Reasons.{Reasons}
use Rattle.cells.specs.Table.{slots, row_of, no_slot, only_y, only_z, XY, XYZF}
use Rattle.cells.specs.Work.{pulses}
use Rattle.reasons.specs.CellReasons.{reasons_of}

-- edited; the level slots that moved; clock; trigger or start; other trigger or stop
abbrev Why : Type 0
Why = Bool × Slots × Bool × Bool × Bool

why : Reasons → Why
why q = (q.edited, q.moved, q.clock, q.trigger, q.other)

-- a cell that nobody edited and that keeps nothing, with what its slots read now, and read in the
-- last tick that ran
resting : (kind : ℕ) → Slots → Slots → Why
resting kind now last = why (reasons_of kind (record { count = pulses 0; bit = false; pulse = false }) false now last)

-- a timer or a counter with a count, a pulse and "active", whose level slots are as they were
busy : (kind count : ℕ) → (pulse active : Bool) → Slots → Why
busy kind count pulse active now = why (reasons_of kind (record { count = pulses count; bit = active; pulse = pulse }) false now now)

-- one that was edited, with all slots high now and low before
edited : ℕ → Why
edited kind = why (reasons_of kind (record { count = pulses 0; bit = false; pulse = false }) true XYZF no_slot)

-- a single reason, and none
none : Why
none = (false, no_slot, false, false, false)

level : Slots → Why
level m = (false, m, false, false, false)

clock : Why
clock = (false, no_slot, true, false, false)

trigger : Why
trigger = (false, no_slot, false, true, false)

other : Why
other = (false, no_slot, false, false, true)

-- X alone, F alone, X and F, and those with the clock
abbrev x : Slots
x = slots true false false false

abbrev f : Slots
f = slots false false false true

abbrev xf : Slots
xf = slots true false false true

abbrev xyf : Slots
xyf = slots true true false true

-- given, expected
abbrev table : List (Why × Why)
table =
    -- "it was edited since the last tick that ran": also a constant, and a type past the table,
    -- which have no slots; a gate whose slots moved too
    (edited 0, (true, no_slot, false, false, false))
    ∷ (edited 23, (true, no_slot, false, false, false))
    ∷ (edited 5, (true, XY, false, false, false))
    -- "a used slot that isn't an edge slot has another value than in that tick", up or down; AND2
    -- does not use Z and F
    ∷ (resting 5 x no_slot, level x)
    ∷ (resting 5 no_slot x, level x)
    ∷ (resting 5 x x, none)
    ∷ (resting 5 XYZF XY, none)
    ∷ (resting 10 xf only_y, level xyf)
    -- "a flip-flop's clock slot is high": Y, and Z in a JK; a clock that went low is no reason, and
    -- a D that moved is
    ∷ (resting 1 only_y no_slot, clock)
    ∷ (resting 1 only_y only_y, clock)
    ∷ (resting 1 no_slot only_y, none)
    ∷ (resting 12 x no_slot, level x)
    ∷ (resting 13 only_z no_slot, clock)
    ∷ (resting 13 only_y no_slot, level only_y)
    -- "a timer's (8, 9, 14-17) trigger is high", taken or not; F is a trigger only in 16 and 17;
    -- the reset wakes by its value
    ∷ (resting 8 x no_slot, trigger)
    ∷ (busy 14 3 false false x, trigger)
    ∷ (resting 14 f no_slot, none)
    ∷ (busy 17 0 true false f, other)
    ∷ (resting 9 only_z no_slot, level only_z)
    -- "a timer's clock is high while its count is above 0 or its pulse is on"
    ∷ (busy 15 1 false false only_y, clock)
    ∷ (busy 9 0 true false only_y, clock)
    ∷ (busy 9 0 false true only_y, none)
    -- counters: "on a clock while active (19 and 20 by A and B as read in that tick, ..."; A and B
    -- wake by their value
    ∷ (busy 19 0 false false xyf, clock)
    ∷ (busy 19 0 false true XY, none)
    ∷ (busy 20 0 false false XY, clock)
    ∷ (resting 19 xyf only_y, (false, xf, true, false, false))
    -- "... 21 and 22 by what they kept)", and "on start, stop", obeyed or not
    ∷ (busy 21 3 false true only_y, clock)
    ∷ (busy 21 3 false false only_y, none)
    ∷ (busy 22 3 false false x, trigger)
    ∷ (busy 21 0 false false f, other)
    ∷ (busy 21 3 false true xyf, (false, no_slot, true, true, true))
    -- a held reset does not wake
    ∷ (busy 22 0 false false only_z, none)
    ∷ []

reasons : map (λ (e : Why × Why). e.0) table ≡ map (λ (e : Why × Why). e.1) table
unfolding why resting busy edited none level clock trigger other row_of reasons_of
reasons = refl

-- what is reported with them: the values that the used slots have now. A slot that moved had the
-- other one
values : (kind : ℕ) → Slots → Slots → Slots × Slots
values kind now last =
    let q = reasons_of kind (record { count = pulses 0; bit = false; pulse = false }) false now last in
    (q.moved, q.now)

-- given, expected
abbrev told : List ((Slots × Slots) × (Slots × Slots))
told =
    -- X of an AND2 went high; it went low while Y stayed high; Z and F are not its slots
    (values 5 x no_slot, (x, x))
    ∷ (values 5 only_y XY, (x, only_y))
    ∷ (values 5 XYZF no_slot, (XY, XY))
    ∷ []

values-told : map (λ (e : (Slots × Slots) × (Slots × Slots)). e.0) told ≡ map (λ (e : (Slots × Slots) × (Slots × Slots)). e.1) told
unfolding values row_of reasons_of
values-told = refl
