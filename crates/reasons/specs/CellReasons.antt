-- Document 01, "Who wakes", and document 02, "Counter cells": why a cell wakes, reason by reason.
-- The rules are those of specs/Wake of the crate cells; the law is that a cell has a reason exactly
-- where they name it.
use Rattle.std.specs.Prelude.{ℕ, Bool, true, false, ◌&&◌, ◌||◌}
use Rattle.cells.specs.declared.table.Slots.{Slots}
use Rattle.cells.specs.declared.table.Class.{Class}
use Rattle.cells.specs.declared.table.Class.TheVariants.{Nothing, Constant, Gate, Flop, OneShot, Delay, Counter}
use Rattle.cells.specs.declared.cell.State.{State}
use Rattle.reasons.specs.declared.cell.Reasons.{Reasons}
use Rattle.cells.specs.Table.{row_of, masked, level_slots, any_slot}
use Rattle.cells.specs.Wake.{timer_clock, flop_clock, counter_clock, has_start, differing}

-- the clock is high and counts: a flip-flop's always, a timer's and a counter's while they have
-- something to do
abbrev pub clock_as : Class → State → Slots → Bool
clock_as Nothing s r = false
clock_as Constant s r = false
clock_as (Gate g) s r = false
clock_as (Flop f) s r = flop_clock f r
clock_as (OneShot t) s r = timer_clock s.count.0 s.pulse r
clock_as (Delay t) s r = timer_clock s.count.0 s.pulse r
clock_as (Counter k) s r = counter_clock k s.bit r

-- a high X or F wakes by itself: triggers, or start and stop
abbrev pub has_triggers : Class → Bool
has_triggers Nothing = false
has_triggers Constant = false
has_triggers (Gate g) = false
has_triggers (Flop f) = false
has_triggers (OneShot t) = true
has_triggers (Delay t) = true
has_triggers (Counter k) = has_start k

-- the reasons of a cell whose used slots read r, and whose level slots `moved` have another value
-- than they had
abbrev pub reasons_from : Bool → (moved r : Slots) → (clock triggers : Bool) → Reasons
reasons_from edited moved r clock triggers =
    record { edited = edited; moved = moved; now = r; clock = clock; trigger = triggers && r.x; other = triggers && r.f }

-- of a cell that reads `now`, and read `last` in the last tick that ran. Slots that the type does
-- not use read low
unfoldable pub reasons_of : ℕ → State → Bool → Slots → Slots → Reasons
reasons_of kind s edited now last =
    let w = row_of kind in
    let r = masked w.used now in
    reasons_from edited (differing (level_slots w) now last) r (clock_as w.class s r) (has_triggers w.class)

-- some reason holds. What the slots read is no reason
abbrev pub any_reason : Reasons → Bool
any_reason q = q.edited || (((q.trigger || q.other) || q.clock) || any_slot q.moved)
