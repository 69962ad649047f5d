-- Document 01, "Who wakes", and document 02, "Counter cells": who wakes and who does not, as tables
-- by computation. The entries are read from the papers. Every clause of specs/Wake has a row that
-- another reading would change.
use Rattle.std.specs.Prelude.{ℕ, ◌≡◌, refl, Bool, true, false, List, [], ◌∷◌, map}
use Rattle.cells.specs.declared.table.Slots.{Slots}
use Rattle.cells.specs.declared.cell.State.{State}
use Rattle.cells.specs.Table.{slots, row_of, no_slot, XY, XYZ, XYZF, XYF, only_y, only_z}
use Rattle.cells.specs.Work.{pulses}
use Rattle.cells.specs.Wake.{stirred_as, stirred, disagree, wakes}

state : ℕ → (bit pulse : Bool) → State
state count bit pulse = record { count = pulses count; bit = bit; pulse = pulse }

-- sets of slots
abbrev only_x : Slots
only_x = slots true false false false

abbrev only_f : Slots
only_f = slots false false false true

abbrev XZ : Slots
XZ = slots true false true false

abbrev XF : Slots
XF = slots true false false true

abbrev XZF : Slots
XZF = slots true false true true

-- ---- one slot at a time

-- the slots that wake a cell that nobody edited, each alone high and the others low: as it goes
-- high, as it goes low, and while it is held
alone : (kind count : ℕ) (bit pulse : Bool) → Slots × Slots × Slots
alone kind count bit pulse =
    let s = state count bit pulse in
    let rises : Slots → Bool = λ a. wakes kind s false a no_slot in
    let falls : Slots → Bool = λ a. wakes kind s false no_slot a in
    let held : Slots → Bool = λ a. wakes kind s false a a in (
      slots (rises only_x) (rises only_y) (rises only_z) (rises only_f),
      slots (falls only_x) (falls only_y) (falls only_z) (falls only_f),
      slots (held only_x) (held only_y) (held only_z) (held only_f),
    )

-- given, expected
abbrev Sets : Type 0
Sets = Slots × Slots × Slots

abbrev singles : List (Sets × Sets)
singles =
    -- constants, also with a state that they do not keep, and a number past the table: nothing
    (alone 0 0 false false, (no_slot, no_slot, no_slot))
    ∷ (alone 0 3 true true, (no_slot, no_slot, no_slot))
    ∷ (alone 23 3 true true, (no_slot, no_slot, no_slot))
    -- lookups and gates: "a used slot that isn't an edge slot has another value than in that tick",
    -- up or down
    ∷ (alone 2 0 false false, (XY, XY, no_slot))
    ∷ (alone 3 0 false false, (XYZ, XYZ, no_slot))
    ∷ (alone 4 0 false false, (XYZF, XYZF, no_slot))
    ∷ (alone 5 0 false false, (XY, XY, no_slot))
    ∷ (alone 6 0 false false, (XY, XY, no_slot))
    ∷ (alone 7 0 false false, (XY, XY, no_slot))
    ∷ (alone 10 0 false false, (XYZF, XYZF, no_slot))
    ∷ (alone 11 0 false false, (XYZF, XYZF, no_slot))
    ∷ (alone 5 3 true true, (XY, XY, no_slot))
    -- "a flip-flop's clock slot is high": Y, also where it was high before; Z in a JK
    ∷ (alone 1 0 false false, (XYZF, XZF, only_y))
    ∷ (alone 12 0 false false, (XYZF, XZF, only_y))
    ∷ (alone 18 0 false false, (XYZF, XZF, only_y))
    ∷ (alone 13 0 false false, (XYZ, XY, only_z))
    ∷ (alone 1 3 true true, (XYZF, XZF, only_y))
    -- "a timer's (8, 9, 14-17) trigger is high"; its reset wakes by value; a clock with nothing to
    -- count does not wake
    ∷ (alone 8 0 false false, (XZ, only_z, only_x))
    ∷ (alone 9 0 false false, (XZ, only_z, only_x))
    ∷ (alone 14 0 false false, (XZ, only_z, only_x))
    ∷ (alone 15 0 false false, (XZ, only_z, only_x))
    ∷ (alone 16 0 false false, (XZF, only_z, XF))
    ∷ (alone 17 0 false false, (XZF, only_z, XF))
    ∷ (alone 8 0 true false, (XZ, only_z, only_x))
    -- "a timer's clock is high while its count is above 0 or its pulse is on", a one-shot's too
    ∷ (alone 8 1 false false, (XYZ, only_z, XY))
    ∷ (alone 9 1 false false, (XYZ, only_z, XY))
    ∷ (alone 14 1 false false, (XYZ, only_z, XY))
    ∷ (alone 15 1 false false, (XYZ, only_z, XY))
    ∷ (alone 16 1 false false, (XYZF, only_z, XYF))
    ∷ (alone 17 1 false false, (XYZF, only_z, XYF))
    ∷ (alone 8 0 false true, (XYZ, only_z, XY))
    ∷ (alone 9 0 false true, (XYZ, only_z, XY))
    ∷ (alone 14 0 false true, (XYZ, only_z, XY))
    ∷ (alone 15 0 false true, (XYZ, only_z, XY))
    ∷ (alone 16 0 false true, (XYZF, only_z, XYF))
    ∷ (alone 17 0 false true, (XYZF, only_z, XYF))
    -- counters 19 and 20: A, reset and B wake by value, whatever bit the cell has; a clock alone
    -- finds A and B low
    ∷ (alone 19 0 false false, (XZF, XZF, no_slot))
    ∷ (alone 20 0 false false, (XZF, XZF, no_slot))
    ∷ (alone 19 3 true true, (XZF, XZF, no_slot))
    ∷ (alone 20 3 true true, (XZF, XZF, no_slot))
    -- counters 21 and 22: start and stop wake, obeyed or not, the reset by value, the clock while
    -- the kept "active" is on
    ∷ (alone 21 0 false false, (XZF, only_z, XF))
    ∷ (alone 22 0 false false, (XZF, only_z, XF))
    ∷ (alone 21 3 false true, (XZF, only_z, XF))
    ∷ (alone 22 3 false true, (XZF, only_z, XF))
    ∷ (alone 21 0 true false, (XYZF, only_z, XYF))
    ∷ (alone 22 0 true false, (XYZF, only_z, XYF))
    ∷ (alone 21 65535 true false, (XYZF, only_z, XYF))
    ∷ (alone 22 65535 true false, (XYZF, only_z, XYF))
    ∷ []

one-slot : map (λ (e : Sets × Sets). e.0) singles ≡ map (λ (e : Sets × Sets). e.1) singles
unfolding state alone row_of stirred_as stirred disagree wakes
one-slot = refl

-- ---- slots together, and edits

-- whether a cell wakes with these readings now and in the last tick that ran
woken : (kind count : ℕ) (bit pulse edited : Bool) → Slots → Slots → Bool
woken kind count bit pulse edited now last = wakes kind (state count bit pulse) edited now last

-- whether a counter wakes with this "active", whose slots read as they did
wakeful : (kind count : ℕ) → Bool → Slots → Bool
wakeful kind count active r = woken kind count active false false r r

-- whether a timer does with this count and pulse
stirred_timer : (kind count : ℕ) → Bool → Slots → Bool
stirred_timer kind count pulse r = woken kind count false pulse false r r

-- of a counter: A, or start, is X; B, or stop, is F
abbrev clock_reset : Slots
clock_reset = slots false true true false

abbrev stop_clock : Slots
stop_clock = slots false true false true

-- given, expected
abbrev waking : List (Bool × Bool)
waking =
    -- "it was edited since the last tick that ran": a constant and a number past the table too;
    -- without an edit they do not wake
    (woken 0 0 false false true no_slot no_slot, true)
    ∷ (woken 0 0 false false false XYZF no_slot, false)
    ∷ (woken 23 0 false false true no_slot no_slot, true)
    ∷ (woken 5 0 false false true no_slot no_slot, true)
    ∷ (woken 5 0 false false false no_slot no_slot, false)
    ∷ (woken 1 0 true false true no_slot no_slot, true)
    ∷ (woken 9 0 false false true no_slot no_slot, true)
    ∷ (woken 22 0 false false true no_slot no_slot, true)
    -- slot by slot: X and Y of an AND2 exchange their values. Held values do not wake, however many
    ∷ (woken 5 0 false false false only_x only_y, true)
    ∷ (woken 5 0 false false false XYZF XYZF, false)
    ∷ (woken 10 0 false false false XYZF XYZF, false)
    ∷ (woken 1 0 false false false XZF XZF, false)
    ∷ (woken 13 0 false false false XY XY, false)
    -- a clock that is no flip-flop's edge slot: K of a JK held beside its clock, a D-flop's D and
    -- reset beside its clock
    ∷ (woken 13 0 false false false XYZ XYZ, true)
    ∷ (woken 18 0 false false false XYZF XYZF, true)
    -- "on a clock while active (19 and 20 by A and B as read in that tick ..."
    ∷ (wakeful 19 0 false XYF, true)
    ∷ (wakeful 19 0 true XY, false)
    ∷ (wakeful 19 0 true stop_clock, false)
    ∷ (wakeful 19 0 true XF, false)
    ∷ (wakeful 19 0 false XYZF, true)
    ∷ (wakeful 20 0 false XYF, true)
    ∷ (wakeful 20 0 false XY, true)
    ∷ (wakeful 20 0 false stop_clock, true)
    ∷ (wakeful 20 0 true XF, false)
    ∷ (wakeful 20 0 true clock_reset, false)
    -- "... 21 and 22 by what they kept)", also under reset and at the largest count
    ∷ (wakeful 21 3 true clock_reset, true)
    ∷ (wakeful 21 3 false clock_reset, false)
    ∷ (wakeful 22 65535 true only_y, true)
    ∷ (wakeful 22 0 false only_y, false)
    -- "on start, stop", obeyed or not; a held reset does not wake
    ∷ (wakeful 22 3 false only_x, true)
    ∷ (wakeful 21 0 false stop_clock, true)
    ∷ (wakeful 21 3 true only_x, true)
    ∷ (wakeful 21 3 true only_z, false)
    ∷ (wakeful 22 0 false only_z, false)
    -- a trigger that a timer ignores "still wakes", and one under reset; a held reset does not, not
    -- with a clock and nothing to count
    ∷ (stirred_timer 17 0 true only_f, true)
    ∷ (stirred_timer 14 3 false only_x, true)
    ∷ (stirred_timer 8 0 false XZ, true)
    ∷ (stirred_timer 8 0 false clock_reset, false)
    ∷ (stirred_timer 9 2 false only_z, false)
    ∷ []

who_wakes : map (λ (e : Bool × Bool). e.0) waking ≡ map (λ (e : Bool × Bool). e.1) waking
unfolding state woken wakeful stirred_timer row_of stirred_as stirred disagree wakes
who_wakes = refl
