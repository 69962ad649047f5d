-- Document 02, "A delay keeps its word", of one cell: which types are timers, when one takes a
-- trigger, and what it shows some pulses later. specs/Work says what one tick does; laws
-- (proofs/Timers) say that this comes of it, worked out or asleep.
use Rattle.std.specs.Prelude.{ℕ, ◌+◌, ◌≡◌, refl, Bool, true, false, not, ◌&&◌, ◌||◌, List, [], ◌∷◌, eqb, ltb}
use Rattle.words.specs.Bits.{bit_number}
use Rattle.words.specs.Listed.{listed}
use Rattle.cells.specs.declared.table.Slots.{Slots}
use Rattle.cells.specs.declared.table.Class.{Class}
use Rattle.cells.specs.declared.table.Class.TheVariants.{Nothing, Constant, Gate, Flop, OneShot, Delay, Counter}
use Rattle.cells.specs.declared.cell.State.{State}
use Rattle.cells.specs.Table.{row_of, masked}
use Rattle.cells.specs.Work.{taken, shot_busy, delay_busy}

-- what a one-shot and a delay do, by whether they are retriggerable; no other class does it
abbrev pub on_timer : Class → (one_shot delay : Bool → Bool) → Bool
on_timer Nothing one_shot delay = false
on_timer Constant one_shot delay = false
on_timer (Gate g) one_shot delay = false
on_timer (Flop f) one_shot delay = false
on_timer (OneShot retrigger) one_shot delay = one_shot retrigger
on_timer (Delay retrigger) one_shot delay = delay retrigger
on_timer (Counter k) one_shot delay = false

-- the timers: one-shots and delays
abbrev pub is_timer : Class → Bool
is_timer k = on_timer k (λ retrigger. true) (λ retrigger. true)

-- "the timer types 8, 9 and 14 to 17": these, of all numbers that a cell's type can have
abbrev timer_type : ℕ → Bool
timer_type kind = (eqb kind 8 || eqb kind 9) || (ltb 13 kind && ltb kind 18)

timer-types : listed (λ kind. is_timer (row_of kind).class) 256 ≡ listed timer_type 256
unfolding row_of listed
timer-types = refl

-- a trigger is taken: reset comes before it, and a busy timer that is not retriggerable ignores it
unfoldable pub takes_as : Class → State → Slots → Bool
takes_as k s r =
    on_timer k (λ retrigger. not r.z && taken retrigger r (shot_busy s.count.0))
    (λ retrigger. not r.z && taken retrigger r (delay_busy s.count.0 s.pulse))

unfoldable pub takes : ℕ → State → Slots → Bool
takes kind s r = takes_as (row_of kind).class s (masked (row_of kind).used r)

-- "a tick in which the clock slot is high": how many of the readings are a pulse, and how many of
-- those before the last
unfoldable pub pulses_in : List Slots → ℕ
pulses_in [] = 0
pulses_in (r ∷ rs) = bit_number r.y + pulses_in rs

unfoldable pub pulses_before : List Slots → ℕ
pulses_before [] = 0
pulses_before (r ∷ []) = 0
pulses_before (r ∷ s ∷ rs) = bit_number r.y + pulses_before (s ∷ rs)

-- p pulses after the trigger, of a duration d: "a delay is low through d minus 1 pulses, goes high
-- in the tick of pulse d and low in that of the next pulse; a one-shot is high until pulse d and
-- goes low with it"
abbrev pub shown : Class → (d p : ℕ) → Bool
shown k d p = on_timer k (λ retrigger. ltb p d) (λ retrigger. eqb p d)

-- it then ignores triggers: a one-shot that is not retriggerable "while the count is above 0", such
-- a delay "during the pulse as well"
abbrev pub ignoring : Class → (d p : ℕ) → Bool
ignoring k d p = on_timer k (λ retrigger. not retrigger && ltb p d) (λ retrigger. not retrigger && ltb p (d + 1))
