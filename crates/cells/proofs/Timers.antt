-- Laws of the timers over the pulses since a trigger: worked out or asleep, a timer has the count
-- and the output that specs/Timing says.
use Prim.Native.Nat.{ℕ, ◌+◌, ◌-◌, ◌<◌, ◌≤◌}
use mathlib.Core.Path.{◌≡◌, refl, sym, ap, subst, ◌∙◌}
use mathlib.Core.Bool.{Bool, true, false, not, ◌&&◌, ◌||◌, cond, true≢false}
use native.Mathlib.Decide.{dec_lt, ℕ_discrete}
use native.Mathlib.Nat.{zero-add}
use native.Mathlib.Omega.{arith}
use lib.Dec.{eqb, ltb}
use borrow.Author.Tests.{lt-ltb, le-ltb, eq-eqb, ne_eqb, ltb-true, ltb-false, not-true}
use Rattle.words.specs.Bits.{bit_number}
use Rattle.words.proofs.Bools.{or_left, or_right, and_left, and_right}
use Rattle.cells.specs.declared.table.Slots.{Slots}
use Rattle.cells.specs.declared.table.Class.{Class}
use Rattle.cells.specs.declared.table.Row.{Row}
use Rattle.cells.specs.declared.table.Class.TheVariants.{Nothing, Constant, Gate, Flop, OneShot, Delay, Counter}
use Rattle.cells.specs.declared.cell.State.{State}
use Rattle.cells.specs.Table.{row_of, masked}
use Rattle.cells.specs.Work.{trigger, taken, shot_busy, delay_busy, next_pulse, work_as, work_out}
use Rattle.cells.specs.Wake.{stirred_as, stirred}
use Rattle.cells.specs.Timing.{is_timer, takes_as, takes, shown, ignoring}
use Rattle.cells.proofs.Rows.{every-row}

-- ---- numbers

eqb_same : (a b c d : ℕ) → (a ≡ b → c ≡ d) → (c ≡ d → a ≡ b) → eqb a b ≡ eqb c d
eqb_same a b c d to from = go (ℕ_discrete a b)
  where
    go : Dec (a ≡ b) → eqb a b ≡ eqb c d
    go (yes e) = eq-eqb a b e ∙ sym (eq-eqb c d (to e))
    go (no ne) = ne_eqb a b ne ∙ sym (ne_eqb c d (λ e. ne (from e)))

-- what is left of a duration is above 0 just where the pulses are fewer
left-above : (d p : ℕ) → ltb 0 (d - p) ≡ ltb p d
left-above d p = go (dec_lt p d)
  where
    go : Dec (p < d) → ltb 0 (d - p) ≡ ltb p d
    go (yes h) =
        let g : 0 < d - p = omega arith in
        lt-ltb 0 (d - p) g ∙ sym (lt-ltb p d h)
    go (no h) =
        let g : d - p ≤ 0 = omega arith in
        let l : d ≤ p = omega arith in
        le-ltb 0 (d - p) g ∙ sym (le-ltb p d l)

-- the count, and a delay's pulse, a pulse later or not
lowered : (d p v : ℕ) (y : Bool) → v ≡ d - p → cond y (v - 1) v ≡ d - (bit_number y + p)
lowered d p v true e = omega arith
lowered d p v false e = omega arith

pulsed : (d p : ℕ) (y : Bool) → cond y (cond (ltb 0 (d - p)) (eqb (d - p) 1 || eqb p d) false) (eqb p d) ≡ eqb (bit_number y + p) d
pulsed d p false = eqb_same p d (0 + p) d (λ e. omega arith) (λ e. omega arith)
pulsed d p true = go (dec_lt p d)
  where
    or_off : (b : Bool) → (b || false) ≡ b
    or_off true = refl
    or_off false = refl

    go : Dec (p < d) → cond (ltb 0 (d - p)) (eqb (d - p) 1 || eqb p d) false ≡ eqb (1 + p) d
    go (yes h) =
        let g : 0 < d - p = omega arith in
        rw (lt-ltb 0 (d - p) g, ne_eqb p d (λ e. omega arith))
        (or_off (eqb (d - p) 1) ∙ eqb_same (d - p) 1 (1 + p) d (λ e. omega arith) (λ e. omega arith))
    go (no h) =
        let g : d - p ≤ 0 = omega arith in
        rw (le-ltb 0 (d - p) g) (sym (ne_eqb (1 + p) d (λ e. omega arith)))

-- a count above 0, or the pulse
busy-or : (d p : ℕ) → p < d + 1 → (ltb 0 (d - p) || eqb p d) ≡ true
busy-or d p h = go (dec_lt p d)
  where
    go : Dec (p < d) → (ltb 0 (d - p) || eqb p d) ≡ true
    go (yes l) = rw (left-above d p, lt-ltb p d l)
    go (no l) = rw (left-above d p, le-ltb p d (omega arith)) (eq-eqb p d (omega arith))

never : (z t : Bool) → (not z && (t && false)) ≡ false
never true t = refl
never false true = refl
never false false = refl

-- ---- a timer, by its class

unfoldable pub PulseIs : Class → (d p : ℕ) → State → Type 0
PulseIs Nothing d p s = Unit {0}
PulseIs Constant d p s = Unit {0}
PulseIs (Gate g) d p s = Unit {0}
PulseIs (Flop f) d p s = Unit {0}
PulseIs (OneShot t) d p s = Unit {0}
PulseIs (Delay t) d p s = s.pulse ≡ eqb p d
PulseIs (Counter k) d p s = Unit {0}

-- the state and the output of a timer of duration d, p pulses after a trigger
pub record Word (k : Class) (d p : ℕ) (s : State) (out : Bool) : Type 0 where
  pub count : s.count.0 ≡ d - p
  pub pulse : PulseIs k d p s
  pub output : out ≡ shown k d p

-- the tick of the trigger
as-taken : (k : Class) (d : ℕ) (s : State) (r : Slots) → is_timer k ≡ true → 1 ≤ d → takes_as k s r ≡ true
    → Word k d 0 (work_as k d s r).state (work_as k d s r).out
unfolding takes_as work_as PulseIs taken
as-taken Nothing d s r is some took = absurd (true≢false (sym is))
as-taken Constant d s r is some took = absurd (true≢false (sym is))
as-taken (Gate g) d s r is some took = absurd (true≢false (sym is))
as-taken (Flop f) d s r is some took = absurd (true≢false (sym is))
as-taken (Counter k) d s r is some took = absurd (true≢false (sym is))
as-taken (OneShot t) d s r is some took =
    let z = not-true r.z (and_left (not r.z) _ took) in
    let h = and_right (not r.z) _ took in
    record { count = rw (z, h) (omega arith); pulse = tt; output = rw (z, h) }
as-taken (Delay t) d s r is some took =
    let z = not-true r.z (and_left (not r.z) _ took) in
    let h = and_right (not r.z) _ took in
    let same : eqb d 0 ≡ eqb 0 d = eqb_same d 0 0 d (λ e. omega arith) (λ e. omega arith) in
    record { count = rw (z, h) (omega arith); pulse = rw (z, h) same; output = rw (z, h) same }

-- a trigger that is taken stirs
as-stirs : (k : Class) (s : State) (r : Slots) → takes_as k s r ≡ true → stirred_as k s r ≡ true
unfolding takes_as stirred_as taken
as-stirs Nothing s r took = took
as-stirs Constant s r took = took
as-stirs (Gate g) s r took = took
as-stirs (Flop f) s r took = absurd (true≢false (sym took))
as-stirs (Counter k) s r took = absurd (true≢false (sym took))
as-stirs (OneShot t) s r took = rw (and_left (trigger r) _ (and_right (not r.z) _ took))
as-stirs (Delay t) s r took = rw (and_left (trigger r) _ (and_right (not r.z) _ took))

-- a later tick that works it out
as-worked : (k : Class) (d p : ℕ) (s : State) (out : Bool) (r : Slots) → is_timer k ≡ true → r.z ≡ false → takes_as k s r ≡ false
    → Word k d p s out → Word k d (bit_number r.y + p) (work_as k d s r).state (work_as k d s r).out
unfolding takes_as work_as PulseIs taken
as-worked Nothing d p s out r is z off w = absurd (true≢false (sym is))
as-worked Constant d p s out r is z off w = absurd (true≢false (sym is))
as-worked (Gate g) d p s out r is z off w = absurd (true≢false (sym is))
as-worked (Flop f) d p s out r is z off w = absurd (true≢false (sym is))
as-worked (Counter k) d p s out r is z off w = absurd (true≢false (sym is))
as-worked (OneShot t) d p s out r is z off w =
    let no : taken t r (shot_busy s.count.0) ≡ false = rw z at off in
    let count = lowered d p s.count.0 r.y w.count in
    record { count = rw (z, no) count; pulse = tt; output = rw (z, no, count) (left-above d (bit_number r.y + p)) }
as-worked (Delay t) d p s out r is z off w =
    let no : taken t r (delay_busy s.count.0 s.pulse) ≡ false = rw z at off in
    let pulse : next_pulse false false r.y d s.count.0 s.pulse ≡ eqb (bit_number r.y + p) d =
    rw (w.count, w.pulse) (pulsed d p r.y) in
    record { count = rw (z, no) (lowered d p s.count.0 r.y w.count); pulse = rw (z, no) pulse; output = rw (z, no) pulse }

-- a later tick that lets it sleep: no clock, or one that finds nothing to count or to end
as-slept : (k : Class) (d p : ℕ) (s : State) (out : Bool) (r : Slots) → is_timer k ≡ true → stirred_as k s r ≡ false
    → Word k d p s out → Word k d (bit_number r.y + p) s out
unfolding stirred_as PulseIs
as-slept Nothing d p s out r is still w = absurd (true≢false (sym is))
as-slept Constant d p s out r is still w = absurd (true≢false (sym is))
as-slept (Gate g) d p s out r is still w = absurd (true≢false (sym is))
as-slept (Flop f) d p s out r is still w = absurd (true≢false (sym is))
as-slept (Counter k) d p s out r is still w = absurd (true≢false (sym is))
as-slept (OneShot t) d p s out r is still w = go r.y (or_right (trigger r) _ still)
  where
    go : (y : Bool) → (y && (ltb 0 s.count.0 || s.pulse)) ≡ false → Word (OneShot t) d (bit_number y + p) s out
    go false h = rw (zero-add p) w
    go true h =
        let none : s.count.0 ≤ 0 = ltb-false 0 s.count.0 (or_left _ s.pulse h) in
        let e = w.count in
        let past : d ≤ p = omega arith in
        record { count = omega arith; pulse = tt; output = w.output ∙ le-ltb p d past ∙ sym (le-ltb (1 + p) d (omega arith)) }
as-slept (Delay t) d p s out r is still w = go r.y (or_right (trigger r) _ still)
  where
    go : (y : Bool) → (y && (ltb 0 s.count.0 || s.pulse)) ≡ false → Word (Delay t) d (bit_number y + p) s out
    go false h = rw (zero-add p) w
    go true h =
        let none : s.count.0 ≤ 0 = ltb-false 0 s.count.0 (or_left _ s.pulse h) in
        let e = w.count in
        let past : d ≤ p = omega arith in
        let off : eqb p d ≡ false = sym w.pulse ∙ or_right (ltb 0 s.count.0) s.pulse h in
        let more : eqb (1 + p) d ≡ false = ne_eqb (1 + p) d (λ e. omega arith) in
        record { count = omega arith; pulse = w.pulse ∙ off ∙ sym more; output = w.output ∙ off ∙ sym more }

-- one that ignores triggers takes none
as-ignored : (k : Class) (d p : ℕ) (s : State) (out : Bool) (r : Slots) → ignoring k d p ≡ true → Word k d p s out → takes_as k s r ≡ false
unfolding takes_as taken PulseIs
as-ignored Nothing d p s out r b w = refl
as-ignored Constant d p s out r b w = refl
as-ignored (Gate g) d p s out r b w = refl
as-ignored (Flop f) d p s out r b w = refl
as-ignored (Counter k) d p s out r b w = refl
as-ignored (OneShot t) d p s out r b w =
    let busy : ltb 0 s.count.0 ≡ true = ap (ltb 0) w.count ∙ left-above d p ∙ and_right (not t) _ b in
    rw (not-true t (and_left (not t) _ b), busy) (never r.z (trigger r))
as-ignored (Delay t) d p s out r b w =
    let busy = busy-or d p (ltb-true p (d + 1) (and_right (not t) _ b)) in
    rw (not-true t (and_left (not t) _ b), w.count, w.pulse, busy) (never r.z (trigger r))

-- and it did after fewer pulses
pub ignoring-fewer : (k : Class) (d p q : ℕ) → p ≤ q → ignoring k d q ≡ true → ignoring k d p ≡ true
ignoring-fewer Nothing d p q h b = b
ignoring-fewer Constant d p q h b = b
ignoring-fewer (Gate g) d p q h b = b
ignoring-fewer (Flop f) d p q h b = b
ignoring-fewer (Counter k) d p q h b = b
ignoring-fewer (OneShot t) d p q h b =
    let l = ltb-true q d (and_right (not t) _ b) in
    rw (and_left (not t) _ b, lt-ltb p d (omega arith))
ignoring-fewer (Delay t) d p q h b =
    let l = ltb-true q (d + 1) (and_right (not t) _ b) in
    rw (and_left (not t) _ b, lt-ltb p (d + 1) (omega arith))

-- ---- a timer, by its type

-- all timers use their clock and their reset
uses : Row → Bool
uses w = not (is_timer w.class) || (w.used.y && w.used.z)

rows-use : (kind : ℕ) → uses (row_of kind) ≡ true
unfolding uses
rows-use kind = every-row uses refl kind

module _ (kind : ℕ) (r : Slots) (is : is_timer (row_of kind).class ≡ true) where
  used-both : ((row_of kind).used.y && (row_of kind).used.z) ≡ true
  unfolding uses
  used-both = rw is at (rows-use kind)

  clock-read : (masked (row_of kind).used r).y ≡ r.y
  clock-read = rw (and_left (row_of kind).used.y _ used-both)

  reset-read : (masked (row_of kind).used r).z ≡ r.z
  reset-read = rw (and_right (row_of kind).used.y _ used-both)

pub taken-stirs : (kind : ℕ) (s : State) (r : Slots) → takes kind s r ≡ true → stirred kind s r ≡ true
unfolding takes stirred
taken-stirs kind s r took = as-stirs (row_of kind).class s (masked (row_of kind).used r) took

pub word-taken : (kind d : ℕ) (s : State) (r : Slots) → is_timer (row_of kind).class ≡ true → 1 ≤ d → takes kind s r ≡ true
    → Word (row_of kind).class d 0 (work_out kind d s r).state (work_out kind d s r).out
unfolding takes work_out
word-taken kind d s r is some took = as-taken (row_of kind).class d s (masked (row_of kind).used r) is some took

module _ (kind d p : ℕ) (s : State) (out : Bool) (r : Slots) (w : Word (row_of kind).class d p s out) where
  pub word-worked : is_timer (row_of kind).class ≡ true → r.z ≡ false → takes kind s r ≡ false
      → Word (row_of kind).class d (bit_number r.y + p) (work_out kind d s r).state (work_out kind d s r).out
  unfolding takes work_out
  word-worked is z off =
      let m = masked (row_of kind).used r in
      subst (λ (y : Bool). Word (row_of kind).class d (bit_number y + p) (work_out kind d s r).state (work_out kind d s r).out) (clock-read kind r is)
      (as-worked (row_of kind).class d p s out m is (reset-read kind r is ∙ z) off w)

  pub word-slept : is_timer (row_of kind).class ≡ true → stirred kind s r ≡ false → Word (row_of kind).class d (bit_number r.y + p) s out
  unfolding stirred
  word-slept is still =
      subst (λ (y : Bool). Word (row_of kind).class d (bit_number y + p) s out) (clock-read kind r is)
      (as-slept (row_of kind).class d p s out (masked (row_of kind).used r) is still w)

  pub word-ignored : ignoring (row_of kind).class d p ≡ true → takes kind s r ≡ false
  unfolding takes
  word-ignored b = as-ignored (row_of kind).class d p s out (masked (row_of kind).used r) b w
