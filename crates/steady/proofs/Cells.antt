-- One cell in a steady stretch: worked out again with the same readings, its count goes on as it did, with the same output.
use Prim.Native.Nat.{ℕ, suc, ◌+◌, ◌-◌, ◌≤◌, ◌<◌}
use mathlib.Core.Path.{◌≡◌, refl, sym, ap, ◌∙◌}
use mathlib.Core.Bool.{Bool, true, false, not, ◌&&◌, ◌||◌, beq, cond, true≢false}
use native.Mathlib.Nat.{not-suc-le-zero}
use native.Mathlib.Omega.{arith}
use lib.Dec.{eqb, ltb}
use borrow.Author.Tests.{eqb-true, eqb-false, lt-ltb, le-ltb, ne_eqb}
use Rattle.words.proofs.Bools.{and_left, and_right}
use Rattle.cells.specs.declared.table.Slots.{Slots}
use Rattle.cells.specs.declared.table.Class.{Class}
use Rattle.cells.specs.declared.table.Class.TheVariants.{Nothing, Constant, Gate, Flop, OneShot, Delay, Counter}
use Rattle.cells.specs.declared.table.CounterKind.{CounterKind}
use Rattle.cells.specs.declared.table.CounterKind.TheVariants.{WhileBoth, WhileEither, FromStart, FromStartAtZero}
use Rattle.cells.specs.declared.cell.State.{State}
use Rattle.cells.specs.declared.cell.Worked.{Worked}
use Rattle.cells.specs.declared.cell.Cell.{Cell}
use Rattle.cells.specs.State.{state, state_of, with_state}
use Rattle.cells.specs.Table.{row_of, masked}
use Rattle.cells.specs.Work.{pulses, largest_count, trigger, taken, shot_busy, delay_busy, next_count, next_pulse, raised}
use Rattle.cells.specs.Work.{counted_up, active_after, kept_active, work_as, work_out}
use Rattle.cells.specs.Wake.{stirred_as, stirred}
use Rattle.cells.proofs.Laws.{wakes-splits, disagree-self}
use Rattle.ticks.specs.Tick.{Turn, worked_turn, slept_turn, rules_name, turn_by}
use Rattle.ticks.proofs.Cases.{by_turn}
use Rattle.steady.specs.Steady.{count_holds, state_holds, count_through, state_through, cell_holds, cell_through}

-- two numbers are equal, or are not: the two cases of the test
pub by_equal : (a b : ℕ) (P : Bool → Type 0) → (a ≡ b → P true) → ((a ≡ b → ⊥) → P false) → P (eqb a b)
by_equal a b P same other = go (eqb a b) refl
  where
    go : (t : Bool) → eqb a b ≡ t → P t
    go true e = same (eqb-true a b e)
    go false e = other (eqb-false a b e)

-- ---- counts

-- the three ways in which a count goes on: for m ticks more after the first
pub data Way (config x y m : ℕ) : Type 0 where
  stays : x ≡ y → Way config x y m
  falls : x ≡ y + 1 → m < y → (y ≡ config → ⊥) → Way config x y m
  rises : y ≡ x + 1 → x + suc m ≤ largest_count → (y ≡ config → ⊥) → Way config x y m

pub way : (config x y m : ℕ) → suc m ≤ count_holds config x y → Way config x y m
unfolding count_holds
way config x y m =
    by_equal x y (λ b. suc m ≤ cond b 4294967295 (cond (eqb y config) 0 (cond (eqb x (y + 1)) y (cond (eqb y (x + 1)) (largest_count - x) 0)))
    → Way config x y m)
    (λ e _. stays e)
    (λ ne. by_equal y config (λ b. suc m ≤ cond b 0 (cond (eqb x (y + 1)) y (cond (eqb y (x + 1)) (largest_count - x) 0)) → Way config x y m)
    (λ _ h. absurd (not-suc-le-zero h))
    (λ nc. by_equal x (y + 1) (λ b. suc m ≤ cond b y (cond (eqb y (x + 1)) (largest_count - x) 0) → Way config x y m)
    (λ e h. falls e h nc)
    (λ _. by_equal y (x + 1) (λ b. suc m ≤ cond b (largest_count - x) 0 → Way config x y m)
    (λ e h. rises e (omega arith) nc)
    (λ _ h. absurd (not-suc-le-zero h)))))

pub through_same : (x y m : ℕ) → x ≡ y → count_through x y m ≡ x
unfolding count_through
through_same x y m e =
    let a : x ≤ y = omega arith in
    let b : y ≤ x = omega arith in
    rw (le-ltb y x a, le-ltb x y b)

pub through-falls : (x y m : ℕ) → y < x → count_through x y m ≡ x - m
unfolding count_through
through-falls x y m h = rw (lt-ltb y x h)

pub through-rises : (x y m : ℕ) → x < y → count_through x y m ≡ x + m
unfolding count_through
through-rises x y m h =
    let a : x ≤ y = omega arith in
    rw (le-ltb y x a, lt-ltb x y h)

pub through-none : (x y : ℕ) → count_through x y 0 ≡ x
unfolding count_through
through-none x y = go (ltb y x) (ltb x y)
  where
    go : (a b : Bool) → cond a (x - 0) (cond b (x + 0) x) ≡ x
    go true b = omega arith
    go false true = omega arith
    go false false = refl

-- ---- timers

or-top : (a : Bool) → (a || true) ≡ true
or-top true = refl
or-top false = refl

same_bits : (a b : Bool) → not (beq a b) ≡ false → a ≡ b
same_bits true true e = refl
same_bits false false e = refl
same_bits true false e = absurd (true≢false e)
same_bits false true e = absurd (true≢false e)

-- a timer's count that fell by 1 and is neither at its end nor that of the configuration: a clock did it, and no reset and no trigger
record Clocked (reset took clock : Bool) : Type 0 where
  low : reset ≡ false
  none : took ≡ false
  high : clock ≡ true

clocked : (reset took clock : Bool) (d x y : ℕ) → next_count reset took clock d x ≡ y → x ≡ y + 1 → 0 < y → (y ≡ d → ⊥) → Clocked reset took clock
clocked true took clock d x y e ex h ne = absurd (omega arith)
clocked false true clock d x y e ex h ne = absurd (ne (sym e))
clocked false false false d x y e ex h ne = absurd (omega arith)
clocked false false true d x y e ex h ne = record { low = refl; none = refl; high = refl }

clocked-count : (reset took clock : Bool) (d x : ℕ) → Clocked reset took clock → next_count reset took clock d x ≡ x - 1
clocked-count reset took clock d x c = rw (c.low, c.none, c.high)

clocked-pulse : (reset took clock : Bool) (d x : ℕ) (pulse : Bool) → Clocked reset took clock → 1 < x → next_pulse reset took clock d x pulse ≡ pulse
clocked-pulse reset took clock d x pulse c h =
    let some : 0 < x = omega arith in
    rw (c.low, c.none, c.high, lt-ltb 0 x some, ne_eqb x 1 (λ e. omega arith))

-- a timer is busy with every count above 0, so it takes its trigger with each or with none
shot-took : (t : Bool) (r : Slots) (x z : ℕ) → 0 < x → 0 < z → taken t r (shot_busy z) ≡ taken t r (shot_busy x)
shot-took t r x z h k = rw (lt-ltb 0 x h, lt-ltb 0 z k)

delay-took : (t : Bool) (r : Slots) (x z : ℕ) (pulse : Bool) → 0 < x → 0 < z → taken t r (delay_busy z pulse) ≡ taken t r (delay_busy x pulse)
delay-took t r x z pulse h k = rw (lt-ltb 0 x h, lt-ltb 0 z k)

-- a state with another count
abbrev pub at : State → ℕ → State
at s x = state (pulses x) s.bit s.pulse

-- the work of a tick that finds the count z, by that of one that found s: the count goes to y, and the output is the same
abbrev pub Again : Class → ℕ → State → Slots → (z y : ℕ) → Type 0
Again k config s r z y =
    (stirred_as k (at s z) r ≡ true) × (work_as k config (at s z) r ≡ record { state = at s y; out = (work_as k config s r).out })

raised-not : (x y : ℕ) → raised x ≡ y → x ≡ y + 1 → ⊥
unfolding raised
raised-not x y e h = go (ltb x largest_count) e
  where
    go : (b : Bool) → cond b (x + 1) x ≡ y → ⊥
    go true e = omega arith
    go false e = omega arith

counted-not : (reset up : Bool) (x y : ℕ) → cond reset 0 (cond up (raised x) x) ≡ y → x ≡ y + 1 → 0 < y → ⊥
counted-not true up x y e h k = omega arith
counted-not false true x y e h k = raised-not x y e h
counted-not false false x y e h k = omega arith

pub falls-as : (k : Class) (config : ℕ) (s : State) (r : Slots) (y m : ℕ) → (work_as k config s r).state ≡ at s y → s.count.0 ≡ y + 1 → m < y
    → (y ≡ config → ⊥) → Again k config s r (y + 1 - m) (y - m)
unfolding work_as stirred_as
falls-as Nothing config s r y m e ex h ne = absurd (omega (arith, ap (λ (t : State). t.count.0) e))
falls-as Constant config s r y m e ex h ne = absurd (omega (arith, ap (λ (t : State). t.count.0) e))
falls-as (Gate g) config s r y m e ex h ne = absurd (omega (arith, ap (λ (t : State). t.count.0) e))
falls-as (Flop f) config s r y m e ex h ne = absurd (omega (arith, ap (λ (t : State). t.count.0) e))
falls-as (Counter k) config s r y m e ex h ne = absurd (counted-not r.z (active_after k r s.count.0 s.bit
    && r.y) s.count.0 y (ap (λ (t : State). t.count.0) e) ex (omega arith))
falls-as (OneShot t) config s r y m e ex h ne =
    let x = s.count.0 in
    let z = y + 1 - m in
    let count = ap (λ (t : State). t.count.0) e in
    let c = clocked r.z (taken t r (shot_busy x)) r.y config x y count ex (omega arith) ne in
    let same = shot-took t r x z (omega arith) (omega arith) in
    let d : Clocked r.z (taken t r (shot_busy z)) r.y = record { low = c.low; none = same ∙ c.none; high = c.high } in
    let one : z - 1 ≡ y - m = omega arith in
    let less = clocked-count _ _ _ config z d ∙ one in
    let out = ap (ltb 0) less ∙ lt-ltb 0 (y - m) (omega arith) ∙ sym (lt-ltb 0 y (omega arith)) ∙ ap (ltb 0) (sym count) in (
      rw (c.high, lt-ltb 0 z (omega arith)) (or-top (trigger r)),
      λ i. record { state = state (pulses (less i)) s.bit s.pulse; out = out i },
    )
falls-as (Delay t) config s r y m e ex h ne =
    let x = s.count.0 in
    let z = y + 1 - m in
    let count = ap (λ (t : State). t.count.0) e in
    let pulse = ap (λ (t : State). t.pulse) e in
    let c = clocked r.z (taken t r (delay_busy x s.pulse)) r.y config x y count ex (omega arith) ne in
    let same = delay-took t r x z s.pulse (omega arith) (omega arith) in
    let d : Clocked r.z (taken t r (delay_busy z s.pulse)) r.y = record { low = c.low; none = same ∙ c.none; high = c.high } in
    let one : z - 1 ≡ y - m = omega arith in
    let less = clocked-count _ _ _ config z d ∙ one in
    let stay = clocked-pulse _ _ _ config z s.pulse d (omega arith) in (
      rw (c.high, lt-ltb 0 z (omega arith)) (or-top (trigger r)),
      λ i. record { state = state (pulses (less i)) s.bit (stay i); out = (stay ∙ sym pulse) i },
    )

-- ---- counters

-- a counter's count that rose by 1 and is not that of the configuration: it was active, and a clock came
up-true : (reset up : Bool) (x y : ℕ) → cond reset 0 (cond up (raised x) x) ≡ y → y ≡ x + 1 → (reset ≡ false) × (up ≡ true)
up-true true up x y e h = absurd (omega arith)
up-true false true x y e h = (refl, refl)
up-true false false x y e h = absurd (omega arith)

raised-more : (x : ℕ) → x < largest_count → raised x ≡ x + 1
unfolding raised
raised-more x h = rw (lt-ltb x largest_count h)

-- an active counter that kept its bit is active with every count
active-any : (k : CounterKind) (r : Slots) (x z : ℕ) (bit : Bool) → active_after k r x bit ≡ true → kept_active k bit (active_after k r x bit) ≡ bit
    → active_after k r z bit ≡ true
active-any WhileBoth r x z bit up kept = up
active-any WhileEither r x z bit up kept = up
active-any FromStart r x z bit up kept = up
active-any FromStartAtZero r x z bit up kept = go bit (sym kept ∙ up) (r.z || r.f) up
  where
    go : (b : Bool) → b ≡ true → (off : Bool) → cond off false ((r.x && eqb x 0) || bit) ≡ true → cond off false ((r.x && eqb z 0) || b) ≡ true
    go b e true h = h
    go b e false h = rw e (or-top (r.x && eqb z 0))

-- no timer's count rises by 1 but to its configuration
timer-not : (reset took clock : Bool) (d x y : ℕ) → next_count reset took clock d x ≡ y → y ≡ x + 1 → (y ≡ d → ⊥) → ⊥
timer-not true took clock d x y e h ne = omega arith
timer-not false true clock d x y e h ne = ne (sym e)
timer-not false false true d x y e h ne = omega arith
timer-not false false false d x y e h ne = omega arith

pub rises-as : (k : Class) (config : ℕ) (s : State) (r : Slots) (y m : ℕ) → stirred_as k s r ≡ true → (work_as k config s r).state ≡ at s y
    → y ≡ s.count.0 + 1 → s.count.0 + suc m ≤ largest_count
    → (y ≡ config → ⊥) → Again k config s r (s.count.0 + m) (s.count.0 + suc m)
unfolding work_as stirred_as
rises-as Nothing config s r y m up e ex h ne = absurd (omega (arith, ap (λ (t : State). t.count.0) e))
rises-as Constant config s r y m up e ex h ne = absurd (omega (arith, ap (λ (t : State). t.count.0) e))
rises-as (Gate g) config s r y m up e ex h ne = absurd (omega (arith, ap (λ (t : State). t.count.0) e))
rises-as (Flop f) config s r y m up e ex h ne = absurd (omega (arith, ap (λ (t : State). t.count.0) e))
rises-as (OneShot t) config s r y m up e ex h ne =
    absurd (timer-not r.z (taken t r (shot_busy s.count.0)) r.y config s.count.0 y (ap (λ (t : State). t.count.0) e) ex ne)
rises-as (Delay t) config s r y m up e ex h ne =
    absurd (timer-not r.z (taken t r (delay_busy s.count.0 s.pulse)) r.y config s.count.0 y (ap (λ (t : State). t.count.0) e) ex ne)
rises-as (Counter k) config s r y m up e ex h ne =
    let x = s.count.0 in
    let active = active_after k r x s.bit in
    let u = up-true r.z (active && r.y) x y (ap (λ (t : State). t.count.0) e) ex in
    let is = and_left active r.y u.1 in
    let clock = and_right active r.y u.1 in
    let kept : kept_active k s.bit active ≡ s.bit = ap (λ (t : State). t.bit) e in
    let still = active-any k r x (x + m) s.bit is kept in
    let more : x + m + 1 ≡ x + suc m = omega arith in
    let count : counted_up r.z (active_after k r (x + m) s.bit) r.y (x + m) ≡ x + suc m
    = rw (still, u.0, clock) (raised-more (x + m) (omega arith) ∙ more) in
    let bit = ap (kept_active k s.bit) (still ∙ sym is) ∙ kept in (
      up,
      λ i. record { state = state (pulses (count i)) (bit i) s.pulse; out = (still ∙ sym is) i },
    )

-- ---- any cell

-- a stirred cell whose state the tick left so that it holds for m ticks more: in the last of them it is stirred too, and goes on
pub goes_on : (k : Class) (config : ℕ) (s : State) (r : Slots) (m : ℕ) → stirred_as k s r ≡ true
    → suc m ≤ state_holds config s (work_as k config s r).state
    → let t = (work_as k config s r).state in
    (stirred_as k (state_through s t m) r ≡ true)
    × (work_as k config (state_through s t m) r ≡ record { state = state_through s t (suc m); out = (work_as k config s r).out })
unfolding state_holds
goes_on k config s r m up = go (not (beq s.bit t.bit)) (not (beq s.pulse t.pulse)) refl refl
  where
    t : State
    t = (work_as k config s r).state

    Goal : Type 0
    Goal = (stirred_as k (state_through s t m) r ≡ true)
        × (work_as k config (state_through s t m) r ≡ record { state = state_through s t (suc m); out = (work_as k config s r).out })

    x : ℕ
    x = s.count.0

    y : ℕ
    y = t.count.0

    from : (a b : ℕ) → count_through x y m ≡ a → count_through x y (suc m) ≡ b → Again k config s r a b → Goal
    from a b p q g = (
      ap (λ (c : ℕ). stirred_as k (at s c) r) p ∙ g.0,
      ap (λ (c : ℕ). work_as k config (at s c) r) p ∙ g.1 ∙ (λ i. record { state = at s (sym q i); out = (work_as k config s r).out }),
    )

    by_way : t ≡ at s y → Way config x y m → Goal
    by_way e (stays same) =
        let mine : t ≡ s = e ∙ ap (at s) (sym same) in
        from x x (through_same x y m same) (through_same x y (suc m) same)
        (up, λ i. record { state = mine i; out = (work_as k config s r).out })
    by_way e (falls ex h ne) =
        let less : y < x = omega arith in
        from (y + 1 - m) (y - m) (through-falls x y m less ∙ ap (λ (c : ℕ). c - m) ex) (through-falls x y (suc m) less ∙ omega arith)
        (falls-as k config s r y m e ex h ne)
    by_way e (rises ex h ne) =
        let more : x < y = omega arith in
        from (x + m) (x + suc m) (through-rises x y m more) (through-rises x y (suc m) more) (rises-as k config s r y m up e ex h ne)

    go : (a b : Bool) → not (beq s.bit t.bit) ≡ a → not (beq s.pulse t.pulse) ≡ b
        → suc m ≤ cond (a || b) 0 (count_holds config x y) → Goal
    go true b ea eb h = absurd (not-suc-le-zero h)
    go false true ea eb h = absurd (not-suc-le-zero h)
    go false false ea eb h =
        let e : t ≡ at s y = λ i. state t.count (sym (same_bits s.bit t.bit ea) i) (sym (same_bits s.pulse t.pulse eb) i) in
        by_way e (way config x y m h)

-- ---- turns

or_off : (a : Bool) → (a || false) ≡ a
or_off true = refl
or_off false = refl

-- with readings that did not change the rules name a cell exactly where something stirs it
pub named-stirred : (cell : Cell) (r : Slots) → rules_name cell false r r ≡ stirred cell.kind (state_of cell) r
named-stirred cell r =
    wakes-splits cell.kind (state_of cell) false r r
    ∙ ap (λ (b : Bool). stirred cell.kind (state_of cell) r || b) (disagree-self cell.kind r)
    ∙ or_off (stirred cell.kind (state_of cell) r)

pub through-itself : (a : Cell) (m : ℕ) → cell_through a a m ≡ a
through-itself a m = ap (λ (x : ℕ). with_state a (at (state_of a) x)) (through_same a.count.0 a.count.0 m refl)

pub through-zero : (a b : Cell) → cell_through a b 0 ≡ a
through-zero a b = ap (λ (x : ℕ). with_state a (at (state_of a) x)) (through-none a.count.0 b.count.0)

turn_is : (cell : Cell) (out : Bool) (r : Slots) (b : Bool) → rules_name cell false r r ≡ b
    → turn_by false cell false out r r ≡ cond b (worked_turn cell b r) (slept_turn cell out)
turn_is cell out r b e = ap (λ (b : Bool). cond b (worked_turn cell b r) (slept_turn cell out)) e

-- the turns after a turn with these readings continue what it makes of a cell
pub turn-through : (a : Cell) (out : Bool) (r : Slots) (m : ℕ)
    → let t = turn_by false a false out r r in
    t.out ≡ out → suc m ≤ cell_holds a t.cell
    → turn_by false (cell_through a t.cell m) false out r r
    ≡ record { cell = cell_through a t.cell (suc m); out = out; named = t.named; woke = t.woke }
unfolding work_out stirred
turn-through a out r m = by_turn false a false out r r P worked slept
  where
    P : Turn → Type 0
    P t = t.out ≡ out → suc m ≤ cell_holds a t.cell
        → turn_by false (cell_through a t.cell m) false out r r
        ≡ record { cell = cell_through a t.cell (suc m); out = out; named = t.named; woke = t.woke }

    slept : rules_name a false r r ≡ false → P (slept_turn a out)
    slept e _ _ =
        ap (λ (c : Cell). turn_by false c false out r r) (through-itself a m) ∙ turn_is a out r false e
        ∙ (λ i. record { cell = sym (through-itself a (suc m)) i; out = out; named = false; woke = false })

    worked : rules_name a false r r ≡ true → P (worked_turn a (rules_name a false r r) r)
    worked e same holds =
        let k = (row_of a.kind).class in
        let used = masked (row_of a.kind).used r in
        let up = sym (named-stirred a r) ∙ e in
        let b = (worked_turn a (rules_name a false r r) r).cell in
        let g = goes_on k a.config (state_of a) used m up holds in
        turn_is (cell_through a b m) out r true (named-stirred (cell_through a b m) r ∙ g.0)
        ∙ (λ i. record { cell = with_state a (g.1 i).state; out = (ap (λ (w : Worked). w.out) g.1 ∙ same) i; named = sym e i; woke = true })
