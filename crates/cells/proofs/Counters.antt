-- Laws of the counters over the readings of their slots: worked out or asleep, a counter makes of
-- its count and its bit what specs/Counting says.
use Prim.Native.Nat.{ℕ, ◌+◌, ◌<◌, ◌≤◌}
use mathlib.Core.Path.{◌≡◌, refl, sym, ap, ◌∙◌}
use mathlib.Core.Bool.{Bool, true, false, not, ◌&&◌, ◌||◌, cond, true≢false}
use native.Mathlib.Decide.{dec_lt}
use native.Mathlib.Omega.{arith}
use lib.Dec.{eqb, ltb}
use borrow.Author.Tests.{lt-ltb, le-ltb, ne_eqb}
use Rattle.words.specs.Bits.{bit_number}
use Rattle.cells.specs.declared.table.Slots.{Slots}
use Rattle.cells.specs.declared.table.CounterKind.{CounterKind}
use Rattle.cells.specs.declared.table.CounterKind.TheVariants.{WhileBoth, WhileEither, FromStart, FromStartAtZero}
use Rattle.cells.specs.declared.cell.State.{State}
use Rattle.cells.specs.Table.{row_of}
use Rattle.cells.specs.Work.{largest_count, raised, counted_up, work_as, work_out}
use Rattle.cells.specs.Wake.{stirred_as, stirred}
use Rattle.cells.specs.Counting.{counter_type, active_in, counts_in, kept_in, grown}
use Rattle.words.proofs.Bools.{or_left, or_right}

-- ---- one tick

-- a count and a bit after readings that find the reset low
pub record Follows (k : CounterKind) (s next : State) (r : Slots) : Type 0 where
  pub count : next.count.0 ≡ cond (counts_in k s.bit (eqb s.count.0 0) r) (raised s.count.0) s.count.0
  pub bit : next.bit ≡ kept_in k s.bit (eqb s.count.0 0) r

and-true : (b : Bool) → (b && true) ≡ b
and-true true = refl
and-true false = refl

and-false : (b : Bool) → (b && false) ≡ false
and-false true = refl
and-false false = refl

-- stop over start over what was kept
started : (z f b : Bool) → z ≡ false → cond (z || f) false b ≡ (not f && b)
started true f b e = absurd (true≢false e)
started false true b e = refl
started false false b e = refl

-- with the reset low
low-reset : (z active y : Bool) (v : ℕ) → z ≡ false → counted_up z active y v ≡ cond (active && y) (raised v) v
low-reset true active y v e = absurd (true≢false e)
low-reset false active y v e = refl

-- worked out
pub counter-follows : (k : CounterKind) (config : ℕ) (s : State) (r : Slots) → r.z ≡ false → Follows k s (work_out (counter_type k) config s r).state r
unfolding work_out work_as row_of
counter-follows WhileBoth config s r z =
    let v = s.count.0 in
    record { count = low-reset r.z (active_in WhileBoth s.bit (eqb v 0) r) r.y v z; bit = refl }
counter-follows WhileEither config s r z =
    let v = s.count.0 in
    record { count = low-reset r.z (active_in WhileEither s.bit (eqb v 0) r) r.y v z; bit = refl }
counter-follows FromStart config s r z =
    let v = s.count.0 in
    let active = started r.z r.f ((r.x && true) || s.bit) z ∙ ap (λ (b : Bool). not r.f && (b || s.bit)) (and-true r.x) in
    let low = low-reset r.z (active_in FromStart s.bit (eqb v 0) r) r.y v z in
    record { count = ap (λ (a : Bool). counted_up r.z a r.y v) active ∙ low; bit = active }
counter-follows FromStartAtZero config s r z =
    let v = s.count.0 in
    let active = started r.z r.f ((r.x && eqb s.count.0 0) || s.bit) z in
    let low = low-reset r.z (active_in FromStartAtZero s.bit (eqb v 0) r) r.y v z in
    record { count = ap (λ (a : Bool). counted_up r.z a r.y v) active ∙ low; bit = active }

and-off : (a y : Bool) → (y && a) ≡ false → (a && y) ≡ false
and-off true true h = h
and-off true false h = refl
and-off false y h = refl

-- with no start, no stop and no clock while active nothing is counted, and what was kept stays
rests : (x f y kept obeyed : Bool) → (x || f) ≡ false → (y && kept) ≡ false
    → (((not f && ((x && obeyed) || kept)) && y) ≡ false) × ((not f && ((x && obeyed) || kept)) ≡ kept)
rests true f y kept obeyed h g = absurd (true≢false h)
rests false true y kept obeyed h g = absurd (true≢false h)
rests false false y kept obeyed h g = (and-off kept y g, refl)

unraised : (one : Bool) (v : ℕ) → one ≡ false → v ≡ cond one (raised v) v
unraised true v h = absurd (true≢false h)
unraised false v h = refl

-- asleep
stirless-rests : (k : CounterKind) (s : State) (now : Slots) → stirred (counter_type k) s now ≡ false → Follows k s s now
unfolding stirred stirred_as row_of
stirless-rests WhileBoth s now h =
    let v = s.count.0 in
    record { count = unraised (counts_in WhileBoth s.bit (eqb v 0) now) v (and-off (now.x && now.f) now.y h); bit = refl }
stirless-rests WhileEither s now h =
    let v = s.count.0 in
    record { count = unraised (counts_in WhileEither s.bit (eqb v 0) now) v (and-off (now.x || now.f) now.y h); bit = refl }
stirless-rests FromStart s now h =
    let still = rests now.x now.f now.y s.bit true (or_left (now.x || now.f) _ h) (or_right (now.x || now.f) _ h) in
    let alone = ap (λ (b : Bool). not now.f && (b || s.bit)) (sym (and-true now.x)) in
    let counts = ap (λ (a : Bool). a && now.y) alone ∙ still.0 in
    record { count = unraised (counts_in FromStart s.bit (eqb s.count.0 0) now) s.count.0 counts; bit = sym (alone ∙ still.1) }
stirless-rests FromStartAtZero s now h =
    let start = or_left (now.x || now.f) _ h in
    let clock = or_right (now.x || now.f) _ h in
    let still = rests now.x now.f now.y s.bit (eqb s.count.0 0) start clock in
    record { count = unraised (counts_in FromStartAtZero s.bit (eqb s.count.0 0) now) s.count.0 still.0; bit = sym still.1 }

pub counter-rests : (k : CounterKind) (kind : ℕ) (s : State) (now : Slots) → kind ≡ counter_type k → stirred kind s now ≡ false → Follows k s s now
counter-rests k kind s now e h = stirless-rests k s now (rw e at h)

-- ---- counts that grow up to the limit

-- nothing more, and one more than the rest
pub grown-none : (v : ℕ) → v ≡ grown v 0
grown-none v = go (dec_lt v largest_count)
  where
    go : Dec (v < largest_count) → v ≡ grown v 0
    go (yes l) =
        let h : v + 0 < largest_count = omega arith in
        rw (lt-ltb v largest_count l, lt-ltb (v + 0) largest_count h) (omega arith)
    go (no l) =
        let g : largest_count ≤ v = omega arith in
        rw (le-ltb v largest_count g)

grown-next : (v m : ℕ) → v < largest_count → grown (v + 1) m ≡ grown v (1 + m)
grown-next v m l = rw (lt-ltb v largest_count l) (go (dec_lt (v + 1) largest_count))
  where
    go : Dec (v + 1 < largest_count) → grown (v + 1) m ≡ cond (ltb (v + (1 + m)) largest_count) (v + (1 + m)) largest_count
    go (yes h) =
        let e : v + 1 + m ≡ v + (1 + m) = omega arith in
        rw (lt-ltb (v + 1) largest_count h) (ap (λ (x : ℕ). cond (ltb x largest_count) x largest_count) e)
    go (no h) =
        let g : largest_count ≤ v + 1 = omega arith in
        let far : largest_count ≤ v + (1 + m) = omega arith in
        rw (le-ltb (v + 1) largest_count g, le-ltb (v + (1 + m)) largest_count far) (omega arith)

grown-full : (v m : ℕ) → largest_count ≤ v → grown v m ≡ v
grown-full v m h = rw (le-ltb v largest_count h)

pub grown-more : (one : Bool) (v m : ℕ) → grown (cond one (raised v) v) m ≡ grown v (bit_number one + m)
unfolding raised
grown-more false v m =
    let e : m ≡ 0 + m = omega arith in
    ap (grown v) e
grown-more true v m = go (dec_lt v largest_count)
  where
    go : Dec (v < largest_count) → grown (cond (ltb v largest_count) (v + 1) v) m ≡ grown v (1 + m)
    go (yes l) = ap (λ (b : Bool). grown (cond b (v + 1) v) m) (lt-ltb v largest_count l) ∙ grown-next v m l
    go (no l) =
        let g : largest_count ≤ v = omega arith in
        ap (λ (b : Bool). grown (cond b (v + 1) v) m) (le-ltb v largest_count g) ∙ grown-full v m g ∙ sym (grown-full v (1 + m) g)

-- a count that was raised is not 0
raised-some : (v : ℕ) → eqb (raised v) 0 ≡ false
unfolding raised
raised-some v = go (dec_lt v largest_count)
  where
    go : Dec (v < largest_count) → eqb (cond (ltb v largest_count) (v + 1) v) 0 ≡ false
    go (yes l) = rw (lt-ltb v largest_count l) (ne_eqb (v + 1) 0 (λ e. omega (arith, e)))
    go (no l) =
        let g : largest_count ≤ v = omega arith in
        rw (le-ltb v largest_count g) (ne_eqb v 0 (λ e. omega (arith, e, g)))

pub still-zero : (one : Bool) (v : ℕ) → eqb (cond one (raised v) v) 0 ≡ (eqb v 0 && not one)
still-zero true v = raised-some v ∙ sym (and-false (eqb v 0))
still-zero false v = sym (and-true (eqb v 0))
