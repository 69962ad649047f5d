-- Laws of a cell that the card uses: a cell that is not stirred and whose level slots agree may
-- sleep; only edges stir it; when a cell wakes.
use Prim.Native.Nat.{ℕ, ◌≤◌}
use Rattle.std.specs.Prelude.{Some}
use mathlib.Core.Path.{◌≡◌, refl, sym, ap, ◌∙◌}
use mathlib.Core.Bool.{Bool, true, false, not, ◌&&◌, ◌||◌, beq, cond, true≢false}
use native.Mathlib.Omega.{arith}
use lib.Dec.{eqb, ltb}
use borrow.Author.Tests.{not-true, ltb-false}
use Rattle.words.proofs.Bools.{or_left, or_right}
use Rattle.cells.specs.declared.table.Slots.{Slots}
use Rattle.cells.specs.declared.table.Row.{Row}
use Rattle.cells.specs.declared.table.Class.{Class}
use Rattle.cells.specs.declared.table.Class.TheVariants.{Nothing, Constant, Gate, Flop, OneShot, Delay, Counter}
use Rattle.cells.specs.declared.table.FlopKind.{FlopKind}
use Rattle.cells.specs.declared.table.FlopKind.TheVariants.{DFlop, SyncDFlop, ClearDFlop, Jk}
use Rattle.cells.specs.declared.table.CounterKind.{CounterKind}
use Rattle.cells.specs.declared.table.CounterKind.TheVariants.{WhileBoth, WhileEither, FromStart, FromStartAtZero}
use Rattle.cells.specs.declared.cell.State.{State}
use Rattle.cells.specs.Table.{row_of, masked, level_slots, any_slot, slots, constant_type, largest_constant}
use Rattle.cells.specs.Work.{constant_out, gate_out, flop_next, trigger, taken, shot_busy, delay_busy, next_count, next_pulse, count_after, pulse_after}
use Rattle.cells.specs.Work.{keeping, holding, counting, active_after, started_by, kept_active, raised, counted_up, counted_as, counter}
use Rattle.cells.specs.Work.{work_as, work_out}
use Rattle.cells.specs.Wake.{timer_stirred, flop_clock, counter_stirred, stirred_as, stirred, has_edges, NeverStirred, differ, differing, disagree_on}
use Rattle.cells.specs.Wake.{disagree, moved, wakes}
use Rattle.cells.proofs.Rows.{every-row}

-- no slot is in the set
record Empty (s : Slots) : Type 0 where
  x : s.x ≡ false
  y : s.y ≡ false
  z : s.z ≡ false
  f : s.f ≡ false

empty : (s : Slots) → any_slot s ≡ false → Empty s
empty s h =
    let xy = or_left (s.x || s.y) (s.z || s.f) h in
    let zf = or_right (s.x || s.y) (s.z || s.f) h in
    record {
      x = or_left s.x s.y xy;
      y = or_right s.x s.y xy;
      z = or_left s.z s.f zf;
      f = or_right s.z s.f zf;
    }

none_in : (s : Slots) → Empty s → any_slot s ≡ false
none_in s e = rw (e.x, e.y, e.z, e.f)

-- ---- why a cell may sleep

-- the slots that a class reads whether or not it is stirred: no edge slot of a type may be among
-- them. The sets are written out, and not by the table's names for them, so that they bind the
-- table
flop_always : FlopKind → Slots
flop_always DFlop = slots false false true true
flop_always SyncDFlop = slots false false false false
flop_always ClearDFlop = slots false false true false
flop_always Jk = slots false false false false

counter_always : CounterKind → Slots
counter_always WhileBoth = slots true false true true
counter_always WhileEither = slots true false true true
counter_always FromStart = slots false false true false
counter_always FromStartAtZero = slots false false true false

always : Class → Slots
always Nothing = slots false false false false
always Constant = slots false false false false
always (Gate g) = slots true true true true
always (Flop f) = flop_always f
always (OneShot t) = slots false false true false
always (Delay t) = slots false false true false
always (Counter k) = counter_always k

row_fits : Row → Bool
row_fits w = not (any_slot (masked (always w.class) w.edge))

rows_fit : (kind : ℕ) → row_fits (row_of kind) ≡ true
unfolding row_fits always flop_always counter_always
rows_fit kind = every-row row_fits refl kind

-- two readings agree in every slot that is no edge slot
record Same (edge m n : Slots) : Type 0 where
  x : edge.x ≡ false → n.x ≡ m.x
  y : edge.y ≡ false → n.y ≡ m.y
  z : edge.z ≡ false → n.z ≡ m.z
  f : edge.f ≡ false → n.f ≡ m.f

slot_same : (u e a b : Bool) → differ (u && not e) a b ≡ false → e ≡ false → (u && b) ≡ (u && a)
slot_same false e a b d h = refl
slot_same true true a b d h = absurd (true≢false h)
slot_same true false true true d h = refl
slot_same true false true false d h = absurd (true≢false d)
slot_same true false false true d h = absurd (true≢false d)
slot_same true false false false d h = refl

agree : (s a b : Slots) → disagree_on s a b ≡ false → Empty (differing s a b)
agree s a b d = empty (differing s a b) d

same : (w : Row) (a b : Slots) → disagree_on (level_slots w) a b ≡ false → Same w.edge (masked w.used a) (masked w.used b)
same w a b d =
    let e = agree (level_slots w) a b d in
    record {
      x = slot_same w.used.x w.edge.x a.x b.x e.x;
      y = slot_same w.used.y w.edge.y a.y b.y e.y;
      z = slot_same w.used.z w.edge.z a.z b.z e.z;
      f = slot_same w.used.f w.edge.f a.f b.f e.f;
    }

all_same : (e m n : Slots) → Empty e → Same e m n → n ≡ m
all_same e m n none s = λ i. slots (s.x none.x i) (s.y none.y i) (s.z none.z i) (s.f none.f i)

d-again : (z f b : Bool) → cond z false (cond f true (cond z false (cond f true b))) ≡ cond z false (cond f true b)
d-again true f b = refl
d-again false true b = refl
d-again false false b = refl

clear-again : (z b : Bool) → cond z false (cond z false b) ≡ cond z false b
clear-again true b = refl
clear-again false b = refl

flop-again : (f : FlopKind) (e m n : Slots) (bit : Bool) → Empty (masked (flop_always f) e) → Same e m n
    → flop_clock f n ≡ false → flop_next f n (flop_next f m bit) ≡ flop_next f m bit
unfolding flop_always
flop-again DFlop e m n bit fit same h = rw (same.z fit.z, same.f fit.f, h) (d-again m.z m.f _)
flop-again SyncDFlop e m n bit fit same h = rw h
flop-again ClearDFlop e m n bit fit same h = rw (same.z fit.z, h) (clear-again m.z _)
flop-again Jk e m n bit fit same h = rw h

-- with no trigger, a count that is 0 under reset stays, and so does one that no clock lowers
count-again : (z y : Bool) (n v : ℕ) → n ≡ cond z 0 v → (y && ltb 0 n) ≡ false → next_count z false y 0 n ≡ n
count-again true y n v e h = sym e
count-again false false n v e h = refl
count-again false true n v e h =
    let z : n ≤ 0 = ltb-false 0 n h in
    omega arith

pulse-again : (z y : Bool) (n : ℕ) (p v : Bool) → p ≡ cond z false v → (y && p) ≡ false → (y && ltb 0 n) ≡ false → next_pulse z false y 0 n p ≡ p
pulse-again true y n p v e h k = sym e
pulse-again false false n p v e h k = refl
pulse-again false true n p v e h k = rw k (sym h)

-- what follows where a timer is not stirred: no trigger, no clock while there is something to count or
-- to end
quiet-trigger : (count : ℕ) (pulse : Bool) (r : Slots) → timer_stirred count pulse r ≡ false → trigger r ≡ false
quiet-trigger count pulse r h = or_left (trigger r) _ h

and_or_left : (y a b : Bool) → (y && (a || b)) ≡ false → (y && a) ≡ false
and_or_left true a b h = or_left a b h
and_or_left false a b h = refl

and_or_right : (y a b : Bool) → (y && (a || b)) ≡ false → (y && b) ≡ false
and_or_right true a b h = or_right a b h
and_or_right false a b h = refl

quiet-clock : (count : ℕ) (pulse : Bool) (r : Slots) → timer_stirred count pulse r ≡ false → (r.y && ltb 0 count) ≡ false
quiet-clock count pulse r h = and_or_left r.y (ltb 0 count) _ (or_right (trigger r) _ h)

quiet-pulse : (count : ℕ) (pulse : Bool) (r : Slots) → timer_stirred count pulse r ≡ false → (r.y && pulse) ≡ false
quiet-pulse count pulse r h = and_or_right r.y (ltb 0 count) _ (or_right (trigger r) _ h)

not_taken : (t : Bool) (r : Slots) (busy : Bool) → trigger r ≡ false → taken t r busy ≡ false
unfolding taken
not_taken t r busy h = rw h

-- a taken trigger aside, neither the duration nor when a timer is busy matters
module _ (t : Bool) (d : ℕ) (s : State) (m n : Slots) (took busy : Bool) (z : n.z ≡ m.z) (c : ℕ) (p : Bool) (h : timer_stirred c p n ≡ false) where
  count-quiet : c ≡ count_after took d s.count.0 m → count_after (taken t n busy) d c n ≡ count_after took d s.count.0 m
  count-quiet e =
      rw (not_taken t n busy (quiet-trigger c p n h), z) (count-again m.z n.y c _ e (quiet-clock c p n h) ∙ e)

  pulse-quiet : p ≡ pulse_after took d s.count.0 s.pulse m → pulse_after (taken t n busy) d c p n ≡ pulse_after took d s.count.0 s.pulse m
  pulse-quiet e =
      rw (not_taken t n busy (quiet-trigger c p n h), z)
      (pulse-again m.z n.y c p _ e (quiet-pulse c p n h) (quiet-clock c p n h) ∙ e)

stop-again : (z f b : Bool) → cond (z || false) false (cond (z || f) false b) ≡ cond (z || f) false b
stop-again true f b = refl
stop-again false f b = refl

-- with neither start nor stop it stays as it was left, whether a start would be obeyed or not
started-again : (m n : Slots) (obeyed now active : Bool) → (n.x || n.f) ≡ false → n.z ≡ m.z
    → started_by now n (started_by obeyed m active) ≡ started_by obeyed m active
started-again m n obeyed now active edges z =
    let start = or_left n.x n.f edges in
    let stop = or_right n.x n.f edges in
    rw (start, stop, z) (stop-again m.z m.f _)

-- a counter that is not stirred: the same slots, or neither start nor stop, say whether it is
-- active
module _ (s : State) (e m n : Slots) (same : Same e m n) where
  active-again : (k : CounterKind) → Empty (masked (counter_always k) e) → counter_stirred k (counter k s m).state.bit n ≡ false
      → active_after k n (counter k s m).state.count.0 (counter k s m).state.bit ≡ active_after k m s.count.0 s.bit
  unfolding counter_always
  active-again WhileBoth fit h = rw (same.x fit.x, same.f fit.f)
  active-again WhileEither fit h = rw (same.x fit.x, same.f fit.f)
  active-again FromStart fit h = started-again m n true true s.bit (or_left (n.x || n.f) _ h) (same.z fit.z)
  active-again FromStartAtZero fit h =
      let u = (counter FromStartAtZero s m).state in
      started-again m n (eqb s.count.0 0) (eqb u.count.0 0) s.bit (or_left (n.x || n.f) _ h) (same.z fit.z)

  -- and its clock finds it inactive
  clock-idle : (k : CounterKind) → Empty (masked (counter_always k) e) → counter_stirred k (counter k s m).state.bit n ≡ false
      → (n.y && active_after k m s.count.0 s.bit) ≡ false
  unfolding counter_always
  clock-idle WhileBoth fit h = rw (← same.x fit.x, ← same.f fit.f) h
  clock-idle WhileEither fit h = rw (← same.x fit.x, ← same.f fit.f) h
  clock-idle FromStart fit h = or_right (n.x || n.f) _ h
  clock-idle FromStartAtZero fit h = or_right (n.x || n.f) _ h

  reset-same : (k : CounterKind) → Empty (masked (counter_always k) e) → n.z ≡ m.z
  unfolding counter_always
  reset-same WhileBoth fit = same.z fit.z
  reset-same WhileEither fit = same.z fit.z
  reset-same FromStart fit = same.z fit.z
  reset-same FromStartAtZero fit = same.z fit.z

kept_again : (k : CounterKind) (old new : Bool) → kept_active k (kept_active k old new) new ≡ kept_active k old new
kept_again WhileBoth old new = refl
kept_again WhileEither old new = refl
kept_again FromStart old new = refl
kept_again FromStartAtZero old new = refl

-- a count that is 0 under reset stays, and so does one that no clock raises
counted-again : (z a y : Bool) (c v : ℕ) → c ≡ cond z 0 v → (y && a) ≡ false → counted_up z a y c ≡ c
counted-again true a y c v e h = sym e
counted-again false false y c v e h = refl
counted-again false true false c v e h = refl
counted-again false true true c v e h = absurd (true≢false h)

counter-again : (k : CounterKind) (s : State) (e m n : Slots) → Empty (masked (counter_always k) e) → Same e m n
    → counter_stirred k (counter k s m).state.bit n ≡ false → counter k (counter k s m).state n ≡ counter k s m
counter-again k s e m n fit same h =
    let a = active_after k m s.count.0 s.bit in
    let b = kept_active k s.bit a in
    let c = counted_up m.z a m.y s.count.0 in
    let reset = reset-same s e m n same k fit in
    let stays = counted-again n.z a n.y c (cond (a && m.y) (raised s.count.0) s.count.0) (rw reset) (clock-idle s e m n same k fit h) in
    ap (λ (x : Bool). counted_as s (kept_active k b x) (counted_up n.z x n.y c) x) (active-again s e m n same k fit h)
    ∙ (λ i. counted_as s (kept_again k s.bit a i) (stays i) a)

again-as : (k : Class) (config : ℕ) (s : State) (e m n : Slots) → Empty (masked (always k) e) → Same e m n
    → stirred_as k (work_as k config s m).state n ≡ false → work_as k config (work_as k config s m).state n ≡ work_as k config s m
unfolding work_as stirred_as always
again-as Nothing config s e m n fit same h = refl
again-as Constant config s e m n fit same h = refl
again-as (Gate g) config s e m n fit same h =
    let none : Empty e = record { x = fit.x; y = fit.y; z = fit.z; f = fit.f } in
    ap (λ (r : Slots). keeping s (gate_out g config r)) (all_same e m n none same)
again-as (Flop f) config s e m n fit same h = ap (holding s) (flop-again f e m n s.bit fit same h)
again-as (OneShot t) config s e m n fit same h =
    let u = (work_as (OneShot t) config s m).state in
    ap (λ (c : ℕ). counting s c s.pulse (ltb 0 c))
    (count-quiet t config s m n (taken t m (shot_busy s.count.0)) (shot_busy u.count.0) (same.z fit.z) u.count.0 u.pulse h refl)
again-as (Delay t) config s e m n fit same h =
    let u = (work_as (Delay t) config s m).state in
    let took = taken t m (delay_busy s.count.0 s.pulse) in
    let busy = delay_busy u.count.0 u.pulse in
    let c = count-quiet t config s m n took busy (same.z fit.z) u.count.0 u.pulse h refl in
    let p = pulse-quiet t config s m n took busy (same.z fit.z) u.count.0 u.pulse h refl in
    λ i. counting s (c i) (p i) (p i)
again-as (Counter k) config s e m n fit same h = counter-again k s e m n fit same h

-- after a cell has been worked out, working it out again with readings that agree on the level
-- slots and stir nothing changes nothing
pub again : (kind config : ℕ) (s : State) (last now : Slots) → disagree kind last now ≡ false
    → stirred kind (work_out kind config s last).state now ≡ false
    → work_out kind config (work_out kind config s last).state now ≡ work_out kind config s last
unfolding work_out stirred disagree row_fits
again kind config s last now d h =
    let w = row_of kind in
    let fit = empty (masked (always w.class) w.edge) (not-true _ (rows_fit kind)) in
    again-as w.class config s w.edge (masked w.used last) (masked w.used now) fit (same w last now d) h

-- ---- only edges stir

-- the slots by which a class is stirred: no level slot of a type may be among them
flop_stirs : FlopKind → Slots
flop_stirs DFlop = slots false true false false
flop_stirs SyncDFlop = slots false true false false
flop_stirs ClearDFlop = slots false true false false
flop_stirs Jk = slots false false true false

counter_stirs : CounterKind → Slots
counter_stirs WhileBoth = slots false true false false
counter_stirs WhileEither = slots false true false false
counter_stirs FromStart = slots true true false true
counter_stirs FromStartAtZero = slots true true false true

stirs : Class → Slots
stirs Nothing = slots false false false false
stirs Constant = slots false false false false
stirs (Gate g) = slots false false false false
stirs (Flop f) = flop_stirs f
stirs (OneShot t) = slots true true false true
stirs (Delay t) = slots true true false true
stirs (Counter k) = counter_stirs k

row_stirs : Row → Bool
row_stirs w = not (any_slot (masked (stirs w.class) (level_slots w)))

rows-stir : (kind : ℕ) → row_stirs (row_of kind) ≡ true
unfolding row_stirs stirs flop_stirs counter_stirs
rows-stir kind = every-row row_stirs refl kind

flop-still : (f : FlopKind) (r : Slots) → Empty (masked (flop_stirs f) r) → flop_clock f r ≡ false
unfolding flop_stirs
flop-still DFlop r e = e.y
flop-still SyncDFlop r e = e.y
flop-still ClearDFlop r e = e.y
flop-still Jk r e = e.z

timer-still : (count : ℕ) (pulse : Bool) (r : Slots) → Empty (masked (slots true true false true) r) → timer_stirred count pulse r ≡ false
timer-still count pulse r e = rw (e.x, e.y, e.f)

counter-still : (k : CounterKind) (active : Bool) (r : Slots) → Empty (masked (counter_stirs k) r) → counter_stirred k active r ≡ false
unfolding counter_stirs
counter-still WhileBoth active r e = rw e.y
counter-still WhileEither active r e = rw e.y
counter-still FromStart active r e = rw (e.x, e.y, e.f)
counter-still FromStartAtZero active r e = rw (e.x, e.y, e.f)

still-as : (k : Class) (s : State) (r : Slots) → Empty (masked (stirs k) r) → stirred_as k s r ≡ false
unfolding stirs stirred_as
still-as Nothing s r e = refl
still-as Constant s r e = refl
still-as (Gate g) s r e = refl
still-as (Flop f) s r e = flop-still f r e
still-as (OneShot t) s r e = timer-still s.count.0 s.pulse r e
still-as (Delay t) s r e = timer-still s.count.0 s.pulse r e
still-as (Counter k) s r e = counter-still k s.bit r e

slot-still : (s u e a : Bool) → (s && (u && not e)) ≡ false → (e && a) ≡ false → (s && (u && a)) ≡ false
slot-still false u e a p q = refl
slot-still true false e a p q = refl
slot-still true true true a p q = q
slot-still true true false a p q = absurd (true≢false p)

-- a cell is stirred only by an edge: not while its edge slots read low
pub only-edges-stir : (kind : ℕ) (s : State) (r : Slots) → any_slot (masked (row_of kind).edge r) ≡ false → stirred kind s r ≡ false
unfolding stirred row_stirs
only-edges-stir kind s r h =
    let w = row_of kind in
    let k = stirs w.class in
    let level = empty (masked k (level_slots w)) (not-true _ (rows-stir kind)) in
    let edge = empty (masked w.edge r) h in
    still-as w.class s (masked w.used r) (record {
      x = slot-still k.x w.used.x w.edge.x r.x level.x edge.x;
      y = slot-still k.y w.used.y w.edge.y r.y level.y edge.y;
      z = slot-still k.z w.used.z w.edge.z r.z level.z edge.z;
      f = slot-still k.f w.used.f w.edge.f r.f level.f edge.f;
    })

-- so nothing stirs a type without edge slots
pub edgeless-still : (kind : ℕ) → has_edges kind ≡ false → NeverStirred kind
edgeless-still kind h s r =
    let e = empty (row_of kind).edge h in
    only-edges-stir kind s r (rw (e.x, e.y, e.z, e.f))

-- ---- when a cell wakes

-- a cell sleeps exactly where it is not edited, nothing stirs it and no level slot disagrees
pub sleeps : (kind : ℕ) (s : State) (edited : Bool) (now last : Slots) → wakes kind s edited now last ≡ false
    → (edited ≡ false) × (stirred kind s now ≡ false) × (disagree kind now last ≡ false)
unfolding wakes
sleeps kind s edited now last h =
    let rest = or_right edited _ h in
    (or_left edited _ h, or_left (stirred kind s now) _ rest, or_right (stirred kind s now) _ rest)

pub wakes-splits : (kind : ℕ) (s : State) (edited : Bool) (now last : Slots)
    → wakes kind s edited now last ≡ (edited || (stirred kind s now || disagree kind now last))
unfolding wakes
wakes-splits kind s edited now last = refl

-- a reading agrees with itself; agreement on the level slots goes both ways, and from one reading
-- to the next

differ_self : (s a : Bool) → differ s a a ≡ false
differ_self false a = refl
differ_self true true = refl
differ_self true false = refl

pub disagree-self : (kind : ℕ) (a : Slots) → disagree kind a a ≡ false
unfolding disagree
disagree-self kind a =
    let l = level_slots (row_of kind) in
    rw (differ_self l.x a.x, differ_self l.y a.y, differ_self l.z a.z, differ_self l.f a.f)

differ-sym : (s a b : Bool) → differ s a b ≡ differ s b a
differ-sym false a b = refl
differ-sym true true true = refl
differ-sym true true false = refl
differ-sym true false true = refl
differ-sym true false false = refl

pub disagree-sym : (kind : ℕ) (a b : Slots) → disagree kind a b ≡ disagree kind b a
unfolding disagree
disagree-sym kind a b =
    let l = level_slots (row_of kind) in
    rw (differ-sym l.x a.x b.x, differ-sym l.y a.y b.y, differ-sym l.z a.z b.z, differ-sym l.f a.f b.f)

differ-trans : (s a b c : Bool) → differ s a b ≡ false → differ s b c ≡ false → differ s a c ≡ false
differ-trans false a b c p q = refl
differ-trans true true true c p q = q
differ-trans true true false c p q = absurd (true≢false p)
differ-trans true false true c p q = absurd (true≢false p)
differ-trans true false false c p q = q

pub disagree-trans : (kind : ℕ) (a b c : Slots) → disagree kind a b ≡ false → disagree kind b c ≡ false → disagree kind a c ≡ false
unfolding disagree
disagree-trans kind a b c p q =
    let l = level_slots (row_of kind) in
    let u = agree l a b p in
    let v = agree l b c q in
    none_in (differing l a c) (record {
      x = differ-trans l.x a.x b.x c.x u.x v.x;
      y = differ-trans l.y a.y b.y c.y u.y v.y;
      z = differ-trans l.z a.z b.z c.z u.z v.z;
      f = differ-trans l.f a.f b.f c.f u.f v.f;
    })

-- ---- the constant

-- type 0 shows its configuration, and keeps its state
pub constant-works : (config : ℕ) (s : State) (r : Slots) → work_out 0 config s r ≡ keeping s (constant_out config)
unfolding work_out work_as row_of
constant-works config s r = refl

-- its largest configuration
pub constant-largest : (row_of constant_type).largest ≡ Some largest_constant
unfolding row_of
constant-largest = refl

-- ---- the slots that have changed

-- the slots in which two readings have other values
abbrev pub changes : Slots → Slots → Slots
changes a b = slots (not (beq a.x b.x)) (not (beq a.y b.y)) (not (beq a.z b.z)) (not (beq a.f b.f))

-- two readings disagree where a level slot is among them
pub moved-disagree : (kind : ℕ) (a b : Slots) → moved kind (changes a b) ≡ disagree kind a b
unfolding moved disagree
moved-disagree kind a b = refl
