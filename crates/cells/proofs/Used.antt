-- Working out and waking go by the used slots alone: readings that agree on them give the same,
-- whatever the other slots read.
use Prim.Native.Nat.{ℕ}
use mathlib.Core.Path.{◌≡◌, refl, ap, ap₂}
use mathlib.Core.Bool.{Bool, true, false, not, ◌&&◌, ◌||◌}
use Rattle.cells.specs.declared.table.Slots.{Slots}
use Rattle.cells.specs.declared.cell.State.{State}
use Rattle.cells.specs.Table.{slots, row_of, masked, any_slot}
use Rattle.cells.specs.Work.{work_as, work_out}
use Rattle.cells.specs.Wake.{stirred_as, stirred, differ, disagree, wakes}

-- two readings agree on the used slots of a type
abbrev pub SameUsed : ℕ → Slots → Slots → Type 0
SameUsed kind a b = masked (row_of kind).used a ≡ masked (row_of kind).used b

pub work-used : (kind config : ℕ) (s : State) (a b : Slots) → SameUsed kind a b → work_out kind config s a ≡ work_out kind config s b
unfolding work_out
work-used kind config s a b same = ap (work_as (row_of kind).class config s) same

-- one slot: u whether it is used, e whether it is an edge slot; now and last of the one pair of
-- readings, and of the other
differ-used : (u e now last now' last' : Bool) → (u && now) ≡ (u && now') → (u && last) ≡ (u && last')
    → differ (u && not e) now last ≡ differ (u && not e) now' last'
differ-used false e now last now' last' p q = refl
differ-used true e now last now' last' p q = rw (p, q)

module _ (kind : ℕ) (now last now' last' : Slots) (same : SameUsed kind now now') (was : SameUsed kind last last') where
  disagree-used : disagree kind now last ≡ disagree kind now' last'
  unfolding disagree
  disagree-used =
      let u = (row_of kind).used in
      let e = (row_of kind).edge in
      let x = differ-used u.x e.x _ _ _ _ (ap (λ (r : Slots). r.x) same) (ap (λ (r : Slots). r.x) was) in
      let y = differ-used u.y e.y _ _ _ _ (ap (λ (r : Slots). r.y) same) (ap (λ (r : Slots). r.y) was) in
      let z = differ-used u.z e.z _ _ _ _ (ap (λ (r : Slots). r.z) same) (ap (λ (r : Slots). r.z) was) in
      let f = differ-used u.f e.f _ _ _ _ (ap (λ (r : Slots). r.f) same) (ap (λ (r : Slots). r.f) was) in
      λ k. any_slot (slots (x k) (y k) (z k) (f k))

  pub wakes-used : (s : State) (edited : Bool) → wakes kind s edited now last ≡ wakes kind s edited now' last'
  unfolding wakes stirred
  wakes-used s edited = ap₂ (λ (a b : Bool). edited || (a || b)) (ap (stirred_as (row_of kind).class s) same) disagree-used
