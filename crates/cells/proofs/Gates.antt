-- The gates of four slots: looked at one by one from the last, they answer the AND and the OR of
-- the four, as before. A lookup's answers make its code.
use Prim.Native.Nat.{ℕ, ◌^◌, ◌<◌}
use mathlib.Core.Path.{◌≡◌, refl, ap, ◌∙◌}
use mathlib.Core.Bool.{Bool, true, false, not, ◌&&◌, ◌||◌, beq, cond}
use Rattle.words.specs.Bits.{bit_at, word_of}
use Rattle.words.proofs.Laws.{built-same, built-of-bits}
use Rattle.cells.specs.declared.table.Slots.{Slots}
use Rattle.cells.specs.declared.cell.State.{State}
use Rattle.cells.specs.declared.work.Looked.{Looked}
use Rattle.cells.specs.declared.table.GateKind.TheVariants.{And4, Or4}
use Rattle.cells.specs.Table.{slots, row_of}
use Rattle.cells.specs.Work.{slots_of, gate_out, decides_and, decides_or, looked, work_as, work_out}
use Rattle.cells.proofs.Packed.{place-back}

abbrev pub seen : Bool → ℕ → Looked
seen out slots = record { out = out; slots = slots }

-- where the look stops: at the first slot that decides, or at the last
module _ (v : Bool) (r : Slots) where
  pub stops-at-f : beq r.f v ≡ true → seen v 1 ≡ looked v r
  unfolding looked
  stops-at-f f = rw f

  pub stops-at-z : beq r.f v ≡ false → beq r.z v ≡ true → seen v 2 ≡ looked v r
  unfolding looked
  stops-at-z f z = rw (f, z)

  pub stops-at-y : beq r.f v ≡ false → beq r.z v ≡ false → beq r.y v ≡ true → seen v 3 ≡ looked v r
  unfolding looked
  stops-at-y f z y = rw (f, z, y)

  pub goes-to-x : beq r.f v ≡ false → beq r.z v ≡ false → beq r.y v ≡ false → seen r.x 4 ≡ looked v r
  unfolding looked
  goes-to-x f z y = rw (f, z, y) (last r.x v)
    where
      last : (x v : Bool) → seen x 4 ≡ cond (beq x v) (seen v 4) (seen (not v) 4)
      last true true = refl
      last true false = refl
      last false true = refl
      last false false = refl

and-four : (x y z f : Bool) → (looked decides_and (slots x y z f)).out ≡ ((x && y) && (z && f))
unfolding looked
and-four x y z false = go x y z
  where
    go : (x y z : Bool) → false ≡ ((x && y) && (z && false))
    go true true true = refl
    go true true false = refl
    go true false z = refl
    go false y z = refl
and-four x y false true = go x y
  where
    go : (x y : Bool) → false ≡ ((x && y) && false)
    go true true = refl
    go true false = refl
    go false y = refl
and-four true false true true = refl
and-four false false true true = refl
and-four true true true true = refl
and-four false true true true = refl

or-four : (x y z f : Bool) → (looked decides_or (slots x y z f)).out ≡ ((x || y) || (z || f))
unfolding looked
or-four x y z true = go x y z
  where
    go : (x y z : Bool) → true ≡ ((x || y) || (z || true))
    go true y z = refl
    go false true z = refl
    go false false true = refl
    go false false false = refl
or-four x y true false = go x y
  where
    go : (x y : Bool) → true ≡ ((x || y) || true)
    go true y = refl
    go false true = refl
    go false false = refl
or-four true true false false = refl
or-four false true false false = refl
or-four true false false false = refl
or-four false false false false = refl

pub looked-and : (code : ℕ) (r : Slots) → (looked decides_and r).out ≡ gate_out And4 code r
looked-and code r = and-four r.x r.y r.z r.f

pub looked-or : (code : ℕ) (r : Slots) → (looked decides_or r).out ≡ gate_out Or4 code r
looked-or code r = or-four r.x r.y r.z r.f

-- a lookup of four slots: its sixteen answers, place by place, are the bits of its code
pub lookup-code : (code : ℕ) (s : State) → code < 2 ^ 16 → word_of (λ p. (work_out 4 code s (slots_of p)).out) 16 ≡ code
unfolding work_out work_as row_of
lookup-code code s h =
    built-same (λ p. (work_out 4 code s (slots_of p)).out) (bit_at code) 16 (λ p k. ap (bit_at code) (place-back p k)) ∙ built-of-bits code 16 h
