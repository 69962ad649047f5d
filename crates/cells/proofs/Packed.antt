-- Laws of packed slots: a set of slots and the readings of the four are held as four bits.
use Prim.Native.Nat.{ℕ, ◌≤◌, ◌<◌}
use mathlib.Core.Path.{◌≡◌, refl, ap, ◌∙◌}
use mathlib.Core.Bool.{Bool, true, false}
use native.Mathlib.Omega.{arith}
use Rattle.words.specs.Bits.{bit_at, bit_number, word_of}
use Rattle.words.proofs.Laws.{built-of-bits}
use Rattle.cells.specs.declared.table.Slots.{Slots}
use Rattle.cells.specs.Table.{slots}
use Rattle.cells.specs.Work.{place_of, slots_of}

-- four slots packed: unpacked they are what they were
four : (x y z f : Bool) → slots_of (place_of (slots x y z f)) ≡ slots x y z f
unfolding slots_of bit_at
four true true true true = refl
four true true true false = refl
four true true false true = refl
four true true false false = refl
four true false true true = refl
four true false true false = refl
four true false false true = refl
four true false false false = refl
four false true true true = refl
four false true true false = refl
four false true false true = refl
four false true false false = refl
four false false true true = refl
four false false true false = refl
four false false false true = refl
four false false false false = refl

-- what was packed is what is unpacked
pub slots-place : (r : Slots) → slots_of (place_of r) ≡ r
slots-place r = four r.x r.y r.z r.f

one_bit : (b : Bool) → bit_number b ≤ 1
one_bit true = omega arith
one_bit false = omega arith

place-lt : (r : Slots) → place_of r < 16
place-lt r =
    let x = one_bit r.x in
    let y = one_bit r.y in
    let z = one_bit r.z in
    let f = one_bit r.f in
    omega (arith, x, y, z, f)

-- a set that the table's column holds packed
pub column : (s : Slots) (p : ℕ) → p ≡ place_of s → (p ≡ place_of s) × (p < 16)
column s p e = (e, rw e (place-lt s))

pub set-of : (s : Slots) (p : ℕ) → p ≡ place_of s → slots_of p ≡ s
set-of s p e = ap slots_of e ∙ slots-place s

-- a number below 16 is the place of the slots that it packs
pub place-back : (p : ℕ) → p < 16 → place_of (slots_of p) ≡ p
unfolding slots_of word_of
place-back p h = omega (arith, built-of-bits p 4 h)
