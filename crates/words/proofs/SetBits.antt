-- The lowest bit that is set: the kit's count of trailing zeros gives its place.
use mathlib.Core.Path.{◌≡◌, refl, sym, ap, subst, ◌∙◌}
use mathlib.Core.Bool.{false, false≢true}
use Prim.Native.Nat.{ℕ, zero, suc, ◌/◌, ◌%◌, ◌^◌, ◌<◌}
use native.Mathlib.Nat.{div-one, le_of_suc-le-suc, not-suc-le-zero, mod-lt, zero-lt-suc, div-add-mod', lt_of_not-le}
use native.Mathlib.Numerals.{add-one, one-add}
use native.Mathlib.Omega.{arith}
use lib.Count.{under, count_trailing_zeros}
use lib.Dec.{eqb}
use lib.Pow.{shr_lt}
use Rattle.words.specs.Bits.{bit_at, IsLowest}
use Rattle.words.proofs.Laws.{bit-above, bit-shr}

-- the lowest bit, and the others as those of the half
low_bit : (w : ℕ) → bit_at w 0 ≡ eqb (w % 2) 1
unfolding bit_at
low_bit w = ap (λ (x : ℕ). eqb (x % 2) 1) (div-one w)

next_bit : (w i : ℕ) → bit_at w (suc i) ≡ bit_at (w / 2) i
next_bit w i = ap (bit_at w) (sym (one-add i)) ∙ sym (bit-shr w 1 i)

-- by the lowest digit d
lowest_by : (w d t : ℕ) → w % 2 ≡ d → d < 2 → (d ≡ 0 → IsLowest (w / 2) t) → IsLowest w (under d t)
lowest_by w zero t e h ih =
    let rest = ih refl in
    (next_bit w t ∙ rest.0, below)
  where
    below : (i : ℕ) → i < suc t → bit_at w i ≡ false
    below zero k = low_bit w ∙ ap (λ (x : ℕ). eqb x 1) e
    below (suc i) k = next_bit w i ∙ (ih refl).1 i (le_of_suc-le-suc k)
lowest_by w (suc zero) t e h ih = (low_bit w ∙ ap (λ (x : ℕ). eqb x 1) e, λ i k. absurd (not-suc-le-zero k))
lowest_by w (suc (suc d)) t e h ih = absurd (omega arith)

half-left : (w : ℕ) → 0 < w → w % 2 ≡ 0 → 0 < w / 2
half-left w p e = let parts = div-add-mod' w 2 in omega (arith, parts)

pub trailing-lowest : (m w : ℕ) → 0 < w → w < 2 ^ m → IsLowest w (count_trailing_zeros m w)
unfolding count_trailing_zeros
trailing-lowest zero w p h = absurd (omega arith)
trailing-lowest (suc m) w p h =
    lowest_by w (w % 2) (count_trailing_zeros m (w / 2)) refl (mod-lt w (zero-lt-suc 1))
    (λ e. trailing-lowest m (w / 2) (half-left w p e) (shr_lt m 1 (subst (λ (k : ℕ). w < 2 ^ k) (sym (add-one m)) h)))

-- it lies within the width
pub lowest-lt : (m w k : ℕ) → w < 2 ^ m → IsLowest w k → k < m
lowest-lt m w k h low = lt_of_not-le (λ l. false≢true (sym (bit-above w m k h l) ∙ low.0))
