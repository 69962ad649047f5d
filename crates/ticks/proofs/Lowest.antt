-- Laws of a word's lowest set bit, over any width: `trailing_zeros` gives its place, and `w & (w -
-- 1)` is the word with it cleared.
use Prim.Native.Nat.{ℕ, zero, suc, ◌+◌, ◌-◌, ◌*◌, ◌/◌, ◌%◌, ◌^◌, ◌<◌}
use mathlib.Core.Path.{◌≡◌, refl, sym, ap, ap₂, ◌∙◌}
use mathlib.Core.Bool.{true, false}
use native.Mathlib.Decide.{dec_lt}
use native.Mathlib.Nat.{two-pow-succ, lt-suc_self, mul-add, mod_self}
use native.Mathlib.Omega.{arith}
use lib.Bits.{bit_and, and_block, and_mask, and_self}
use lib.Count.{count_trailing_zeros, under}
use lib.Pow.{pow_pos}
use Rattle.words.specs.Bits.{bit_at, with_bit}
use Rattle.words.proofs.Laws.{bit-zero, bit-low, bit_high, bit-with-same, bit-with-other, with-zero}

-- the lowest set bit of w, of n bits, is at t: below it there is nothing
pub record Lowest (n w t : ℕ) : Type 0 where
  pub within : t < n
  pub above : ℕ
  pub split : w ≡ above * 2 ^ suc t + 2 ^ t

pub lowest : (n w : ℕ) → 0 < w → w < 2 ^ n → Lowest n w (count_trailing_zeros n w)
unfolding count_trailing_zeros
lowest zero w h fits = absurd (omega arith)
lowest (suc n) w h fits = go (w % 2) refl (lowest n (w / 2))
  where
    go : (r : ℕ) → w % 2 ≡ r → (0 < w / 2 → w / 2 < 2 ^ n → Lowest n (w / 2) (count_trailing_zeros n (w / 2)))
        → Lowest (suc n) w (under r (count_trailing_zeros n (w / 2)))
    go zero e half =
        let l = half (omega arith) (omega (arith, two-pow-succ n)) in
        let t = count_trailing_zeros n (w / 2) in
        let twice : l.above * 2 ^ suc (suc t) ≡ l.above * 2 ^ suc t + l.above * 2 ^ suc t =
        ap (λ (x : ℕ). l.above * x) (two-pow-succ (suc t)) ∙ mul-add l.above (2 ^ suc t) (2 ^ suc t) in
        record { within = omega (arith, l.within); above = l.above; split = omega (arith, l.split, twice, two-pow-succ t, e) }
    go (suc r) e half = record { within = omega arith; above = w / 2; split = omega arith }

-- the bit alone
alone-bit : (t j : ℕ) → (j ≡ t → ⊥) → bit_at (2 ^ t) j ≡ false
alone-bit t j ne =
    let one : 2 ^ t ≡ with_bit 0 t true = omega (arith, with-zero t true) in
    ap (λ (x : ℕ). bit_at x j) one ∙ bit-with-other 0 t j true ne ∙ bit-zero j

alone-set : (t : ℕ) → bit_at (2 ^ t) t ≡ true
alone-set t =
    let one : 2 ^ t ≡ with_bit 0 t true = omega (arith, with-zero t true) in
    ap (λ (x : ℕ). bit_at x t) one ∙ bit-with-same 0 t true

module _ (n w t : ℕ) (l : Lowest n w t) where
  under_top : 2 ^ t < 2 ^ suc t
  under_top = omega (arith, two-pow-succ t, pow_pos t)

  -- it is set
  pub lowest_set : bit_at w t ≡ true
  lowest_set = ap (λ (x : ℕ). bit_at x t) l.split ∙ bit-low l.above (suc t) (2 ^ t) t (lt-suc_self t) ∙ alone-set t

  -- `w & (w - 1)`
  cleared : bit_and w (w - 1) ≡ l.above * 2 ^ suc t + 0
  cleared =
      let less : w - 1 ≡ l.above * 2 ^ suc t + (2 ^ t - 1) = omega (arith, l.split, pow_pos t) in
      ap₂ bit_and l.split less ∙ and_block (suc t) l.above l.above (2 ^ t) (2 ^ t - 1) under_top (omega (arith, under_top))
      ∙ ap₂ (λ (x y : ℕ). x * 2 ^ suc t + y) (and_self l.above) (and_mask (2 ^ t) t ∙ mod_self (2 ^ t))

  -- there it is clear, and it has every other bit of w
  pub lowest-clear : bit_at (bit_and w (w - 1)) t ≡ false
  lowest-clear = ap (λ (x : ℕ). bit_at x t) cleared ∙ bit-low l.above (suc t) 0 t (lt-suc_self t) ∙ bit-zero t

  pub lowest-other : (j : ℕ) → (j ≡ t → ⊥) → bit_at (bit_and w (w - 1)) j ≡ bit_at w j
  lowest-other j ne = ap (λ (x : ℕ). bit_at x j) cleared ∙ go (dec_lt j (suc t)) ∙ ap (λ (x : ℕ). bit_at x j) (sym l.split)
    where
      go : Dec (j < suc t) → bit_at (l.above * 2 ^ suc t + 0) j ≡ bit_at (l.above * 2 ^ suc t + 2 ^ t) j
      go (yes h) =
          bit-low l.above (suc t) 0 j h ∙ bit-zero j ∙ sym (bit-low l.above (suc t) (2 ^ t) j h ∙ alone-bit t j ne)
      go (no h) =
          let e : j ≡ suc t + (j - suc t) = omega arith in
          rw e (bit_high l.above (suc t) 0 (j - suc t) (pow_pos (suc t)) ∙ sym (bit_high l.above (suc t) (2 ^ t) (j - suc t) under_top))
