-- Laws of a loop that takes the connectors of a word one by one: the driven word has the bits of
-- those that are taken.
use Prim.Native.Nat.{ℕ, ◌^◌, ◌<◌}
use mathlib.Core.Path.{◌≡◌, refl, sym, ap, ◌∙◌}
use mathlib.Core.Bool.{Bool, true, false, not, ◌&&◌, cond, and-true, and-false}
use native.Mathlib.Decide.{ℕ_discrete}
use lib.Pow.{pow_pos}
use Rattle.words.specs.Bits.{bit_at, word_of, with_bit}
use Rattle.words.proofs.Laws.{bit-built, bit-zero, built-lt, built-same, word-ext, with-lt, bit-with-same, bit-with-other}

module _ (n : ℕ) (drives : ℕ → Bool) where
  -- driven high, and not left to come
  abbrev pub taken_bit : ℕ → ℕ → Bool
  taken_bit left k = drives k && not (bit_at left k)

  module _ (left rest k driven : ℕ) (b : Bool) (within : k < n) (was : bit_at left k ≡ true) (gone : bit_at rest k ≡ false)
      (others : (j : ℕ) → (j ≡ k → ⊥) → bit_at rest j ≡ bit_at left j) (so_far : driven ≡ word_of (taken_bit left) n) (e : b ≡ drives k) where
    driven-lt : driven < 2 ^ n
    driven-lt = rw so_far (built-lt (taken_bit left) n)

    next-lt : (b : Bool) → cond b (with_bit driven k true) driven < 2 ^ n
    next-lt true = with-lt driven n k true driven-lt within
    next-lt false = driven-lt

    -- the bit of the one that is taken was low
    low : bit_at driven k ≡ false
    low = ap (λ (w : ℕ). bit_at w k) so_far ∙ bit-built (taken_bit left) n k within ∙ ap (λ (q : Bool). drives k && not q) was ∙ and-false (drives k)

    same : (b : Bool) → bit_at (cond b (with_bit driven k true) driven) k ≡ b
    same true = bit-with-same driven k true
    same false = low

    other : (b : Bool) (j : ℕ) → (j ≡ k → ⊥) → bit_at (cond b (with_bit driven k true) driven) j ≡ bit_at driven j
    other true j ne = bit-with-other driven k j true ne
    other false j ne = refl

    bits : (j : ℕ) → j < n → Dec (j ≡ k) → bit_at (cond b (with_bit driven k true) driven) j ≡ taken_bit rest j
    bits j h (yes p) = rw p (same b ∙ e ∙ sym (ap (λ (q : Bool). drives k && not q) gone ∙ and-true (drives k)))
    bits j h (no ne) =
        other b j ne ∙ ap (λ (w : ℕ). bit_at w j) so_far ∙ bit-built (taken_bit left) n j h
        ∙ ap (λ (q : Bool). drives j && not q) (sym (others j ne))

    -- one more is taken
    pub taken_next : cond b (with_bit driven k true) driven ≡ word_of (taken_bit rest) n
    taken_next =
        word-ext (cond b (with_bit driven k true) driven) (word_of (taken_bit rest) n) n (next-lt b) (built-lt (taken_bit rest) n)
        (λ j h. bits j h (ℕ_discrete j k) ∙ sym (bit-built (taken_bit rest) n j h))

  -- none is taken where all that drive are left, and all where none is left
  pub taken_none : (left : ℕ) → ((k : ℕ) → k < n → bit_at left k ≡ false → drives k ≡ false) → 0 ≡ word_of (taken_bit left) n
  taken_none left idle = word-ext 0 (word_of (taken_bit left) n) n (pow_pos n) (built-lt (taken_bit left) n)
      (λ j h. bit-zero j ∙ sym (bit-built (taken_bit left) n j h ∙ go j h (bit_at left j) refl))
    where
      go : (j : ℕ) → j < n → (q : Bool) → bit_at left j ≡ q → (drives j && not q) ≡ false
      go j h true e = and-false (drives j)
      go j h false e = and-true (drives j) ∙ idle j h e

  pub taken-all : word_of (taken_bit 0) n ≡ word_of drives n
  taken-all = built-same (taken_bit 0) drives n (λ j h. ap (λ (q : Bool). drives j && not q) (bit-zero j) ∙ and-true (drives j))
