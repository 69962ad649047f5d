-- Laws of words by their bits, over any width: what callers cite to reason of one bit at a time.
use mathlib.Core.Path.{◌≡◌, refl, sym, ap, ap₂, ◌∙◌, subst, subst⁻¹}
use mathlib.Core.Logic.{◌⊎◌, inl, inr}
use mathlib.Core.Bool.{Bool, true, false, not, ◌&&◌, ◌||◌, beq}
use Prim.Native.Nat.{ℕ, zero, suc, ◌+◌, ◌-◌, ◌*◌, ◌/◌, ◌%◌, ◌^◌, ◌≤◌, ◌<◌, zero-le}
use native.Mathlib.Nat.{add-zero, add_comm, le_of_suc-le-suc, eq-or-lt_of_le, lt_of_lt_of_le, zero-lt-suc, lt-suc_self, two-pow-succ}
use native.Mathlib.Nat.{mod-lt, mod-eq_of_lt, mod-one, div-eq_of_lt, mul-add-mod_self_right, zero-div, zero-mod}
use native.Mathlib.Decide.{dec_lt, ℕ_discrete}
use native.Mathlib.Numerals.{add-one, one-add}
use native.Mathlib.Omega.{arith}
use lib.Arith.{digits_lt}
use lib.Dec.{eqb}
use lib.Pow.{pow_pos, pow_mono, pow-add, shr-shr, shr_lt, high, field, mod-mod-pow, mod-pow-add}
use lib.Bits.{bit_and, bit_or, bit_xor, or_lt, and_shr, and_mod, or_shr, or_mod, xor_shr, xor_mod}
use lib.Count.{ones, ones_cat}
use mir.Val.{bool_byte}
use Rattle.words.specs.Bits.{bit_number, bit_at, word_of, with_bit, count_of}

-- ---- a single bit

-- a bit taken as a number, and tested, is itself
test-number : (b : Bool) → eqb (bit_number b) 1 ≡ b
test-number true = refl
test-number false = refl

-- a digit is the number of its test
number-test : (d : ℕ) → d < 2 → bit_number (eqb d 1) ≡ d
number-test zero h = refl
number-test (suc zero) h = refl
number-test (suc (suc d)) h = absurd (omega arith)

-- a bit as a number is the digit at its place
pub bit-number : (w i : ℕ) → bit_number (bit_at w i) ≡ w / 2 ^ i % 2
unfolding bit_at
bit-number w i = number-test (w / 2 ^ i % 2) (mod-lt (w / 2 ^ i) (zero-lt-suc 1))

-- the only bit of a bit
bit-of-number : (b : Bool) → bit_at (bit_number b) 0 ≡ b
unfolding bit_at
bit-of-number true = refl
bit-of-number false = refl

-- no bit is set past a word's width
pub bit-above : (w n i : ℕ) → w < 2 ^ n → n ≤ i → bit_at w i ≡ false
unfolding bit_at
bit-above w n i h l = ap (λ (x : ℕ). eqb (x % 2) 1) (div-eq_of_lt (lt_of_lt_of_le h (pow_mono l)))

-- zero has no bit set
pub bit-zero : (i : ℕ) → bit_at 0 i ≡ false
bit-zero i = bit-above 0 0 i (omega arith) zero-le

-- a shift right moves each bit down
pub bit-shr : (w k i : ℕ) → bit_at (w / 2 ^ k) i ≡ bit_at w (k + i)
unfolding bit_at
bit-shr w k i = ap (λ (x : ℕ). eqb (x % 2) 1) (shr-shr w k i)

-- the bits of the part above
pub bit_high : (hi k lo i : ℕ) → lo < 2 ^ k → bit_at (hi * 2 ^ k + lo) (k + i) ≡ bit_at hi i
bit_high hi k lo i h = sym (bit-shr (hi * 2 ^ k + lo) k i) ∙ ap (λ (x : ℕ). bit_at x i) (high hi k h)

-- a remainder keeps the bits below
pub bit-mod : (w n i : ℕ) → i < n → bit_at (w % 2 ^ n) i ≡ bit_at w i
unfolding bit_at
bit-mod w n i h =
    let d : ℕ = n - suc i in
    let e : n ≡ d + 1 + i = omega arith in
    ap (λ (m : ℕ). eqb (w % 2 ^ m / 2 ^ i % 2) 1) e ∙ ap (λ (x : ℕ). eqb (x % 2) 1) (field w (d + 1) i)
    ∙ ap (λ (x : ℕ). eqb x 1) (mod-mod-pow (w / 2 ^ i) d 1)

-- the bits of the part below
pub bit-low : (hi k lo i : ℕ) → i < k → bit_at (hi * 2 ^ k + lo) i ≡ bit_at lo i
bit-low hi k lo i h =
    sym (bit-mod (hi * 2 ^ k + lo) k i h) ∙ ap (λ (x : ℕ). bit_at x i) (mul-add-mod_self_right hi (2 ^ k) lo) ∙ bit-mod lo k i h

-- ---- one bit on top of a shorter word

-- the bit on top, at its place
top-same : (b : Bool) (k lo : ℕ) → lo < 2 ^ k → bit_at (bit_number b * 2 ^ k + lo) k ≡ b
top-same b k lo h =
    ap (bit_at (bit_number b * 2 ^ k + lo)) (sym (add-zero k)) ∙ bit_high (bit_number b) k lo 0 h ∙ bit-of-number b

-- and the word is one bit longer
top_lt : (b : Bool) (k lo : ℕ) → lo < 2 ^ k → bit_number b * 2 ^ k + lo < 2 ^ suc k
top_lt true k lo h = omega (arith, two-pow-succ k)
top_lt false k lo h = omega (arith, two-pow-succ k)

-- ---- words built from their bits

-- a step with the new bit in front, as the laws above have it
built-step : (f : ℕ → Bool) (n : ℕ) → word_of f (suc n) ≡ bit_number (f n) * 2 ^ n + word_of f n
unfolding word_of
built-step f n = add_comm (word_of f n) (bit_number (f n) * 2 ^ n)

-- a word of n bits fits n bits
pub built-lt : (f : ℕ → Bool) (n : ℕ) → word_of f n < 2 ^ n
unfolding word_of
built-lt f zero = omega arith
built-lt f (suc n) = subst⁻¹ (λ (x : ℕ). x < 2 ^ suc n) (built-step f n) (top_lt (f n) n (word_of f n) (built-lt f n))

-- each bit is the one that was given
pub bit-built : (f : ℕ → Bool) (n i : ℕ) → i < n → bit_at (word_of f n) i ≡ f i
bit-built f zero i h = absurd (omega arith)
bit-built f (suc n) i h = ap (λ (x : ℕ). bit_at x i) (built-step f n) ∙ go (bit-built f n i) (eq-or-lt_of_le (le_of_suc-le-suc h))
  where
    go : (i < n → bit_at (word_of f n) i ≡ f i) → (i ≡ n) ⊎ (i < n) → bit_at (bit_number (f n) * 2 ^ n + word_of f n) i ≡ f i
    go rest (inl e) = rw e (top-same (f n) n (word_of f n) (built-lt f n))
    go rest (inr l) = bit-low (bit_number (f n)) n (word_of f n) i l ∙ rest l

-- a word depends on its n bits alone
pub built-same : (f g : ℕ → Bool) (n : ℕ) → ((i : ℕ) → i < n → f i ≡ g i) → word_of f n ≡ word_of g n
unfolding word_of
built-same f g zero h = refl
built-same f g (suc n) h =
    ap₂ (λ (x : ℕ) (b : Bool). x + bit_number b * 2 ^ n) (built-same f g n (λ i l. h i (omega arith))) (h n (lt-suc_self n))

-- the n low bits of a word make its remainder
pub built-mod : (w n : ℕ) → word_of (bit_at w) n ≡ w % 2 ^ n
unfolding word_of
built-mod w zero = sym (mod-one w)
built-mod w (suc n) =
    built-step (bit_at w) n ∙ ap₂ (λ (x y : ℕ). x * 2 ^ n + y) (bit-number w n) (built-mod w n) ∙ sym (mod-pow-add w 1 n)
    ∙ ap (λ (k : ℕ). w % 2 ^ k) (one-add n)

-- a word is built of its bits
pub built-of-bits : (w n : ℕ) → w < 2 ^ n → word_of (bit_at w) n ≡ w
built-of-bits w n h = built-mod w n ∙ mod-eq_of_lt h

-- words of n bits are equal when their bits are
pub word-ext : (v w n : ℕ) → v < 2 ^ n → w < 2 ^ n → ((i : ℕ) → i < n → bit_at v i ≡ bit_at w i) → v ≡ w
word-ext v w n hv hw h =
    sym (built-of-bits v n hv) ∙ built-same (bit_at v) (bit_at w) n h ∙ built-of-bits w n hw

-- n set bits are the largest word
pub built-all : (n : ℕ) → word_of (λ _. true) n ≡ 2 ^ n - 1
unfolding word_of
built-all zero = refl
built-all (suc n) = omega (arith, built-all n, two-pow-succ n, pow_pos n)

-- every bit of the largest word is set
pub bit-ones : (n i : ℕ) → i < n → bit_at (2 ^ n - 1) i ≡ true
bit-ones n i h = ap (λ (x : ℕ). bit_at x i) (sym (built-all n)) ∙ bit-built (λ _. true) n i h

-- ---- counts

-- a bit has itself as its count
ones-number : (b : Bool) → ones (bit_number b) ≡ bit_number b
unfolding ones
ones-number true = refl
ones-number false = refl

-- the ones of a built word are the bits that are true
pub ones-built : (f : ℕ → Bool) (n : ℕ) → ones (word_of f n) ≡ count_of f n
unfolding word_of count_of ones
ones-built f zero = refl
ones-built f (suc n) =
    ap ones (built-step f n) ∙ ones_cat n (bit_number (f n)) (word_of f n) (built-lt f n)
    ∙ ap₂ (λ (x y : ℕ). x + y) (ones-number (f n)) (ones-built f n) ∙ add_comm (bit_number (f n)) (count_of f n)

-- ---- a bit replaced

-- what is below a place fits below it
low-lt : (w i : ℕ) → w % 2 ^ i < 2 ^ i
low-lt w i = mod-lt w (pow_pos i)

-- the new bit on top of what is below it
under-lt : (w i : ℕ) (b : Bool) → bit_number b * 2 ^ i + w % 2 ^ i < 2 ^ suc i
under-lt w i b = top_lt b i (w % 2 ^ i) (low-lt w i)

-- the bit replaced is the new one
pub bit-with-same : (w i : ℕ) (b : Bool) → bit_at (with_bit w i b) i ≡ b
unfolding with_bit
bit-with-same w i b =
    bit-low (w / 2 ^ suc i) (suc i) (bit_number b * 2 ^ i + w % 2 ^ i) i (lt-suc_self i) ∙ top-same b i (w % 2 ^ i) (low-lt w i)

-- every other bit stays
pub bit-with-other : (w i j : ℕ) (b : Bool) → (j ≡ i → ⊥) → bit_at (with_bit w i b) j ≡ bit_at w j
unfolding with_bit
bit-with-other w i j b ne = go (dec_lt j i)
  where
    lo : ℕ
    lo = bit_number b * 2 ^ i + w % 2 ^ i

    go : Dec (j < i) → bit_at (with_bit w i b) j ≡ bit_at w j
    go (yes l) = bit-low (w / 2 ^ suc i) (suc i) lo j (omega arith) ∙ bit-low (bit_number b) i (w % 2 ^ i) j l ∙ bit-mod w i j l
    go (no n) =
        let e : j ≡ suc i + (j - suc i) = omega arith in
        ap (bit_at (with_bit w i b)) e ∙ bit_high (w / 2 ^ suc i) (suc i) lo (j - suc i) (under-lt w i b) ∙ bit-shr w (suc i) (j - suc i)
        ∙ ap (bit_at w) (sym e)

-- the word grows no wider
pub with-lt : (w n i : ℕ) (b : Bool) → w < 2 ^ n → i < n → with_bit w i b < 2 ^ n
unfolding with_bit
with-lt w n i b h l =
    let d : ℕ = n - suc i in
    let e : n ≡ d + suc i = omega arith in
    subst⁻¹ (λ (m : ℕ). with_bit w i b < m) (ap (λ (k : ℕ). 2 ^ k) e ∙ pow-add 2 d (suc i))
    (digits_lt (shr_lt d (suc i) (subst (λ (k : ℕ). w < 2 ^ k) e h)) (under-lt w i b))

-- a word that has the new bit, and else w's, is w with the bit replaced
pub with-unique : (x w n i : ℕ) (b : Bool) → x < 2 ^ n → w < 2 ^ n → i < n → bit_at x i ≡ b
    → ((j : ℕ) → (j ≡ i → ⊥) → bit_at x j ≡ bit_at w j) → x ≡ with_bit w i b
with-unique x w n i b hx hw l same other = word-ext x (with_bit w i b) n hx (with-lt w n i b hw l) (λ j _. go j (ℕ_discrete j i))
  where
    go : (j : ℕ) → Dec (j ≡ i) → bit_at x j ≡ bit_at (with_bit w i b) j
    go j (yes e) = rw e (same ∙ sym (bit-with-same w i b))
    go j (no ne) = other j ne ∙ sym (bit-with-other w i j b ne)

-- a bit alone is zero with that bit replaced
pub with-zero : (i : ℕ) (b : Bool) → with_bit 0 i b ≡ bit_number b * 2 ^ i
unfolding with_bit
with-zero i b = rw (zero-div, zero-mod) (omega arith)

-- ---- the operations, bit by bit

-- one proof for an operation on words that is g on digits
module _ (op : ℕ → ℕ → ℕ) (g : Bool → Bool → Bool)
    (shr : (a b k : ℕ) → op a b / 2 ^ k ≡ op (a / 2 ^ k) (b / 2 ^ k))
    (rem : (a b k : ℕ) → op a b % 2 ^ k ≡ op (a % 2 ^ k) (b % 2 ^ k))
    (digit : (a b : Bool) → op (bit_number a) (bit_number b) ≡ bit_number (g a b)) where
  bit-op : (a b i : ℕ) → bit_at (op a b) i ≡ g (bit_at a i) (bit_at b i)
  unfolding bit_at
  bit-op a b i =
      ap (λ (x : ℕ). eqb (x % 2) 1) (shr a b i)
      ∙ ap (λ (x : ℕ). eqb x 1)
      (rem (a / 2 ^ i) (b / 2 ^ i) 1 ∙ sym (ap₂ op (bit-number a i) (bit-number b i)) ∙ digit (bit_at a i) (bit_at b i))
      ∙ test-number (g (bit_at a i) (bit_at b i))

-- the three operations on a digit
and-digit : (a b : Bool) → bit_and (bit_number a) (bit_number b) ≡ bit_number (a && b)
and-digit true true = refl
and-digit true false = refl
and-digit false b = refl

or-digit : (a b : Bool) → bit_or (bit_number a) (bit_number b) ≡ bit_number (a || b)
or-digit true true = refl
or-digit true false = refl
or-digit false b = refl

xor-digit : (a b : Bool) → bit_xor (bit_number a) (bit_number b) ≡ bit_number (not (beq a b))
xor-digit true true = refl
xor-digit true false = refl
xor-digit false true = refl
xor-digit false false = refl

-- a bit of `a & b`
pub bit-and : (a b i : ℕ) → bit_at (bit_and a b) i ≡ (bit_at a i && bit_at b i)
bit-and = bit-op bit_and ◌&&◌ and_shr and_mod and-digit

-- a bit of `a | b`
pub bit-or : (a b i : ℕ) → bit_at (bit_or a b) i ≡ (bit_at a i || bit_at b i)
bit-or = bit-op bit_or ◌||◌ or_shr or_mod or-digit

-- a bit of `a ^ b`
pub bit-xor : (a b i : ℕ) → bit_at (bit_xor a b) i ≡ not (beq (bit_at a i) (bit_at b i))
bit-xor = bit-op bit_xor (λ a b. not (beq a b)) xor_shr xor_mod xor-digit

-- ---- what the code computes: a shifted bit, and a bit set by `|`

-- the bit b alone at place i fits
lone-lt : (n i : ℕ) (b : Bool) → i < n → bit_number b * 2 ^ i < 2 ^ n
lone-lt n i b l = subst (λ (x : ℕ). x < 2 ^ n) (with-zero i b) (with-lt 0 n i b (pow_pos n) l)

-- a bool that the code casts and shifts
pub shifted : (n i : ℕ) (b : Bool) → i < n → bool_byte b * 2 ^ i % 2 ^ n ≡ bit_number b * 2 ^ i
shifted n i true l = mod-eq_of_lt (lone-lt n i true l)
shifted n i false l = mod-eq_of_lt (lone-lt n i false l)

-- a clear bit changes nothing
or-keep : (x : Bool) → (x || false) ≡ x
or-keep true = refl
or-keep false = refl

-- `w | (b << i)`
pub or-lone : (w n i : ℕ) (b : Bool) → w < 2 ^ n → i < n → bit_or w (bit_number b * 2 ^ i) ≡ with_bit w i (bit_at w i || b)
or-lone w n i b h l =
    let v : ℕ = with_bit 0 i b in
    ap (bit_or w) (sym (with-zero i b))
    ∙ with-unique (bit_or w v) w n i (bit_at w i || b) (or_lt n w v h (with-lt 0 n i b (pow_pos n) l)) h l
    (bit-or w v i ∙ ap (λ (x : Bool). bit_at w i || x) (bit-with-same 0 i b))
    (λ j ne. bit-or w v j ∙ ap (λ (x : Bool). bit_at w j || x) (bit-with-other 0 i j b ne ∙ bit-zero j) ∙ or-keep (bit_at w j))

-- a set bit decides
or-true : (x : Bool) → (x || true) ≡ true
or-true true = refl
or-true false = refl

-- `w | (1 << i)`
pub set-bit : (w n i : ℕ) → w < 2 ^ n → i < n → bit_or w (1 * 2 ^ i) ≡ with_bit w i true
set-bit w n i h l = or-lone w n i true h l ∙ ap (with_bit w i) (or-true (bit_at w i))

-- ---- a loop that builds a word

-- what was built so far, with the next bit pushed, is what is built one further
pub built-next : (f : ℕ → Bool) (i w r : ℕ) (b : Bool) → w ≡ word_of f i → b ≡ f i → r ≡ w + bit_number b * 2 ^ i → r ≡ word_of f (i + 1)
unfolding word_of
built-next f i w r b ew eb er = rw (add-one, er, ew, eb)

-- a bit that is low leaves the word as it is
pub built-passed : (f : ℕ → Bool) (i w : ℕ) → w ≡ word_of f i → f i ≡ false → w ≡ word_of f (i + 1)
built-passed f i w e low = built-next f i w w false e (sym low) (omega arith)

pub built-fits : (f : ℕ → Bool) (i w : ℕ) → w ≡ word_of f i → w < 2 ^ i
built-fits f i w e = rw e (built-lt f i)

-- a pushed bit keeps the word within one bit more
pub pushed-lt : (n i w : ℕ) (b : Bool) → w < 2 ^ i → i < n → w + bit_number b * 2 ^ i < 2 ^ n
pushed-lt n i w b h k = lt_of_lt_of_le (bound b) (pow_mono k)
  where
    bound : (b : Bool) → w + bit_number b * 2 ^ i < 2 ^ suc i
    bound true = omega (arith, two-pow-succ i)
    bound false = omega (arith, two-pow-succ i, pow_pos i)
