-- Words as numbers: the bit at a place, a word built from its bits, a bit replaced, the number of
-- ones. Every definition is over the number of bits.
use Rattle.std.specs.Prelude.{ℕ, zero, suc, ◌+◌, ◌*◌, ◌/◌, ◌%◌, ◌^◌, ◌<◌, ◌≡◌, Bool, true, false, eqb}

-- a bit as a number
abbrev pub bit_number : Bool → ℕ
bit_number false = 0
bit_number true = 1

-- bit number i of the word w
unfoldable pub bit_at : (w i : ℕ) → Bool
bit_at w i = eqb (w / 2 ^ i % 2) 1

-- the word of n bits whose bit i is f i, built from 0 upward
unfoldable pub word_of : (ℕ → Bool) → ℕ → ℕ
word_of f zero = 0
word_of f (suc n) = word_of f n + bit_number (f n) * 2 ^ n

-- the word w with bit i made b: what is above it, b, and what is below it
unfoldable pub with_bit : (w i : ℕ) (b : Bool) → ℕ
with_bit w i b = w / 2 ^ suc i * 2 ^ suc i + (bit_number b * 2 ^ i + w % 2 ^ i)

-- how many of the first n are true
unfoldable pub count_of : (ℕ → Bool) → ℕ → ℕ
count_of f zero = 0
count_of f (suc n) = count_of f n + bit_number (f n)

-- bit k of the word w is set, and none below it
abbrev pub IsLowest : (w k : ℕ) → Type 0
IsLowest w k = (bit_at w k ≡ true) × ((i : ℕ) → i < k → bit_at w i ≡ false)
