-- Laws of the forms: a word read byte by byte.
use Prim.Native.Nat.{ℕ, ◌+◌, ◌≤◌, ◌<◌}
use mathlib.Core.Path.{◌≡◌}
use mathlib.Core.Bool.{true, ◌&&◌}
use mathlib.Core.List.{List}
use Rattle.std.specs.Prelude.{None}
use native.Mathlib.Nat.{add-suc, add-zero, le_of_lt}
use native.Mathlib.Omega.{arith}
use native.Mathlib.Numerals.{add-one}
use lib.Dec.{eqb}
use lib.ListN.{length, get_or, drop, drop_of_length-le}
use lib.Seq.{drop-cons}
use Rattle.std.specs.Prelude.{None}
use Rattle.text.specs.Decimal.{digits_of, leads, plain, number_in, number_at}
use Rattle.text.proofs.DecimalLaws.{digits-within}
use Rattle.grammar.specs.Grammar.{char_at, is_word}

-- one byte more of the word
pub word_next : (word t : List ℕ) (at i : ℕ) → i < length word
    → is_word (drop i word) (at + i) t ≡ (eqb (char_at t (at + i)) (get_or word i 0) && is_word (drop (i + 1) word) (at + (i + 1)) t)
unfolding is_word
word_next word t at i h = rw (drop-cons word i 0 h, add-one, add-suc)

pub word_end : (word t : List ℕ) (at i : ℕ) → length word ≤ i → is_word (drop i word) (at + i) t ≡ true
unfolding is_word
word_end word t at i h = rw (drop_of_length-le word h)

-- past the end there is no number
pub number_past : (t : List ℕ) (at : ℕ) → length t < at → record { value = None; next = at } ≡ number_at t at
unfolding number_at number_in digits_of plain leads
number_past t at h = rw (drop_of_length-le t (le_of_lt h), add-zero)

-- a number ends within any bound of its start and of the line
pub next_within : (t : List ℕ) (at m : ℕ) → at ≤ m → length t ≤ m → (number_at t at).next ≤ m
unfolding number_at number_in
next_within t at m ha ht = omega (arith, digits-within t at)
