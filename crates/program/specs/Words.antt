-- What the words say that a program is started with.
use Rattle.std.specs.Prelude.{ℕ, ◌^◌, List, eqb, length, cond, Option, None}
use Rattle.text.specs.Decimal.{max_digits, number_at}

-- the number that a whole word is
unfoldable pub whole_number : List ℕ → Option ℕ
whole_number w = let n = number_at w 0 in cond (eqb n.next (length w)) n.value None

-- more than any number of at most ten digits
abbrev pub most_from : ℕ
most_from = 10 ^ max_digits
