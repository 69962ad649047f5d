-- Numbers in decimal: digits in a text, the number that they say, and the digits of a number.
use Rattle.std.specs.Prelude.{ℕ, zero, suc, ◌+◌, ◌-◌, ◌/◌, ◌%◌, Bool, true, false, cond, not, ◌&&◌, List, [], ◌∷◌, ◌++◌, leb, ltb, eqb, length, drop, Option, Some, None}
use Rattle.text.specs.Digits.{every, value_by}
use Rattle.text.specs.declared.Number.{Number}

-- 0 to 9
unfoldable pub is_digit : ℕ → Bool
is_digit b = leb 48 b && leb b 57

-- the digits at the front of a text
unfoldable pub digits_of : List ℕ → List ℕ
digits_of [] = []
digits_of (b ∷ bs) = cond (is_digit b) (b ∷ digits_of bs) []

-- the value of a digit
abbrev pub digit_value : ℕ → ℕ
digit_value b = b - 48

-- the number that acc's digits and then these say
abbrev pub value_from : ℕ → List ℕ → ℕ
value_from = value_by 10 digit_value

-- how many digits a number may have
abbrev pub max_digits : ℕ
max_digits = 10

-- at least one digit, and no leading zero unless it is the only digit
unfoldable pub leads : List ℕ → Bool
leads [] = false
leads (d ∷ []) = true
leads (d ∷ e ∷ ds) = not (eqb d 48)

-- the form of a number, of what is known to be digits
unfoldable pub plain : List ℕ → Bool
plain ds = leb (length ds) max_digits && leads ds

-- the number that a whole text is
unfoldable pub number_of : List ℕ → Option ℕ
number_of t = cond (every is_digit t && plain t) (Some (value_from 0 t)) None

-- what is at a place of a text: the digits from there on, as a number where they have its form
unfoldable pub number_in : List ℕ → ℕ → Number
number_in ds at = record { value = cond (plain ds) (Some (value_from 0 ds)) None; next = at + length ds }

unfoldable pub number_at : List ℕ → ℕ → Number
number_at t at = number_in (digits_of (drop at t)) at

-- the digits of n; k bounds how many steps it takes
unfoldable pub decimal_from : (k n : ℕ) → List ℕ
decimal_from zero n = (48 + n) ∷ []
decimal_from (suc k) n = let more = decimal_from k (n / 10) ++ ((48 + n % 10) ∷ []) in cond (ltb n 10) ((48 + n) ∷ []) more

-- the digits of a number, with no leading zeros
unfoldable pub decimal : ℕ → List ℕ
decimal n = decimal_from n n
