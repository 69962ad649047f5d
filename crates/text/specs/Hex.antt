-- Words in hexadecimal: four digits in lower case, highest first.
use Rattle.std.specs.Prelude.{ℕ, zero, suc, ◌+◌, ◌-◌, ◌/◌, ◌%◌, Bool, cond, ◌&&◌, ◌||◌, List, [], ◌∷◌, ◌++◌, leb, ltb, take, drop, Option, Some, None}
use Rattle.text.specs.Digits.{every, value_by}
use Rattle.text.specs.Decimal.{is_digit}

-- the byte of a digit below 16
unfoldable pub hex_digit : ℕ → ℕ
hex_digit d = cond (ltb d 10) (48 + d) (87 + d)

-- the last k digits of w
unfoldable pub hex_digits : (k w : ℕ) → List ℕ
hex_digits zero w = []
hex_digits (suc k) w = hex_digits k (w / 16) ++ (hex_digit (w % 16) ∷ [])

abbrev pub hex4 : ℕ → List ℕ
hex4 = hex_digits 4

-- 0 to 9, a to f
unfoldable pub is_hex : ℕ → Bool
is_hex b = is_digit b || leb 97 b && leb b 102

-- the value of such a byte
unfoldable pub hex_value : ℕ → ℕ
hex_value b = cond (is_digit b) (b - 48) (b - 87)

-- what these bytes say, where each is a digit
unfoldable pub hex_in : List ℕ → Option ℕ
hex_in ds = cond (every is_hex ds) (Some (value_by 16 hex_value 0 ds)) None

-- the four bytes at a place of a text
abbrev pub four_at : List ℕ → ℕ → List ℕ
four_at t at = take 4 (drop at t)

unfoldable pub hex_at : List ℕ → ℕ → Option ℕ
hex_at t at = hex_in (four_at t at)
