-- Document 01, "Lines", and document 02, "A line's number has 1 to 10 digits": texts that are
-- numbers and texts that are none, by computation.
use Rattle.std.specs.Prelude.{ℕ, ◌≡◌, refl, List, [], ◌∷◌, map, Option, None, Some}
use Prim.Native.String.{String}
use Rattle.text.specs.Digits.{every, value_by}
use Rattle.text.specs.Decimal.{is_digit, leads, plain, number_of}
use Rattle.text.specs.Written.{bytes_of}

abbrev numbers : List (String × Option ℕ)
numbers =
    ("0", Some 0)
    ∷ ("7", Some 7)
    ∷ ("65536", Some 65536)
    ∷ ("4294967295", Some 4294967295)
    ∷ ("9999999999", Some 9999999999)
    -- eleven digits, a leading zero, no digit, another byte
    ∷ ("10000000000", None)
    ∷ ("01", None)
    ∷ ("00", None)
    ∷ ("", None)
    ∷ ("-1", None)
    ∷ ("1 ", None)
    ∷ []

examples : map (λ (e : String × Option ℕ). number_of (bytes_of e.0)) numbers ≡ map (λ (e : String × Option ℕ). e.1) numbers
unfolding every value_by is_digit leads plain number_of
examples = refl
