-- Laws of words in hexadecimal: what is printed reads back.
use Prim.Native.Nat.{ℕ, zero, suc, ◌+◌, ◌*◌, ◌/◌, ◌%◌, ◌^◌, ◌≤◌, ◌<◌}
use mathlib.Core.Path.{◌≡◌, refl}
use mathlib.Core.Bool.{Bool, true, false, ◌&&◌}
use mathlib.Core.List.{List, [], ◌∷◌}
use native.Mathlib.Nat.{pow-suc}
use native.Mathlib.Decide.{dec_lt}
use native.Mathlib.Omega.{arith}
use lib.Dec.{leb}
use Rattle.std.specs.Prelude.{Some}
use lib.ListN.{length, length-append}
use borrow.Author.Tests.{leb-true, lt-ltb, le-ltb, le-leb}
use Rattle.text.specs.Digits.{every, value_by}
use Rattle.text.specs.Decimal.{is_digit}
use Rattle.text.specs.Hex.{hex_digit, hex_digits, hex4, is_hex, hex_value, hex_in, hex_at, four_at}
use Rattle.text.proofs.DigitLaws.{both_left, both_right, every_append, value-append}
use Rattle.text.proofs.DecimalLaws.{digit-yes, digit-no, digit-high}

-- ---- one digit

-- a letter is no decimal digit
letter : (d : ℕ) → 10 ≤ d → is_digit (87 + d) ≡ false
letter d h = digit-no (87 + d) (omega arith)

-- the byte of a digit is a digit, and has its value
pub digit-is : (d : ℕ) → d < 16 → is_hex (hex_digit d) ≡ true
unfolding is_hex hex_digit
digit-is d h = go (dec_lt d 10)
  where
    go : Dec (d < 10) → is_hex (hex_digit d) ≡ true
    go (yes l) = rw (lt-ltb d 10 l, digit-yes (48 + d) (omega arith) (omega arith))
    go (no l) = rw (le-ltb d 10 (omega arith), letter d (omega arith), le-leb 97 (87 + d) (omega arith), le-leb (87 + d) 102 (omega arith))

pub digit-back : (d : ℕ) → d < 16 → hex_value (hex_digit d) ≡ d
unfolding hex_value hex_digit
digit-back d h = go (dec_lt d 10)
  where
    go : Dec (d < 10) → hex_value (hex_digit d) ≡ d
    go (yes l) = rw (lt-ltb d 10 l, digit-yes (48 + d) (omega arith) (omega arith)) (omega arith)
    go (no l) = rw (le-ltb d 10 (omega arith), letter d (omega arith)) (omega arith)

-- ---- k digits

pub hex-length : (k w : ℕ) → length (hex_digits k w) ≡ k
unfolding hex_digits
hex-length zero w = refl
hex-length (suc k) w = omega (arith, length-append (hex_digits k (w / 16)) (hex_digit (w % 16) ∷ []), hex-length k (w / 16))

pub hex-digits : (k w : ℕ) → every is_hex (hex_digits k w) ≡ true
unfolding every hex_digits
hex-digits zero w = refl
hex-digits (suc k) w = rw (every_append, hex-digits k (w / 16), digit-is (w % 16) (omega arith))

pub hex-reads : (k w : ℕ) → w < 16 ^ k → value_by 16 hex_value 0 (hex_digits k w) ≡ w
unfolding value_by hex_digits
hex-reads zero w h = omega arith
hex-reads (suc k) w h =
    let m : w < 16 ^ k * 16 = rw pow-suc at h in
    rw (value-append, hex-reads k (w / 16) (omega arith), digit-back (w % 16) (omega arith)) (omega arith)

-- a word that is at a place reads as the word
pub hex-reads-at : (t : List ℕ) (at w : ℕ) → w < 16 ^ 4 → four_at t at ≡ hex4 w → hex_at t at ≡ Some w
unfolding hex_at hex_in
hex-reads-at t at w h e = rw (e, hex-digits 4 w, hex-reads 4 w h)

-- ---- digits as the code reads them

pub hex-letter : (b : ℕ) → is_hex b ≡ true → is_digit b ≡ false → (97 ≤ b) × (b ≤ 102)
unfolding is_hex
hex-letter b e f =
    let g : (leb 97 b && leb b 102) ≡ true = rw f at e in
    (leb-true 97 b (both_left (leb 97 b) (leb b 102) g), leb-true b 102 (both_right (leb 97 b) (leb b 102) g))

pub hex-small : (b : ℕ) → is_hex b ≡ true → hex_value b < 16
unfolding hex_value
hex-small b e = go (is_digit b) refl
  where
    go : (y : Bool) → is_digit b ≡ y → hex_value b < 16
    go true f = rw f (omega (arith, digit-high b f))
    go false f = let h : (97 ≤ b) × (b ≤ 102) = hex-letter b e f in rw f (omega arith)
