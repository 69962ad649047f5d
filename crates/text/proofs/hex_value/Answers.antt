-- `text::hex_value` meets its contract: a byte that is no decimal digit is a letter, so neither difference is below zero.
use mathlib.Core.Path.{◌≡◌, sym, ◌∙◌}
use mathlib.Core.Bool.{true, false}
use native.Mathlib.Omega.{arith}
use Rattle.text.specs.Decimal.{is_digit}
use Rattle.text.specs.Hex.{hex_value}
use Rattle.text.proofs.DecimalLaws.{digit_low}
use Rattle.text.proofs.HexLaws.{hex-letter}
use Rattle.text.proofs.hex_value.Goals as goal
use Rattle.text.proofs.hex_value.Goals.{Else-is_digit, Then-is_digit}

-- what the test said
is_digit_lem : (c : Then-is_digit) → is_digit c.args.b ≡ true
is_digit_lem c = sym c.is_digit.ensures ∙ c.if-is_digit.true

no_digit : (c : Else-is_digit) → is_digit c.args.b ≡ false
no_digit c = sym c.is_digit.ensures ∙ c.if-is_digit.false

pub overflow_sub-result : goal.overflow_sub-result
overflow_sub-result c = digit_low c.args.b (is_digit_lem (goal.at.overflow_sub-result c).Then-is_digit)

pub returns-then-is_digit : goal.returns-then-is_digit
unfolding hex_value
returns-then-is_digit c = rw (is_digit_lem (goal.at.returns-then-is_digit c).Then-is_digit)

pub overflow_sub-result-else-is_digit : goal.overflow_sub-result-else-is_digit
overflow_sub-result-else-is_digit c =
    omega (arith, hex-letter c.args.b c.requires (no_digit (goal.at.overflow_sub-result-else-is_digit c).Else-is_digit))

pub returns-else-is_digit : goal.returns-else-is_digit
unfolding hex_value
returns-else-is_digit c =
    let e = no_digit (goal.at.returns-else-is_digit c).Else-is_digit in
    rw e (omega (arith, hex-letter c.args.b c.requires e))
