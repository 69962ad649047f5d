-- `text::digits_value` meets its contract: one digit more keeps the value below a power of ten.
use mathlib.Core.Path.{◌≡◌, sym, ap, ◌∙◌}
use mathlib.Core.Bool.{true}
use native.Mathlib.Omega.{arith}
use lib.ListN.{get_or, drop_of_length-le}
use Rattle.text.specs.Digits.{value_by}
use Rattle.text.specs.Decimal.{is_digit, digit_value, value_from}
use Rattle.text.proofs.DigitLaws.{every-at, value-next, grows}
use Rattle.text.proofs.DecimalLaws.{digit_low, digit-small}
use Rattle.text.proofs.digits_value.Goals as goal
use Rattle.text.proofs.digits_value.Goals.{In-loop-digit}

-- the current byte is a digit
is_digit_lem : (c : In-loop-digit) → is_digit (get_or c.args.digits.now c.loop-digit.digit-index 0) ≡ true
is_digit_lem c = every-at is_digit c.args.digits.now c.loop-digit.digit-index 0 c.requires.all_digits (omega arith)

pub overflow_sub-value : goal.overflow_sub-value
overflow_sub-value c = digit_low _ (is_digit_lem (goal.at.overflow_sub-value c).In-loop-digit)

pub loop-digit-preserved : goal.loop-digit-preserved
loop-digit-preserved c =
    let i = c.loop-digit.digit-index in
    let ds = c.args.digits.now in
    record {
      bound = grows 10 i c.loop-digit.value (digit_value (get_or ds i 0)) c.loop-digit.invariant.bound
          (digit-small (get_or ds i 0) (is_digit_lem (goal.at.loop-digit-preserved c).In-loop-digit));
      rest = sym (value-next 10 digit_value c.loop-digit.value ds i (omega arith)) ∙ c.loop-digit.invariant.rest;
    }

pub returns : goal.returns
unfolding value_by
returns c =
    let ds = c.args.digits.now in
    ap (value_from c.loop-digit.value) (sym (drop_of_length-le ds {i = c.loop-digit.digit-index} (omega arith))) ∙ c.loop-digit.invariant.rest
