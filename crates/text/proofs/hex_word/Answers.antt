-- `text::hex_word` meets its contract: one digit more keeps the value below a power of sixteen.
use Prim.Native.Nat.{◌<◌}
use mathlib.Core.Path.{◌≡◌, sym, ap, ◌∙◌}
use mathlib.Core.Bool.{true}
use native.Mathlib.Omega.{arith}
use borrow.Author.Tests.{not-true, not-false}
use lib.ListN.{get_or, drop_of_length-le}
use Rattle.text.specs.Digits.{every, value_by}
use Rattle.text.specs.Hex.{is_hex, hex_value, hex_in}
use Rattle.text.proofs.DigitLaws.{every-next, value-next, grows, fits}
use Rattle.text.proofs.HexLaws.{hex-small}
use Rattle.text.proofs.hex_word.Goals as goal
use Rattle.text.proofs.hex_word.Goals.{After-hex_value, Else-not-is_hex}

-- the current byte passed the test, so its value is a digit's
is-hex : (c : Else-not-is_hex) → is_hex (get_or c.args.digits.now c.loop-digit.digit-index 0) ≡ true
is-hex c = sym c.is_hex.ensures ∙ not-false c.is_hex.result c.if-not-is_hex.false-raw

small : (c : After-hex_value) → c.hex_value.result < 16
small c = rw c.hex_value.ensures (hex-small _ (sym c.is_hex.ensures ∙ not-false c.is_hex.result c.if-not-is_hex.false-raw))

pub returns-then-not-is_hex : goal.returns-then-not-is_hex
unfolding hex_in
returns-then-not-is_hex c =
    let ds = c.args.digits.now in
    let i = c.loop-digit.digit-index in
    let e = sym c.is_hex.ensures ∙ not-true c.is_hex.result c.if-not-is_hex.true-raw in
    rw (← c.loop-digit.invariant.passed, every-next is_hex ds i (omega arith), e)

pub hex_value-requires : goal.hex_value-requires
hex_value-requires c = is-hex (goal.at.hex_value-requires c).Else-not-is_hex

pub overflow_add-value : goal.overflow_add-value
overflow_add-value c =
    let l = small (goal.at.overflow_add-value c).After-hex_value in
    omega (arith, fits 16 c.loop-digit.digit-index 4 c.loop-digit.value c.hex_value.result c.loop-digit.invariant.bound l (omega arith))

pub loop-digit-preserved : goal.loop-digit-preserved
loop-digit-preserved c =
    let ds = c.args.digits.now in
    let i = c.loop-digit.digit-index in
    let e = is-hex (goal.at.loop-digit-preserved c).Else-not-is_hex in
    record {
      bound = grows 16 i c.loop-digit.value c.hex_value.result c.loop-digit.invariant.bound (small (goal.at.loop-digit-preserved c).After-hex_value);
      passed = sym (every-next is_hex ds i (omega arith) ∙ rw e) ∙ c.loop-digit.invariant.passed;
      rest = rw c.hex_value.ensures (sym (value-next 16 hex_value c.loop-digit.value ds i (omega arith)) ∙ c.loop-digit.invariant.rest);
    }

pub returns : goal.returns
unfolding hex_in every value_by
returns c =
    let done = drop_of_length-le c.args.digits.now {i = c.loop-digit.digit-index} (omega arith) in
    let all = sym c.loop-digit.invariant.passed ∙ ap (every is_hex) done in
    let value = sym c.loop-digit.invariant.rest ∙ ap (value_by 16 hex_value c.loop-digit.value) done in
    rw (all, value)
