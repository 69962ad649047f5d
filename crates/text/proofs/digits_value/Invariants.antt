-- `text::digits_value` meets its contract. The invariant: the value and then the digits that are left say what all of them say, and the value is what so many digits
-- can say.
use Prim.Native.Nat.{◌^◌, ◌<◌}
use mathlib.Core.Path.{◌≡◌}
use lib.ListN.{drop}
use Rattle.text.specs.Decimal.{value_from}
use Rattle.text.proofs.digits_value.Given as goal

abbrev pub invariant-loop-digit : goal.invariant-loop-digit
invariant-loop-digit l = record {
  bound : l.value < 10 ^ l.digit-index;
  rest : value_from l.value (drop l.digit-index l.digits) ≡ value_from 0 l.digits;
}
