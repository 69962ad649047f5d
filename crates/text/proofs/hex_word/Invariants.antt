-- `text::hex_word` meets its contract. The invariant: the bytes passed are digits, and the value and then the bytes that are left say what all of them say.
use Prim.Native.Nat.{◌^◌, ◌<◌}
use mathlib.Core.Path.{◌≡◌}
use lib.ListN.{drop}
use Rattle.text.specs.Digits.{every, value_by}
use Rattle.text.specs.Hex.{is_hex, hex_value}
use Rattle.text.proofs.hex_word.Given as goal

abbrev pub invariant-loop-digit : goal.invariant-loop-digit
invariant-loop-digit l = record {
  bound : l.value < 16 ^ l.digit-index;
  passed : every is_hex (drop l.digit-index l.digits) ≡ every is_hex l.digits;
  rest : value_by 16 hex_value l.value (drop l.digit-index l.digits) ≡ value_by 16 hex_value 0 l.digits;
}
