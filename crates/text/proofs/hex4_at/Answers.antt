-- `text::hex4_at` meets its contract: the part of the text is its four bytes.
use Prim.Native.Nat.{◌+◌, ◌-◌}
use mathlib.Core.Path.{◌≡◌}
use native.Mathlib.Omega.{arith}
use Rattle.text.specs.Hex.{hex_at}
use Rattle.text.proofs.hex4_at.Goals as goal

pub returns : goal.returns
unfolding hex_at
returns c =
    let four : c.args.at + 4 - c.args.at ≡ 4 = omega arith in
    rw (c.hex_word.ensures, four)
