-- `ticks::tick::flipped` meets its contract, by the law of `^` with one bit.
use mathlib.Core.Path.{ap, ◌∙◌}
use mathlib.Core.Bool.{true}
use lib.Bits.{bit_xor}
use borrow.Author.Rules.{rules}
use Rattle.words.proofs.Laws.{shifted}
use Rattle.ticks.proofs.Turns.{flip-bit}
use Rattle.ticks.proofs.tick.flipped.Goals as goal

pub returns : goal.returns
returns c =
    ap (bit_xor c.args.w) (shifted 32 c.args.i true (search rules))
    ∙ flip-bit c.args.w 32 c.args.i (search rules) (search rules)
