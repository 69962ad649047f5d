-- `ticks::tick::shifted` meets its contract: bit by bit.
use mathlib.Core.Path.{ap₂, ◌∙◌}
use mathlib.Core.Bool.{Bool, ◌||◌}
use lib.Bits.{bit_xor}
use Rattle.words.proofs.Laws.{bit-or, bit-xor}
use Rattle.ticks.specs.Words.{shifted_at}
use Rattle.ticks.proofs.tick.shifted.Goals as goal

pub returns : goal.returns
unfolding shifted_at
returns c i =
    let w = c.args.w in
    bit-or (bit_xor w.outputs w.outputs2) (bit_xor w.outputs2 w.outputs3) i
    ∙ ap₂ (λ (a b : Bool). a || b) (bit-xor w.outputs w.outputs2 i) (bit-xor w.outputs2 w.outputs3 i)
