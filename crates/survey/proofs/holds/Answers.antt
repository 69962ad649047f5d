-- `survey::holds` meets its contract.
use mathlib.Core.Path.{ap, ◌∙◌}
use Rattle.words.specs.Bits.{bit_at}
use Rattle.survey.proofs.holds.Goals as goal

pub returns : goal.returns
returns c = c.bit.ensures ∙ ap (bit_at c.args.set) c.base.ensures.0
