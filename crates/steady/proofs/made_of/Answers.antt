-- `steady::made_of` meets its contract.
use Rattle.std.proofs.Common.{◌∙◌}
use Rattle.steady.proofs.Cases.{made_many}
use Rattle.steady.proofs.made_of.Goals as goal

pub returns : goal.returns
returns c = rw c.max.ensures at c.min.ensures ∙ made_many c.args.k c.args.steady
