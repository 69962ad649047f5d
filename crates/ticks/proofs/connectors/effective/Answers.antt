-- `ticks::connectors::effective` meets its contract: the masks give each bit.
use borrow.Author.Rules.{rules}
use Rattle.ticks.proofs.Effective.{effective-merged}
use Rattle.ticks.proofs.connectors.effective.Goals as goal

pub returns : goal.returns
returns c = effective-merged c.args.sample c.args.attached (search rules)
