-- `ticks::view::differing` meets its contract: quarter by quarter.
use Rattle.ticks.proofs.Words.{differ-words}
use Rattle.ticks.proofs.view.differing.Goals as goal

pub returns : goal.returns
returns c = differ-words c.args.a c.args.b
