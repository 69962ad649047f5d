-- `ticks::view::quarters` meets its contract: the four words read as their quarters of the
-- addresses do.
use Rattle.cells.specs.Reading.{read_from}
use Rattle.ticks.specs.Words.{ReadsAs}
use Rattle.ticks.proofs.Views.{quarter-reads}
use Rattle.ticks.proofs.view.quarters.Goals as goal

pub returns : goal.returns
unfolding ReadsAs read_from
returns c a h = quarter-reads c.args.now c.args.before a h
