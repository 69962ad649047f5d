-- `saved::record::load_cell` meets its contract: only the configuration is made normal.
use Rattle.saved.specs.Record.{normal_cell}
use Rattle.saved.proofs.record.load_cell.Goals as goal

pub returns : goal.returns
unfolding normal_cell
returns c = cc
