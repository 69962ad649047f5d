-- `ticks::connectors::drive` meets its contract: by those of its calls.
use Rattle.ticks.specs.Levels.{lines_of}
use Rattle.ticks.proofs.connectors.drive.Goals as goal

pub returns : goal.returns
unfolding lines_of
returns c = rw (c.levels_from-levels.ensures, c.pulled_by-pulled.ensures, c.driven_by-driven.ensures)
