-- `trace::shown_in` meets its contract: each arm is a case of the definition.
use Rattle.trace.specs.Shows.{shown_in}
use Rattle.trace.proofs.shown_in.Goals as goal

pub returns-in-Tick : goal.returns-in-Tick
unfolding shown_in
returns-in-Tick c = rw c.in-Tick.is

pub returns-in-Load : goal.returns-in-Load
unfolding shown_in
returns-in-Load c = rw c.in-Load.is

pub returns-in-Line : goal.returns-in-Line
unfolding shown_in
returns-in-Line c = rw c.in-Line.is
