-- `ticks::tick::noted` meets its contract: a bit that is low adds nothing.
use native.Mathlib.Omega.{arith}
use Rattle.ticks.proofs.tick.noted.Goals as goal

pub returns-then-is : goal.returns-then-is
returns-then-is c = rw c.if-is.true c.pushed.ensures

pub returns-else-is : goal.returns-else-is
returns-else-is c = rw c.if-is.false (omega arith)
