-- `lines::line::save_if` meets its contract: the record by `save`, or nothing.
use Rattle.lines.proofs.line.save_if.Goals as goal

pub returns-then-asked : goal.returns-then-asked
returns-then-asked c = rw c.if-asked.true c.save.ensures.store_after

pub returns-else-asked : goal.returns-else-asked
returns-else-asked c = rw c.if-asked.false
