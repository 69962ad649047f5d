-- `session::do_tick` meets its contract: the two kinds of tick, whose count is small.
use Rattle.session.proofs.Chains.{count_small}
use Rattle.session.proofs.do_tick.Goals as goal

pub returns-then-t : goal.returns-then-t
returns-then-t c = (rw c.if-t.true c.full_tick.ensures, rw c.full_tick.ensures (count_small _ _ _))

pub returns-else-t : goal.returns-else-t
returns-else-t c = (rw c.if-t.false c.quick_tick.ensures, rw c.quick_tick.ensures (count_small _ _ _))
