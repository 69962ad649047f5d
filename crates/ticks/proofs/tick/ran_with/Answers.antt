-- `ticks::tick::ran_with` meets its contract: the tallies are those of the definition on a card of
-- any number of cells that the named ones lie in.
use Rattle.ticks.proofs.tick.ran_with.Goals as goal

pub returns : goal.returns
returns c n h small = rw (c.moved_on-next.ensures, c.tally-tallies.ensures n h small)
