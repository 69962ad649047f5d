-- `trigger::trigger_fresh_large` meets its contract.
use Rattle.card.specs.Address.{cells_for}
use Rattle.trigger.proofs.trigger_fresh_large.Goals as goal

pub returns : goal.returns
unfolding cells_for
returns c = c.fresh_of.ensures
