-- `rack::supply::draw` meets its contract: the larger of the two.
use Rattle.std.proofs.Common.{arith}
use Rattle.rack.specs.Supply.{draw}
use Rattle.rack.proofs.supply.draw.Goals as goal

pub returns : goal.returns
unfolding draw
returns c = omega (arith, c.pushes.ensures, c.max.ensures)
