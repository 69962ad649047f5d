-- `rack::supply::pushes` meets its contract: the ones of the front word.
use Rattle.std.proofs.Common.{arith}
use Rattle.rack.specs.Supply.{pushes}
use Rattle.rack.proofs.Draws.{front-ones, front-few}
use Rattle.rack.proofs.supply.pushes.Goals as goal

pub overflow_cast-result : goal.overflow_cast-result
overflow_cast-result c = record { fits = omega (arith, front-few c.args.c) }

pub returns : goal.returns
unfolding pushes
returns c = front-ones c.args.c
