-- `explain::facts::step` meets its contract: what `session::enter` ensures, with the parts that `facts_of` keeps.
use native.Mathlib.Omega.{arith}
use Rattle.explain.proofs.facts.step.Goals as goal

pub returns : goal.returns
returns c = record { card = cc; event = cc; store = cc; output = cc; len = cc; fits = omega arith }
