-- `explain::shape::plain` ends: what is left gets shorter.
use lib.ListN.{length}
use Rattle.explain.proofs.shape.plain.Given as goal

abbrev pub decreases-loop-rest : goal.decreases-loop-rest
decreases-loop-rest l = length l.rest
