-- `session::run::run_with` meets its contract: the invariant says where the run is between two turns, and the measure is the number of reads that are left.
use Rattle.card.specs.Address.{cell_count}
use Rattle.session.proofs.Turns.{Underway}
use Rattle.session.proofs.run.run_with.Given as goal

abbrev pub invariant-loop-r : goal.invariant-loop-r
invariant-loop-r l = Underway cell_count l.r l.store l.line l.out

abbrev pub decreases-loop-r : goal.decreases-loop-r
decreases-loop-r l = l.r.left
