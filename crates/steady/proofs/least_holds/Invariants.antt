-- `steady::least_holds` meets its contract: after i turns it is the least of the first i cells.
use mathlib.Core.Path.{◌≡◌}
use Rattle.steady.specs.Steady.{least_holds}
use Rattle.steady.proofs.least_holds.Given as goal

abbrev pub invariant-loop-i : goal.invariant-loop-i
invariant-loop-i l = l.all ≡ least_holds l.i l.before l.after
