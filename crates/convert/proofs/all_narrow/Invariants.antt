-- `convert::all_narrow` meets its contract: after i turns the first i cells are tested.
use Prim.Native.Nat.{◌-◌}
use Rattle.card.proofs.Settings.{Tested}
use Rattle.convert.specs.Convert.{narrow_cell}
use Rattle.convert.proofs.all_narrow.Given as goal

abbrev pub invariant-loop-i : goal.invariant-loop-i
invariant-loop-i l = Tested narrow_cell l.n l.cells l.ok l.i

abbrev pub decreases-loop-i : goal.decreases-loop-i
decreases-loop-i l = l.n - l.i
