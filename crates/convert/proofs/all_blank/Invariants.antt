-- `convert::all_blank` meets its contract: after i turns the first i cells above those of a small card are tested.
use Prim.Native.Nat.{◌-◌}
use lib.ListN.{drop}
use Rattle.card.specs.Address.{cell_count}
use Rattle.card.proofs.Settings.{Tested}
use Rattle.convert.specs.Convert.{is_blank}
use Rattle.convert.proofs.all_blank.Given as goal

abbrev pub invariant-loop-i : goal.invariant-loop-i
invariant-loop-i l = Tested is_blank l.n (drop cell_count l.cells) l.ok l.i

abbrev pub decreases-loop-i : goal.decreases-loop-i
decreases-loop-i l = l.n - l.i
