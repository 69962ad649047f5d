-- `ticks::brief::slept` meets its contract: the total is the definition's, and the rest is written
-- out.
use mathlib.Core.Path.{◌≡◌, refl}
use mathlib.Core.Bool.{Bool, true, false, cond}
use Prim.Native.Nat.{◌+◌}
use lib.Dec.{ltb}
use Rattle.cells.specs.declared.cell.Ticks.{Ticks}
use Rattle.card.specs.Tally.{ticks, standstill, counted}
use Rattle.ticks.specs.Brief.{one_more}
use Rattle.ticks.proofs.brief.slept.Goals as goal

same : (t : Ticks) → counted true t ≡ one_more t
unfolding counted
same t = go (ltb t.0 standstill)
  where
    go : (b : Bool) → cond b (ticks (t.0 + 1)) t ≡ ticks (cond b (t.0 + 1) t.0)
    go true = refl
    go false = refl

pub returns : goal.returns
returns c = rw (c.moved_on.ensures, c.counted.ensures, same c.args.total)
