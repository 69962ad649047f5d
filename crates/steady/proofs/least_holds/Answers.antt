-- `steady::least_holds` meets its contract: after i turns it is the least of the first i cells.
use mathlib.Core.Path.{refl, ◌∙◌}
use Rattle.steady.specs.Steady.{least_holds}
use Rattle.steady.proofs.Cases.{min-least, least-next}
use Rattle.steady.proofs.least_holds.Goals as goal

pub loop-i-init : goal.loop-i-init
unfolding least_holds
loop-i-init c = refl

pub loop-i-preserved : goal.loop-i-preserved
loop-i-preserved c =
    c.min-all.ensures ∙ min-least c.loop-i.all c.cell_holds.result ∙ least-next _ _ _ _ _ c.loop-i.invariant c.cell_holds.ensures
