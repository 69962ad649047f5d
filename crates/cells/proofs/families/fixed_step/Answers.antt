-- `cells::families::fixed_step` meets its contract: only an edit names it.
use mathlib.Core.Path.{refl}
use Rattle.cells.proofs.Steps.{step-worked, step-slept}
use Rattle.cells.proofs.families.fixed_step.Goals as goal

pub returns-then-full-edited : goal.returns-then-full-edited
returns-then-full-edited c s = step-worked _ _ _ s _ _ refl _ _ c.if-full-edited.true (λ out. refl) refl

pub returns-else-full-edited : goal.returns-else-full-edited
returns-else-full-edited c s = step-slept _ _ _ s _ _ refl _ c.slept.ensures c.if-full-edited.false
