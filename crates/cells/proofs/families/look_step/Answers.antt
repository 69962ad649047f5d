-- `cells::families::look_step` meets its contract: the work is its callee's.
use mathlib.Core.Path.{ap}
use mathlib.Core.Bool.{Bool, ◌||◌}
use Rattle.cells.specs.declared.work.Looked.{Looked}
use Rattle.cells.specs.Work.{keeping}
use Rattle.cells.proofs.Steps.{step-worked, step-slept}
use Rattle.cells.proofs.families.look_step.Goals as goal

pub returns-then-full-named : goal.returns-then-full-named
returns-then-full-named c s =
    let is = ap (λ (b : Bool). c.args.edited || b) c.moved.ensures in
    step-worked _ _ _ s _ _ is _ _ c.if-full-named.true (λ out. ap (λ (l : Looked). keeping s l.out) c.look-l.ensures)
    (ap (λ (l : Looked). l.slots) c.look-l.ensures)

pub returns-else-full-named : goal.returns-else-full-named
returns-else-full-named c s =
    let is = ap (λ (b : Bool). c.args.edited || b) c.moved.ensures in
    step-slept _ _ _ s _ _ is _ c.slept.ensures c.if-full-named.false
