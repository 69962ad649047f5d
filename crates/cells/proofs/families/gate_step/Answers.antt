-- `cells::families::gate_step` meets its contract: what is asked is what the definition asks, and the
-- work is its callee's.
use mathlib.Core.Path.{refl, ap, ◌∙◌}
use mathlib.Core.Bool.{Bool, ◌||◌}
use Rattle.cells.specs.Work.{keeping, gate_out, work_as}
use Rattle.cells.proofs.Steps.{step-worked, step-slept}
use Rattle.cells.proofs.families.gate_step.Goals as goal

pub returns-then-full-named : goal.returns-then-full-named
unfolding work_as
returns-then-full-named c s =
    let a = c.args in
    let is = ap (λ (b : Bool). a.edited || b) c.moved.ensures in
    step-worked _ _ _ s _ _ is _ _ c.if-full-named.true
    (λ out. ap (keeping s) (c.gate_out.ensures ∙ ap (gate_out a.gate a.cell.config) c.read_used-r.ensures)) refl

pub returns-else-full-named : goal.returns-else-full-named
returns-else-full-named c s =
    let is = ap (λ (b : Bool). c.args.edited || b) c.moved.ensures in
    step-slept _ _ _ s _ _ is _ c.slept.ensures c.if-full-named.false
