-- `cells::families::flop_step` meets its contract: what is asked is what the definition asks, and the
-- work is its callee's.
use mathlib.Core.Path.{refl, ap, ◌∙◌}
use mathlib.Core.Bool.{Bool, ◌||◌}
use Rattle.cells.specs.Table.{any_slot, masked}
use Rattle.cells.specs.State.{state_of}
use Rattle.cells.specs.Reading.{slots_at}
use Rattle.cells.specs.Work.{holding, work_as}
use Rattle.cells.proofs.Steps.{step-worked, step-slept}
use Rattle.cells.proofs.families.flop_step.Goals as goal

pub returns-then-full-named : goal.returns-then-full-named
unfolding work_as
returns-then-full-named c =
    let a = c.args in
    let is = ap (λ (b : Bool). a.edited || b) (c.wakes.ensures ∙ ap (λ (p : Bool). p || any_slot (masked a.levels (slots_at a.seen.now.moved a.cell.slots))) c.clocked.ensures) in
    step-worked _ _ _ (state_of a.cell) _ _ is _ _ c.if-full-named.true (λ out. ap (holding (state_of a.cell)) c.flop.ensures) refl

pub returns-else-full-named : goal.returns-else-full-named
returns-else-full-named c =
    let a = c.args in
    let is = ap (λ (b : Bool). a.edited || b) (c.wakes.ensures ∙ ap (λ (p : Bool). p || any_slot (masked a.levels (slots_at a.seen.now.moved a.cell.slots))) c.clocked.ensures) in
    step-slept _ _ _ (state_of a.cell) _ _ is _ c.slept.ensures c.if-full-named.false
