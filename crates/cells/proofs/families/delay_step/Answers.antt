-- `cells::families::delay_step` meets its contract: what is asked is what the definition asks, and the
-- work is its callee's.
use mathlib.Core.Path.{refl, ap, ◌∙◌}
use mathlib.Core.Bool.{Bool, ◌||◌}
use Rattle.cells.specs.declared.table.Slots.{Slots}
use Rattle.cells.specs.declared.table.Class.TheVariants.{Delay}
use Rattle.cells.specs.Table.{any_slot, masked, only_z}
use Rattle.cells.specs.State.{state_of}
use Rattle.cells.specs.Reading.{slots_at}
use Rattle.cells.specs.Wake.{timer_stirred}
use Rattle.cells.specs.Work.{work_as}
use Rattle.cells.proofs.Steps.{step-worked, step-slept}
use Rattle.cells.proofs.families.delay_step.Goals as goal

pub returns-then-full-named : goal.returns-then-full-named
unfolding work_as
returns-then-full-named c =
    let a = c.args in
    let is = ap (λ (b : Bool). a.edited || b) (c.wakes.ensures ∙ ap (λ (p : Bool). p || any_slot (masked only_z (slots_at a.seen.now.moved a.cell.slots))) (c.timer_stirred.ensures ∙ ap (timer_stirred a.cell.count.0 a.cell.pulse) c.read_used-r.ensures)) in
    step-worked _ _ _ (state_of a.cell) _ _ is _ _ c.if-full-named.true (λ out. c.delay.ensures a.cell.bit out ∙ ap (λ (r : Slots). work_as (Delay a.retrigger) a.cell.config (state_of a.cell) r) c.read_used-r.ensures) refl

pub returns-else-full-named : goal.returns-else-full-named
returns-else-full-named c =
    let a = c.args in
    let is = ap (λ (b : Bool). a.edited || b) (c.wakes.ensures ∙ ap (λ (p : Bool). p || any_slot (masked only_z (slots_at a.seen.now.moved a.cell.slots))) (c.timer_stirred.ensures ∙ ap (timer_stirred a.cell.count.0 a.cell.pulse) c.read_used-r.ensures)) in
    step-slept _ _ _ (state_of a.cell) _ _ is _ c.slept.ensures c.if-full-named.false
