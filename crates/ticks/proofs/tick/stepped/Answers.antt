-- `ticks::tick::stepped` meets its contract: the slots read from the words what they read by the
-- views, and move where the readings disagree.
use Prim.Native.Nat.{ℕ}
use mathlib.Core.Path.{◌≡◌, ap, subst, ◌∙◌}
use mathlib.Core.Bool.{Bool, ◌||◌}
use Rattle.cells.specs.declared.table.Slots.{Slots}
use Rattle.cells.specs.declared.cell.State.{State}
use Rattle.cells.specs.declared.step.Stepped.{Stepped}
use Rattle.cells.specs.State.{state_of}
use Rattle.cells.specs.Effect.{StepsTo}
use Rattle.cells.specs.Wake.{stirred, moved, wakes}
use Rattle.cells.specs.Work.{looked_at, work_out}
use Rattle.cells.proofs.Laws.{moved-disagree}
use Rattle.ticks.specs.Reading.{slots_read}
use Rattle.ticks.proofs.Words.{Bytes, slots-as, slots-moved}
use borrow.Author.Rules.{rules}
use Rattle.ticks.proofs.tick.stepped.Goals as goal

-- what is asked, by the readings of the definition
as-asked : (t : Stepped) (full edited : Bool) (kind config : ℕ) (s : State) (r m now d : Slots) (b : Bool)
    → StepsTo t full (edited || (stirred kind s r || moved kind m)) s (work_out kind config s r) (looked_at kind r) → r ≡ now → m ≡ d → moved kind d ≡ b
    → StepsTo t full (edited || (stirred kind s now || b)) s (work_out kind config s now) (looked_at kind now)
as-asked t full edited kind config s r m now d b h er em eb =
    subst (λ (x : Slots). StepsTo t full (edited || (stirred kind s x || b)) s (work_out kind config s x) (looked_at kind x)) er
    (subst (λ (x : Bool). StepsTo t full (edited || (stirred kind s r || x)) s (work_out kind config s r) (looked_at kind r)) (ap (moved kind) em ∙ eb) h)

pub returns : goal.returns
unfolding wakes
returns c f g h r m =
    let a = c.args in
    let kind = a.cell.kind in
    let bytes : Bytes a.cell.slots =
    record {
      at_x = search rules;
      at_y = search rules;
      at_z = search rules;
      at_f = search rules;
    } in
    let now = slots-as f g a.seen.now.reads a.cell.slots r bytes in
    let other = slots-moved f g h a.seen.now.moved a.cell.slots m bytes in
    as-asked _ a.full a.edited kind a.cell.config (state_of a.cell) _ _ _ _ _ c.step.ensures now other (moved-disagree kind
    (slots_read f g a.cell.slots) (slots_read g h a.cell.slots))
