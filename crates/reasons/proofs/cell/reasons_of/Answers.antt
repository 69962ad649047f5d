-- `reasons::cell::reasons_of` meets its contract: each reason is its callee's answer, by the type's row.
use mathlib.Core.Path.{ap, ap₂, ◌∙◌}
use Rattle.cells.specs.declared.table.Slots.{Slots}
use Rattle.cells.specs.declared.table.Row.{Row}
use Rattle.cells.specs.Table.{masked, level_slots}
use Rattle.cells.specs.Wake
use Rattle.reasons.specs.CellReasons.{clock_as, has_triggers, reasons_from, reasons_of}
use Rattle.reasons.proofs.cell.reasons_of.Goals as goal

pub returns : goal.returns
unfolding reasons_of
returns c =
    let a = c.args in
    let row = c.row_of-row.ensures in
    let moved = c.differing.ensures ∙ ap (λ (s : Slots). Wake.differing s a.now a.last) (c.level_slots.ensures ∙ ap level_slots row) in
    let now = c.within-r.ensures ∙ ap (λ (v : Row). masked v.used a.now) row in
    let clock = c.clock_as.ensures ∙ ap₂ (λ (v : Row) (r : Slots). clock_as v.class a.s r) row now in
    let triggers = c.has_triggers-triggers.ensures ∙ ap (λ (v : Row). has_triggers v.class) row in
    λ i. reasons_from a.edited (moved i) (now i) (clock i) (triggers i)
