-- `reasons::reasons_at` meets its contract: the slots read from the words what they read by the views of the two ticks.
use mathlib.Core.Path.{◌∙◌}
use Rattle.reasons.specs.CellReasons.{reasons_of}
use Rattle.ticks.specs.Tick.{sees_now, saw_last, saw_earlier, read_now, read_last}
use Rattle.ticks.proofs.Words.{Bytes, slots-as}
use Rattle.reasons.specs.Reasons.{reasons_at}
use borrow.Author.Rules.{rules}
use Rattle.reasons.proofs.reasons_at.Goals as goal

pub returns : goal.returns
unfolding reasons_at read_now read_last
returns c =
    let a = c.args in
    let pre = c.requires in
    let cell = a.cell in
    let now = sees_now a.n a.i a.w a.below in
    let last = saw_last a.n a.i a.w in
    let bytes : Bytes cell.slots =
    record {
      at_x = search rules;
      at_y = search rules;
      at_z = search rules;
      at_f = search rules;
    } in
    let reads = c.read_slots-now.ensures ∙ slots-as now last _ cell.slots (c.words_now-q.ensures a.n pre.n_le_cell_room pre.below_bound pre.fits) bytes in
    let read = c.read_slots-last.ensures
    ∙ slots-as last (saw_earlier a.n a.i a.w) _ cell.slots (c.words_last-p.ensures a.n pre.n_le_cell_room pre.fits) bytes in
    c.reasons_of.ensures
    ∙ (λ k. reasons_of cell.kind (c.from.ensures k) (c.bit-is_edited.ensures k) (reads k) (read k))
