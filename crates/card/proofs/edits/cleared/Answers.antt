-- `card::edits::cleared` meets its contract: one cell more is cleared.
use Rattle.std.proofs.Common.{take, get_or}
use Rattle.std.proofs.lemmas.List.{get_or_default}
use Rattle.std.proofs.lemmas.List.Edits.{map_over_more}
use Rattle.card.specs.Fresh.{no_cell}
use Rattle.card.specs.Edits.{cleared_cell}
use Rattle.card.proofs.edits.cleared.Goals as goal

pub loop-cell-preserved : goal.loop-cell-preserved
loop-cell-preserved c =
    let l = c.loop-cell in
    let cell = get_or l.cell-items l.cell-index no_cell in
    let h = c.loop-cell-test.true in
    rw c.cleared_cell.ensures
    (map_over_more cleared_cell (take c.args.n c.args.cells) l.cell-items l.cell-index cell h l.invariant
    (get_or_default l.cell-items l.cell-index no_cell cell (rw (c.loop-cell.auto.cell-items) h)))
