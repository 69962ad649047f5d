-- `card::edits::put_cell` meets its contract: one element is replaced, and its bit of the edits set, where the pointer is at a cell.
use Rattle.std.proofs.Common.{sym, ◌∙◌, arith}
use Rattle.card.specs.Address.{first_cell}
use Rattle.card.proofs.Places.{among-bounds, cells-most}
use Rattle.card.proofs.edits.put_cell.Goals as goal

pub bounds-next-at : goal.bounds-next-at
bounds-next-at c =
    let here = sym c.is_cell.ensures ∙ c.if-is_cell.true in
    omega (arith, among-bounds first_cell _ c.args.card.pointer here, cells-most c.args.card.size)

pub with_set-requires : goal.with_set-requires
with_set-requires c =
    let here = sym c.is_cell.ensures ∙ c.if-is_cell.true in
    omega (arith, among-bounds first_cell _ c.args.card.pointer here, cells-most c.args.card.size)
