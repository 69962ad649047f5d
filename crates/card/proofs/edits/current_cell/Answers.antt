-- `card::edits::current_cell` meets its contract: the test is whether the pointer is at one.
use Rattle.std.proofs.Common.{sym, ◌∙◌, arith}
use Rattle.card.specs.Address.{first_cell}
use Rattle.card.proofs.Places.{among-bounds, cells-most}
use Rattle.card.proofs.edits.current_cell.Goals as goal

pub overflow_sub-at : goal.overflow_sub-at
overflow_sub-at c = (among-bounds first_cell _ _ (sym c.is_cell.ensures ∙ c.if-is_cell.true)).0

pub bounds-card-at : goal.bounds-card-at
bounds-card-at c =
    let here = sym c.is_cell.ensures ∙ c.if-is_cell.true in
    omega (arith, among-bounds first_cell _ c.args.card.pointer here, cells-most c.args.card.size)
