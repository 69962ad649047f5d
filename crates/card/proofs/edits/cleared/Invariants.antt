-- `card::edits::cleared` meets its contract: after some turns the first cells are cleared.
use Rattle.std.proofs.Common.{◌≡◌}
use Rattle.card.specs.Edits.{cleared_cells}
use Rattle.card.proofs.edits.cleared.Given as goal

abbrev pub invariant-loop-cell : goal.invariant-loop-cell
invariant-loop-cell l = l.cell-items ≡ cleared_cells l.cell-index l.initial.cell-items
