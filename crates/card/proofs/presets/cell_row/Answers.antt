-- `card::presets::cell_row` meets its contract: two rows of the table, by the test over the whole of it, or rows of zeros.
use Rattle.std.proofs.Common.{◌+◌, ◌*◌, get_or, sym, ◌∙◌, rules}
use Rattle.card.specs.Address.{cell_room}
use Rattle.card.specs.Presets.{preset_cell}
use Rattle.card.specs.PresetRows.{cell_rows, cell_under, CellRows}
use Rattle.card.proofs.PresetRows.{row_at, past-cell, zero_row}
use Rattle.card.proofs.presets.cell_row.Goals as goal

pub returns-then-n-lt-CELL_ROWS : goal.returns-then-n-lt-CELL_ROWS
unfolding CellRows
returns-then-n-lt-CELL_ROWS c =
    let rows = c.cell_rows-rows.result.now in
    row_at (λ v. cell_under (get_or rows (2 * v) 0) (get_or rows (2 * v + 1) 0)) preset_cell cell_rows cell_room
    c.cell_rows-rows.ensures c.args.v (search rules)

pub returns-else-n-lt-CELL_ROWS : goal.returns-else-n-lt-CELL_ROWS
returns-else-n-lt-CELL_ROWS c i h = zero_row i ∙ sym (past-cell c.args.v i (search rules))
