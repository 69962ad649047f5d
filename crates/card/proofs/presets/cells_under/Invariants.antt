-- `card::presets::cells_under` meets its contract: after i turns the first i cells are those under the row.
use Rattle.std.proofs.Common.{◌≡◌, ℕ, ◌-◌, ◌≤◌, List, ◌++◌, get_or, drop}
use mathlib.Core.Option
use Rattle.words.specs.Listed.{listed}
use Rattle.cells.specs.declared.cell.Cell.{Cell}
use Rattle.card.specs.Fresh.{no_cell}
use Rattle.card.specs.PresetRows.{cell_under}
use Rattle.card.proofs.presets.cells_under.Given as goal

-- the cell at an index under the two rows
abbrev pub under : ℕ → ℕ → List Cell → ℕ → Cell
under a b cells i = Option.get_or (cell_under a b i) (get_or cells i no_cell)

abbrev pub invariant-loop-i : goal.invariant-loop-i
invariant-loop-i l = (l.i ≤ l.n) × (l.next ≡ listed (under l.row.0 l.row.1 l.cells) l.i ++ drop l.i l.cells)

abbrev pub decreases-loop-i : goal.decreases-loop-i
decreases-loop-i l = l.n - l.i
