-- `cells::table::edge_of` meets its contract: the code's column is, entry by entry, what document
-- 01's table gives, which antt computes; past it the number has no row.
use mathlib.Core.Path.{sym, ap}
use borrow.Author.Rules.{rules}
use Rattle.words.specs.Listed.{listed}
use Rattle.words.proofs.Listed.{listed_at}
use Rattle.cells.specs.declared.table.Row.{Row}
use Rattle.cells.specs.Table.{row_of, type_count, no_slot}
use Rattle.cells.proofs.Rows.{past-table}
use Rattle.cells.proofs.table.edge_of.Goals as goal

pub returns-then-n-lt-TYPES : goal.returns-then-n-lt-TYPES
unfolding listed row_of
returns-then-n-lt-TYPES c = listed_at (λ k. (row_of k).edge) type_count c.args.kind no_slot (search rules)

pub returns-else-n-lt-TYPES : goal.returns-else-n-lt-TYPES
returns-else-n-lt-TYPES c = sym (ap (λ (r : Row). r.edge) (past-table c.args.kind (search rules)))
