-- `cells::table::class_of` meets its contract past the table.
use mathlib.Core.Path.{sym, ap}
use Rattle.cells.specs.declared.table.Row.{Row}
use Rattle.cells.proofs.Rows.{past-types}
use Rattle.cells.proofs.table.class_of.Goals as goal

pub returns-in_default : goal.returns-in_default
returns-in_default c = sym (ap (λ (r : Row). r.class) (past-types _ c.in_default.in_default-own.rest))
