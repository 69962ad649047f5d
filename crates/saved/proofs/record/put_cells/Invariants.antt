-- `saved::record::put_cells` meets its contract: after i turns the fields of the first i cells are stored.
use Prim.Native.Nat.{◌-◌}
use lib.ListN.{length}
use Rattle.saved.specs.Record.{trigger_length, cell_length, cell_field}
use Rattle.saved.proofs.Fields.{FieldsStored}
use Rattle.saved.proofs.record.put_cells.Given as goal

abbrev pub invariant-loop-i : goal.invariant-loop-i
invariant-loop-i l = FieldsStored (cell_field l.width) (cell_length l.width) trigger_length (length l.initial.out) l.n l.cells l.initial.out l.out l.i

abbrev pub decreases-loop-i : goal.decreases-loop-i
decreases-loop-i l = l.n - l.i
