-- `cells::table::row_of` meets its contract: each column is its callee's answer, and what a type
-- keeps follows from its class.
use mathlib.Core.Path.{sym, ap, ◌∙◌}
use Rattle.cells.specs.Table.{kept_by}
use Rattle.cells.proofs.Rows.{row_keeps}
use Rattle.cells.proofs.table.row_of.Goals as goal

pub returns : goal.returns
returns c =
    let n = c.args.kind in
    let kept = c.kept_by.ensures ∙ ap kept_by c.class_of-class.ensures ∙ sym (row_keeps n) in
    λ i. record {
      used = c.used_of.ensures i;
      edge = c.edge_of.ensures i;
      largest = c.largest_of.ensures i;
      class = c.class_of-class.ensures i;
      kept = kept i;
    }
