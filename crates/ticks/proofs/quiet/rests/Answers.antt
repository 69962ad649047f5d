-- `ticks::quiet::rests` meets its contract: a type without edge slots is never stirred, and for any
-- other the test is made.
use mathlib.Core.Path.{sym, ap, ap₂, ◌∙◌}
use mathlib.Core.Bool.{not}
use borrow.Author.Tests.{not-true}
use Rattle.words.specs.Bits.{bit_at}
use Rattle.cells.specs.Wake.{stirred}
use Rattle.cells.proofs.Laws.{edgeless-still}
use Rattle.ticks.proofs.Words.{Bytes, slots-as}
use borrow.Author.Rules.{rules}
use Rattle.ticks.proofs.quiet.rests.Goals as goal

pub returns-then-not-has_edges : goal.returns-then-not-has_edges
returns-then-not-has_edges c =
    let e = c.has_edges in
    ap not (sym (edgeless-still c.args.cell.kind (sym e.ensures ∙ not-true _ c.if-not-has_edges.true-raw) _ _))

pub returns : goal.returns
returns c =
    let a = c.args in
    let bytes : Bytes a.cell.slots =
    record {
      at_x = search rules;
      at_y = search rules;
      at_z = search rules;
      at_f = search rules;
    } in
    let now = slots-as (bit_at a.view) (bit_at a.view) _ a.cell.slots c.quarters-q.ensures bytes in
    ap not (c.stirred.ensures ∙ ap₂ (stirred a.cell.kind) c.from.ensures (c.read_slots.ensures ∙ now))
