-- `plchart::put_chart` meets its contract: after a turns the rows of the first a addresses are written.
use Prim.Native.Nat.{ℕ}
use mathlib.Core.Path.{◌≡◌, subst, ◌∙◌}
use native.Mathlib.Nat.{zero-add}
use native.Mathlib.Omega.{arith}
use Rattle.text.proofs.Stores.{Placed}
use Rattle.card.specs.Address.{cell_count, cells_for, address_count}
use Rattle.plchart.specs.Rows.{rows_below}
use Rattle.plchart.proofs.RowLaws.{written_none, written_next}
use borrow.Author.Rules.{rules}
use Rattle.plchart.proofs.put_chart.Goals as goal

pub loop-a-init : goal.loop-a-init
loop-a-init c = written_none

pub put_row-at-requires : goal.put_row-at-requires
put_row-at-requires c = omega (arith, c.loop-a.invariant.within)

pub loop-a-preserved : goal.loop-a-preserved
unfolding cells_for
loop-a-preserved c =
    let l = c.loop-a in
    let r = c.put_row-at.ensures in
    written_next c.entry_of.result l.invariant (search rules) c.entry_of.ensures r.out_after r.value r.upper_bound

pub returns : goal.returns
returns c =
    let l = c.loop-a in
    let end : l.a ≡ address_count = omega arith in
    let whole = subst (λ (a : ℕ). Placed c.args.out.now 0 l.out (rows_below cell_count a) l.at) end l.invariant.placed in record {
      out_after = whole.bytes;
      value = whole.at-end ∙ zero-add _;
      upper_bound = omega (arith, l.invariant.within, end);
    }
