-- `plchart::put_field` meets its contract: the digits, and the mark after them.
use Prim.Native.Nat.{◌+◌, ◌≤◌}
use mathlib.Core.Path.{refl}
use mathlib.Core.List.{[], ◌∷◌}
use native.Mathlib.Omega.{arith}
use lib.Dec.{lit≤}
use Rattle.text.specs.Decimal.{decimal, max_digits}
use Rattle.text.proofs.DecimalLaws.{decimal-length}
use Rattle.text.proofs.Stores.{Placed, placed-then}
use Rattle.plchart.specs.Rows.{field_text, field_most}
use borrow.Author.Rules.{rules}
use Rattle.plchart.proofs.put_field.Goals as goal
use Rattle.plchart.proofs.put_field.Goals.{After-put_decimal-end}

-- the digits leave room for it
digits-end : (c : After-put_decimal-end) → c.put_decimal-end.result + 1 ≤ c.args.at + field_most
digits-end c =
    omega (arith, decimal-length c.args.v max_digits (lit≤ tt) (search rules), c.put_decimal-end.ensures.value)

pub bounds-out-end : goal.bounds-out-end
bounds-out-end c = omega (arith, digits-end (goal.at.bounds-out-end c).After-put_decimal-end, c.requires)

pub overflow_add-result : goal.overflow_add-result
overflow_add-result c = omega (arith, digits-end (goal.at.overflow_add-result c).After-put_decimal-end, c.requires)

pub returns : goal.returns
unfolding field_text
returns c =
    let digits : Placed c.args.out.now c.args.at _ (decimal c.args.v) _
    = record { bytes = c.put_decimal-end.ensures.out_after; at-end = c.put_decimal-end.ensures.value } in
    let field = placed-then digits (c.args.mark ∷ []) refl refl in record {
      out_after = field.bytes;
      value = field.at-end;
      upper_bound = digits-end (goal.at.returns c).After-put_decimal-end;
    }
