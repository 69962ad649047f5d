-- `plchart::put_row` meets its contract: five fields, one after the other.
use Prim.Native.Nat.{◌+◌, ◌≤◌}
use mathlib.Core.Path.{◌≡◌, ◌∙◌}
use mathlib.Core.List.{◌++◌, append_assoc}
use native.Mathlib.Omega.{arith}
use mir.Val.{bool_byte}
use Rattle.text.proofs.Stores.{Placed, placed-then, placed-as}
use Rattle.plchart.specs.Rows.{field_text, blank, line_feed, row_most}
use Rattle.plchart.proofs.RowLaws.{row-bits}
use Rattle.plchart.proofs.put_row.Goals as goal

pub returns : goal.returns
returns c =
    let a = c.args in
    let e = a.e in
    let address = field_text a.a blank in
    let base = field_text e.base blank in
    let inverted = field_text (bool_byte e.inverted) blank in
    let edge = field_text (bool_byte e.edge) blank in
    let permitted = field_text (bool_byte e.permitted) line_feed in
    let first : Placed a.out.now a.at _ address _ = record { bytes = c.put_field-base.ensures.out_after; at-end = c.put_field-base.ensures.value } in
    let second = placed-then first base c.put_field-inverted.ensures.out_after c.put_field-inverted.ensures.value in
    let third = placed-then second inverted c.put_field-edge.ensures.out_after c.put_field-edge.ensures.value in
    let fourth = placed-then third edge c.put_field-permitted.ensures.out_after c.put_field-permitted.ensures.value in
    let fifth = placed-then fourth permitted c.put_field.ensures.out_after c.put_field.ensures.value in
    let flat : (((address ++ base) ++ inverted) ++ edge) ++ permitted ≡ address ++ (base ++ (inverted ++ (edge ++ permitted))) = simp append_assoc in
    let row = placed-as (flat ∙ row-bits a.a e) fifth in
    let size : c.put_field.result ≤ a.at + row_most = omega (
      arith,
      c.put_field-base.ensures.upper_bound,
      c.put_field-inverted.ensures.upper_bound,
      c.put_field-edge.ensures.upper_bound,
      c.put_field-permitted.ensures.upper_bound,
      c.put_field.ensures.upper_bound,
    ) in record {
      out_after = row.bytes;
      value = row.at-end;
      upper_bound = size;
    }
