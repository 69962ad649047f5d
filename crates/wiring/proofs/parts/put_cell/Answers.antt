-- `wiring::parts::put_cell` meets its contract: three lines of one number, the third where the type has a configuration, and the slots.
use Rattle.std.specs.Prelude.{is_some}
use Prim.Native.Nat.{ℕ, ◌+◌}
use mathlib.Core.Path.{◌≡◌, ap, ◌∙◌}
use mathlib.Core.Bool.{Bool, true}
use mathlib.Core.List.{◌++◌}
use native.Mathlib.Omega.{arith}
use Rattle.cells.specs.declared.table.Row.{Row}
use Rattle.card.specs.Address.{first_cell}
use Rattle.grammar.specs.declared.grammar.Slot.TheVariants.{Y, Z}
use Rattle.grammar.specs.Grammar.{M-E=}
use Rattle.wiring.specs.Parts.{part, slots_text}
use Rattle.wiring.proofs.PartLaws.{Placed, placed-then, placed-as, LF, cca, cell_parts}
use Rattle.wiring.proofs.parts.put_cell.Goals as goal

pub returns : goal.returns
returns c =
    let a = c.args in
    let number : a.i + first_cell ≡ first_cell + a.i = omega arith in
    let move = ap (λ (v : ℕ). part true M-E= v LF) number in
    let two = part true M-E= (first_cell + a.i) LF ++ part true (cca Y) a.cell.kind LF in
    let has = c.is_some.ensures ∙ ap (λ (w : Row). is_some w.largest) c.row_of-row.ensures in
    let set = ap (λ (b : Bool). two ++ part b (cca Z) a.cell.config LF) has in
    let first : Placed a.out.now a.at _ _ _ = record { bytes = c.put-y.ensures.out_after; at-end = c.put-y.ensures.value } in
    let typed = placed-then (placed-as move first) (part true (cca Y) a.cell.kind LF) c.put-z.ensures.out_after c.put-z.ensures.value in
    let config = placed-then typed (part c.is_some.result (cca Z) a.cell.config LF) c.put-x.ensures.out_after c.put-x.ensures.value in
    let slotted = placed-then (placed-as set config) (slots_text a.cell) c.put_slots.ensures.out_after c.put_slots.ensures.value in
    let whole = placed-as (cell_parts a.cell a.i) slotted in record {
      out_after = whole.bytes;
      value = whole.at-end;
      upper_bound = omega (arith, c.put_slots.ensures.upper_bound, c.put-x.ensures.upper_bound, c.put-z.ensures.upper_bound, c.put-y.ensures.upper_bound);
    }
