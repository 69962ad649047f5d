-- `wiring::parts::put_slots` meets its contract: each used slot is a part of the line, and the line ends.
use mathlib.Core.Path.{◌≡◌, refl, sym, ap}
use mathlib.Core.List.{[]}
use native.Mathlib.Nat.{add-zero}
use native.Mathlib.Omega.{arith}
use borrow.Author.Tests.{not-true, not-false}
use Rattle.cells.specs.declared.table.Row.{Row}
use Rattle.cells.specs.Table.{row_of}
use Rattle.grammar.specs.declared.grammar.Slot.TheVariants.{X, Y, Z, F}
use Rattle.grammar.specs.Grammar.{CCB}
use Rattle.grammar.specs.Texts.{card_line}
use Rattle.wiring.specs.Parts.{part}
use Rattle.wiring.proofs.PartLaws.{Placed, placed-then, placed-as, LF, pair, no-slots, slot-parts}
use borrow.Author.Rules.{rules}
use Rattle.wiring.proofs.parts.put_slots.Statement.{statement}
use Rattle.wiring.proofs.parts.put_slots.Tie as tie

-- the set that the table gives
known : (c : tie.After-row_of-row) → c.row_of-row.result.used ≡ (row_of c.args.cell.kind).used
known c = ap (λ (r : Row). r.used) c.row_of-row.ensures

returns : tie.Need-returns-then-not-used
returns c =
    let a = c.args in
    let none = no-slots a.cell c.row_of-row.result.used (ap (λ (r : Row). r.used) c.row_of-row.ensures) (not-true _ c.if-not-used.true-raw) in
    rw (sym none) (refl, (sym (add-zero a.at), omega arith))

put-requires-4 : tie.Need-put-end-requires
put-requires-4 c κs = (
  omega (arith, c.wide-4.ensures.1),
  omega (arith, c.put-f.ensures.1.1, c.put-z.ensures.1.1, c.put-y.ensures.1.1, c.copy-x.ensures.1, c.requires),
)

copy-requires-2 : tie.Need-copy-requires
copy-requires-2 c κs =
    let to-f = c.put-end.ensures.1.1 in
    let to-z = c.put-f.ensures.1.1 in
    omega (arith, c.copy-arg-3-1.given, to-f, to-z, c.put-z.ensures.1.1, c.put-y.ensures.1.1, c.copy-x.ensures.1, c.requires)

returns-2 : tie.Need-returns
returns-2 c =
    let a = c.args in
    let used = c.row_of-row.result.used in
    let x = c.wide in
    let y = c.wide-2 in
    let z = c.wide-3 in
    let f = c.wide-4 in
    let first : Placed a.out.now a.at _ (card_line CCB) _ = record { bytes = c.copy-x.ensures.0; at-end = c.copy-x.ensures.1 } in
    let to-x = placed-then first (part used.x (pair X) x.result []) c.put-y.ensures.0 c.put-y.ensures.1.0 in
    let to-y = placed-then to-x (part used.y (pair Y) y.result []) c.put-z.ensures.0 c.put-z.ensures.1.0 in
    let to-z = placed-then to-y (part used.z (pair Z) z.result []) c.put-f.ensures.0 c.put-f.ensures.1.0 in
    let to-f = placed-then to-z (part used.f (pair F) f.result []) c.put-end.ensures.0 c.put-end.ensures.1.0 in
    let all = placed-then to-f LF c.copy.ensures.0 c.copy.ensures.1 in
    let some = not-false _ c.if-not-used.false-raw in
    let text =
    slot-parts a.cell used (ap (λ (r : Row). r.used) c.row_of-row.ensures) x.result y.result z.result f.result x.ensures.0 y.ensures.0 z.ensures.0 f.ensures.0 some in
    let whole = placed-as text all in (
      whole.bytes,
      (
        whole.at-end,
        omega (
          arith,
          c.copy.ensures.1,
          c.put-end.ensures.1.1,
          c.put-f.ensures.1.1,
          c.put-z.ensures.1.1,
          c.put-y.ensures.1.1,
          c.copy-x.ensures.1,
        ),
      ),
    )

pub put_slots_spec : {M : Type 1} → statement M
put_slots_spec =
    tie.close
    (tie.spec
    (λ c. search rules)
    returns
    (λ c. search rules)
    (λ c. search rules)
    (λ c. search rules)
    (λ c. search rules)
    (λ c. search rules)
    (λ c. search rules)
    (λ c. search rules)
    (λ c. search rules)
    (λ c. search rules)
    (λ c. search rules)
    (λ c. search rules)
    (λ c. search rules)
    put-requires-4
    copy-requires-2
    returns-2)
