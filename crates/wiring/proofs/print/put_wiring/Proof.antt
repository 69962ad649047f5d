-- `wiring::print::put_wiring` meets its contract: the cells, the connectors and the trigger, one after the other.
use Prim.Native.Nat.{ℕ, ◌≤◌}
use mathlib.Core.Path.{ap, ◌∙◌}
use mathlib.Core.Bool.{true}
use native.Mathlib.Nat.{zero-add}
use native.Mathlib.Omega.{arith}
use lib.ListN.{length, take}
use lib.Seq.{sets}
use Rattle.card.specs.Connectors.{each}
use Rattle.grammar.specs.Grammar.{PM-E=}
use Rattle.wiring.specs.Wiring.{cell_commands, connector_commands, commands_from}
use Rattle.wiring.specs.Parts.{commands_text, part, text_most}
use Rattle.wiring.specs.Print.{wiring_text}
use Rattle.wiring.proofs.PartLaws.{Placed, placed-then, placed-as, LF, wiring-parts}
use borrow.Author.Rules.{rules}
use Rattle.wiring.proofs.print.put_wiring.Statement.{statement}
use Rattle.wiring.proofs.print.put_wiring.Tie as tie

returns : tie.Need-returns
returns c =
    let a = c.args in
    let n = c.cells_for-n.result in
    let sized = c.cells_for-n.ensures.0 in
    let cells = commands_text (commands_from cell_commands 0 (take n a.card.cells)) in
    let connectors = commands_text (commands_from connector_commands 0 (each a.card.connectors)) in
    let first : Placed a.out.now 0 _ cells _ = record { bytes = c.put_cells-first.ensures.0; at-end = c.put_cells-first.ensures.1.0 } in
    let listed-row = rw c.each_of-connectors.ensures at c.put_connectors-last.ensures in
    let more = placed-then first connectors listed-row.0 listed-row.1.0 in
    let all = placed-then more (part true PM-E= a.card.trigger LF) c.put.ensures.0 c.put.ensures.1.0 in
    let whole = placed-as (wiring-parts n a.card) all in
    let end = whole.at-end ∙ zero-add (length (wiring_text n a.card)) in
    let most : c.put.result ≤ text_most = omega (arith, c.put.ensures.1.1, c.put_connectors-last.ensures.1.1, c.put_cells-first.ensures.1.1) in
    (whole.bytes ∙ ap (λ (m : ℕ). sets a.out.now 0 (wiring_text m a.card)) sized, (end ∙ ap (λ (m : ℕ). length (wiring_text m a.card)) sized, most))

pub put_wiring_spec : {M : Type 1} → statement M
put_wiring_spec =
    tie.close
    (tie.spec
    (λ c. search rules)
    (λ c. search rules)
    (λ c. search rules)
    (λ c. search rules)
    (λ c. search rules)
    (λ c. search rules)
    returns)
