-- `wiring::parts::put_connector` meets its contract: three lines of one number.
use Prim.Native.Nat.{ℕ, ◌+◌}
use mathlib.Core.Path.{◌≡◌, ap}
use mathlib.Core.Bool.{true}
use native.Mathlib.Omega.{arith}
use Rattle.card.specs.Address.{first_connector}
use Rattle.grammar.specs.declared.grammar.Slot.TheVariants.{Y, Z}
use Rattle.grammar.specs.Grammar.{M-E=}
use Rattle.wiring.specs.Parts.{part}
use Rattle.wiring.proofs.PartLaws.{Placed, placed-then, placed-as, LF, cca, connector-parts}
use Rattle.wiring.proofs.parts.put_connector.Goals as goal

pub returns : goal.returns
returns c =
    let a = c.args in
    let number : a.k + first_connector ≡ first_connector + a.k = omega arith in
    let move = ap (λ (v : ℕ). part true M-E= v LF) number in
    let first : Placed a.out.now a.at _ _ _ = record { bytes = c.put-y.ensures.out_after; at-end = c.put-y.ensures.value } in
    let typed = placed-then (placed-as move first) (part true (cca Y) a.c.kind LF) c.put-z.ensures.out_after c.put-z.ensures.value in
    let sourced = placed-then typed (part true (cca Z) a.c.source LF) c.put.ensures.out_after c.put.ensures.value in
    let whole = placed-as (connector-parts a.k a.c) sourced in record {
      out_after = whole.bytes;
      value = whole.at-end;
      upper_bound = omega (arith, c.put.ensures.upper_bound, c.put-z.ensures.upper_bound, c.put-y.ensures.upper_bound);
    }
