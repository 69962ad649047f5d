-- `ticks::rest::holds_still` meets its contract.
use mathlib.Core.Path.{ap, ap₂, ◌∙◌}
use mathlib.Core.Bool.{◌&&◌}
use Prim.Native.Nat.{ℕ}
use lib.Dec.{eqb}
use Rattle.ticks.specs.declared.view.Wires.{Wires}
use Rattle.ticks.specs.Rest.{steady}
use Rattle.ticks.proofs.rest.holds_still.Goals as goal

pub returns : goal.returns
returns c =
    let m = c.args.m in
    ap₂ ◌&&◌ (ap (λ (x : ℕ). eqb m.outputs x) c.low.ensures)
    (c.unchanged.ensures ∙ ap (λ (v : Wires). steady v) c.wires_of.ensures)
