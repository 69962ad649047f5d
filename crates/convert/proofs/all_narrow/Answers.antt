-- `convert::all_narrow` meets its contract: after i turns the first i cells are tested.
use Prim.Native.Nat.{ℕ, zero-le}
use mathlib.Core.Path.{◌≡◌, refl, ap, ◌∙◌}
use native.Mathlib.Omega.{arith}
use lib.ListN.{take}
use borrow.Author.Rules.{rules}
use Rattle.card.specs.Fresh.{no_cell}
use Rattle.text.specs.Digits.{every}
use Rattle.card.proofs.Settings.{tested-next}
use Rattle.convert.specs.Convert.{narrow_cell}
use Rattle.convert.proofs.all_narrow.Goals as goal

pub loop-i-init : goal.loop-i-init
unfolding every
loop-i-init c = (zero-le, refl)

pub loop-i-preserved : goal.loop-i-preserved
unfolding narrow_cell
loop-i-preserved c =
    let l = c.loop-i in
    let a = c.args in
    tested-next narrow_cell a.n l.i a.cells no_cell _ _ l.invariant (omega arith) (search rules) refl

pub returns : goal.returns
returns c =
    let l = c.loop-i in
    let a = c.args in
    let end : l.i ≡ a.n = omega arith in
    l.invariant.1 ∙ ap (λ (k : ℕ). every narrow_cell (take k a.cells)) end
