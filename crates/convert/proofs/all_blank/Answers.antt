-- `convert::all_blank` meets its contract: after i turns the first i cells above those of a small card are tested.
use Prim.Native.Nat.{ℕ, ◌+◌, ◌<◌, zero-le}
use mathlib.Core.Path.{◌≡◌, refl, sym, ap, ◌∙◌}
use native.Mathlib.Omega.{arith}
use lib.ListN.{length, take, drop, length-drop}
use lib.Seq.{get_or-drop}
use borrow.Author.Rules.{rules}
use Rattle.card.specs.Address.{cell_count}
use Rattle.card.specs.Fresh.{no_cell}
use Rattle.text.specs.Digits.{every}
use Rattle.card.proofs.Settings.{tested-next}
use Rattle.convert.specs.Convert.{is_blank}
use Rattle.convert.proofs.all_blank.Goals as goal

pub loop-i-init : goal.loop-i-init
unfolding every
loop-i-init c = (zero-le, refl)

pub loop-i-preserved : goal.loop-i-preserved
unfolding is_blank
loop-i-preserved c =
    let l = c.loop-i in
    let a = c.args in
    let cells = a.cells in
    let inside : cell_count + l.i < length cells = search rules in
    let there = ap is_blank (sym (get_or-drop cell_count cells l.i no_cell)) in
    tested-next is_blank a.n l.i (drop cell_count cells) no_cell _ _ l.invariant (omega arith) (omega (arith, length-drop cell_count cells)) there

pub returns : goal.returns
returns c =
    let l = c.loop-i in
    let a = c.args in
    let end : l.i ≡ a.n = omega arith in
    l.invariant.1 ∙ ap (λ (k : ℕ). every is_blank (take k (drop cell_count a.cells))) end
