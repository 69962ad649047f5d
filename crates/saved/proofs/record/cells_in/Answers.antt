-- `saved::record::cells_in` meets its contract: after i turns the first i entries are those that a load gives.
use Prim.Native.Nat.{ℕ, ◌+◌, ◌≤◌, zero-le}
use mathlib.Core.Path.{◌≡◌, refl, ap, ◌∙◌}
use mathlib.Core.List.{◌++◌}
use native.Mathlib.Nat.{mul-le-mul_right}
use native.Mathlib.Omega.{arith}
use lib.ListN.{drop}
use borrow.Author.Rules.{rules}
use Rattle.words.specs.Listed.{listed}
use Rattle.words.proofs.Listed.{listed_next}
use Rattle.cells.specs.declared.cell.Cell.{Cell}
use Rattle.card.specs.Fresh.{no_cell}
use Rattle.saved.specs.Record.{cell_length, cell_in, normal_cell, load_cells}
use Rattle.saved.proofs.record.cells_in.Goals as goal

pub loop-i-init : goal.loop-i-init
unfolding listed
loop-i-init c = (zero-le, refl)

pub load_cell-requires : goal.load_cell-requires
load_cell-requires c =
    let l = c.loop-i in
    let a = c.args in
    let next : l.i + 1 ≤ a.n = omega arith in record {
      width_in_bounds = omega (arith, mul-le-mul_right (cell_length a.width) next);
      width_le_config_width = search rules;
      i_lt_cell_room = search rules;
    }

pub loop-i-preserved : goal.loop-i-preserved
loop-i-preserved c =
    let l = c.loop-i in
    let a = c.args in
    let f : ℕ → Cell = λ k. normal_cell (cell_in a.width a.bytes.now k) in
    (omega arith, listed_next f l.i a.cells l.next _ no_cell l.invariant.1 c.load_cell.ensures (search rules))

pub returns : goal.returns
returns c =
    let l = c.loop-i in
    let a = c.args in
    let end : l.i ≡ a.n = omega arith in
    l.invariant.1 ∙ ap (λ (k : ℕ). load_cells k a.width a.bytes.now ++ drop k a.cells) end
