-- `ticks::quiet::all_rest` meets its contract: the first n cells, one by one.
use Prim.Native.Nat.{ℕ, zero, suc, ◌+◌, ◌≤◌}
use mathlib.Core.Path.{◌≡◌, refl, ap, ◌∙◌}
use mathlib.Core.Bool.{Bool, ◌&&◌}
use mathlib.Core.List.{List}
use native.Mathlib.Omega.{arith}
use lib.ListN.{get_or, length, take}
use Rattle.std.proofs.Common.{add-one}
use Rattle.std.specs.List.{list_all}
use Rattle.std.proofs.lemmas.List.Folds.{list_all_more}
use Rattle.words.specs.Bits.{bit_at}
use Rattle.cells.specs.declared.cell.Cell.{Cell}
use Rattle.card.specs.Fresh.{no_cell}
use Rattle.ticks.specs.Rest.{cell_rests, all_rest}
use borrow.Author.Rules.{rules}
use Rattle.ticks.proofs.quiet.all_rest.Goals as goal

listed : (n : ℕ) (v : ℕ → Bool) (cells : List Cell) → n ≤ length cells → list_all (cell_rests v) (take n cells) ≡ all_rest n v cells
unfolding all_rest
listed zero v cells h = refl
listed (suc n) v cells h =
    (rw add-one at (list_all_more (cell_rests v) cells n no_cell (omega arith)))
    ∙ ap (λ (b : Bool). b && cell_rests v (get_or cells n no_cell)) (listed n v cells (omega arith))

pub returns : goal.returns
returns c =
    let a = c.args in
    record {
      value = c.rest_among.ensures ∙ listed a.n (bit_at a.view) a.cells (search rules);
      cells_len = search rules;
    }
