-- `saved::record::put_cells` meets its contract: after i turns the fields of the first i cells are stored.
use Prim.Native.Nat.{ℕ}
use mathlib.Core.Path.{◌≡◌, refl, ap, ◌∙◌}
use mathlib.Core.List.{List}
use native.Mathlib.Omega.{arith}
use lib.ListN.{length, take, get_or}
use lib.Seq.{sets}
use borrow.Author.Rules.{rules}
use Rattle.card.specs.Fresh.{no_cell}
use Rattle.saved.specs.Record.{trigger_length, cell_length, cell_field, fields_from}
use Rattle.saved.proofs.Fields.{fields-none, fields-stored-next}
use Rattle.saved.proofs.Forms.{cell-inside}
use Rattle.saved.proofs.record.put_cells.Goals as goal

pub loop-i-init : goal.loop-i-init
loop-i-init c =
    let a = c.args in
    fields-none (cell_field a.width) (cell_length a.width) trigger_length (length a.out.now) a.n a.cells a.out.now refl

pub overflow_mul-at : goal.overflow_mul-at
overflow_mul-at c =
    let l = c.loop-i in
    let a = c.args in
    omega (arith, cell-inside a.n a.width l.i (omega arith))

pub overflow_add-at : goal.overflow_add-at
overflow_add-at c =
    let l = c.loop-i in
    let a = c.args in
    omega (arith, cell-inside a.n a.width l.i (omega arith))

pub put_cell-requires : goal.put_cell-requires
put_cell-requires c =
    let l = c.loop-i in
    let a = c.args in record {
      width_in_bounds = omega (arith, cell-inside a.n a.width l.i (omega arith));
      width_le_config_width = search rules;
      i_lt_cell_room = search rules;
    }

pub loop-i-preserved : goal.loop-i-preserved
loop-i-preserved c =
    let a = c.args in
    let l = c.loop-i in
    let put = c.put_cell in
    let field = cell_field a.width in
    fields-stored-next field (cell_length a.width) trigger_length l.i a.cells no_cell (field l.i (get_or a.cells l.i no_cell)) (search rules) refl
    l.invariant.2 (length a.out.now) a.n a.out.now l.out _ _ l.invariant (search rules) put.ensures.cell_len refl put.ensures.out_after

pub returns : goal.returns
returns c =
    let l = c.loop-i in
    let a = c.args in
    let end : l.i ≡ a.n = omega arith in
    let fields : ℕ → List ℕ = λ k. fields_from (cell_field a.width) 0 (take k a.cells) in record {
      out_after = l.invariant.1 ∙ ap (λ (k : ℕ). sets a.out.now trigger_length (fields k)) end;
      cells_len = rw end at l.invariant.2;
    }
