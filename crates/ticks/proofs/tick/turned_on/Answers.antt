-- `ticks::tick::turned_on` meets its contract: the cells are turned under the lines.
use Prim.Native.Nat.{ℕ}
use mathlib.Core.Path.{sym, ap, subst, ◌∙◌}
use Rattle.card.specs.declared.card.Memory.{Memory}
use Rattle.ticks.specs.Tick.{ticked_on}
use Rattle.ticks.specs.Words.{FitsMemory}
use Rattle.ticks.proofs.Trim.{trim-fits, whole-tick-on}
use Rattle.ticks.proofs.tick.turned_on.Goals as goal

pub turn_each-requires : goal.turn_each-requires
turn_each-requires c =
    let n = c.cells_for-n.result in record {
      n_le_cell_room = c.cells_for-n.ensures.upper_bound;
      fits_memory = subst (λ (v : Memory). FitsMemory n v) (sym c.seen_memory-m.ensures) (trim-fits n c.args.card.memory);
    }

pub returns : goal.returns
returns c =
    let a = c.args in
    let n = c.cells_for-n.result in
    c.turn_each.ensures ∙ whole-tick-on n a.full a.card c.seen_memory-m.result a.l c.seen_memory-m.ensures
    ∙ ap (λ (k : ℕ). ticked_on k a.full a.card a.l) c.cells_for-n.ensures.value
