-- `ticks::tick::full_tick` meets its contract: idle where the clock is not the chosen trigger
-- source; else the connectors and then the cells are those of the definition.
use Prim.Native.Nat.{ℕ}
use mathlib.Core.Path.{sym, ap, subst, ◌∙◌}
use mathlib.Core.Bool.{true}
use borrow.Author.Tests.{not-true, not-false}
use Rattle.card.specs.declared.card.Memory.{Memory}
use Rattle.ticks.specs.Tick.{ticked, tick}
use Rattle.ticks.specs.Words.{FitsMemory}
use Rattle.ticks.proofs.Trim.{trim-fits, whole-tick}
use Rattle.ticks.proofs.tick.full_tick.Goals as goal

pub returns-then-not-is_own : goal.returns-then-not-is_own
unfolding tick
returns-then-not-is_own c =
    rw (sym c.is_own.ensures ∙ not-true _ c.if-not-is_own.true-raw) c.idle.ensures

pub turn_each-requires : goal.turn_each-requires
turn_each-requires c =
    let n = c.cells_for-n.result in record {
      n_le_cell_room = c.cells_for-n.ensures.upper_bound;
      fits_memory = subst (λ (v : Memory). FitsMemory n v) (sym c.seen_memory-m.ensures)
          (trim-fits n c.args.card.memory);
    }

pub returns : goal.returns
unfolding tick
returns c =
    let a = c.args in
    let n = c.cells_for-n.result in
    let fits = subst (λ (v : Memory). FitsMemory n v) (sym c.seen_memory-m.ensures) (trim-fits n a.card.memory) in
    rw (sym c.is_own.ensures ∙ not-false _ c.if-not-is_own.false-raw)
    (c.turn_each.ensures
    ∙ whole-tick n true a.card a.input c.seen_memory-m.result c.lines_in-l.result c.seen_memory-m.ensures
    (c.lines_in-l.ensures n c.cells_for-n.ensures.upper_bound fits)
    ∙ ap (λ (m : ℕ). ticked m true a.card a.input) c.cells_for-n.ensures.value)
