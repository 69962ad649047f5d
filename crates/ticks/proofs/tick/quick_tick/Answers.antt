-- `ticks::tick::quick_tick` meets its contract: idle where the clock is not the chosen trigger
-- source; else the connectors are those of the definition, and then the cells, by the law of the
-- fast path where the tick is quiet.
use Prim.Native.Nat.{ℕ, ◌^◌, ◌<◌}
use mathlib.Core.Path.{sym, ap, subst, ◌∙◌}
use mathlib.Core.Bool.{false}
use lib.Pow.{pow_pos}
use borrow.Author.Tests.{not-true, not-false}
use Rattle.card.specs.declared.card.Memory.{Memory}
use Rattle.ticks.specs.declared.view.Wires.{Wires}
use Rattle.ticks.specs.Rest.{slept_all}
use Rattle.ticks.specs.Tick.{ran_with, turned, ticked, tick}
use Rattle.ticks.specs.Words.{FitsMemory}
use Rattle.ticks.proofs.Trim.{trim-fits, whole-tick}
use Rattle.ticks.proofs.tick.quick_tick.Goals as goal

pub returns-then-not-is_own : goal.returns-then-not-is_own
unfolding tick
returns-then-not-is_own c =
    rw (sym c.is_own.ensures ∙ not-true _ c.if-not-is_own.true-raw) c.idle.ensures

pub is_quiet-requires : goal.is_quiet-requires
is_quiet-requires c =
    let n = c.cells_for-n.result in
    let a = c.args in
    let fits = subst (λ (v : Memory). FitsMemory n v) (sym c.seen_memory-m.ensures) (trim-fits n a.card.memory) in record {
      n_le_cell_room = c.cells_for-n.ensures.upper_bound;
      outputs_bound = subst (λ (v : Wires). v.outputs < 2 ^ n) (sym c.wires_of.ensures) fits.0;
    }

pub returns-then-is_quiet : goal.returns-then-is_quiet
unfolding tick
returns-then-is_quiet c =
    let a = c.args in
    let n = c.cells_for-n.result in
    let fits = subst (λ (v : Memory). FitsMemory n v) (sym c.seen_memory-m.ensures) (trim-fits n a.card.memory) in
    let slept = sym (ap (λ (v : Wires). turned n false a.card.cells a.card.edited v) c.wires_of.ensures)
    ∙ c.is_quiet.ensures.w_value c.if-is_quiet.true
    ∙ ap (λ (v : Wires). slept_all a.card.cells v.outputs) c.wires_of.ensures in
    rw (sym c.is_own.ensures ∙ not-false _ c.if-not-is_own.false-raw)
    (c.ran_with.ensures n c.cells_for-n.ensures.upper_bound (pow_pos n) ∙ ap (ran_with n c.seen_memory-m.result a.card c.lines_in-l.result) (sym slept)
    ∙ whole-tick n false a.card a.input c.seen_memory-m.result c.lines_in-l.result c.seen_memory-m.ensures
    (c.lines_in-l.ensures n c.cells_for-n.ensures.upper_bound fits)
    ∙ ap (λ (m : ℕ). ticked m false a.card a.input) c.cells_for-n.ensures.value)

pub turn_each-requires : goal.turn_each-requires
turn_each-requires c =
    let n = c.cells_for-n.result in
    let a = c.args in record {
      n_le_cell_room = c.cells_for-n.ensures.upper_bound;
      fits_memory = subst (λ (v : Memory). FitsMemory n v) (sym c.seen_memory-m.ensures) (trim-fits n a.card.memory);
    }

pub returns : goal.returns
unfolding tick
returns c =
    let a = c.args in
    let n = c.cells_for-n.result in
    let fits = subst (λ (v : Memory). FitsMemory n v) (sym c.seen_memory-m.ensures) (trim-fits n a.card.memory) in
    rw (sym c.is_own.ensures ∙ not-false _ c.if-not-is_own.false-raw)
    (c.turn_each.ensures
    ∙ whole-tick n false a.card a.input c.seen_memory-m.result c.lines_in-l.result c.seen_memory-m.ensures
    (c.lines_in-l.ensures n c.cells_for-n.ensures.upper_bound fits)
    ∙ ap (λ (m : ℕ). ticked m false a.card a.input) c.cells_for-n.ensures.value)
