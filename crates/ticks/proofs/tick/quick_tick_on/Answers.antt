-- `ticks::tick::quick_tick_on` meets its contract: the cells are turned under the lines, by the law
-- of the fast path where the tick is quiet.
use Prim.Native.Nat.{ℕ, ◌^◌, ◌<◌}
use mathlib.Core.Path.{sym, ap, subst, ◌∙◌}
use mathlib.Core.Bool.{false}
use lib.Pow.{pow_pos}
use Rattle.card.specs.declared.card.Memory.{Memory}
use Rattle.ticks.specs.declared.view.Wires.{Wires}
use Rattle.ticks.specs.Rest.{slept_all}
use Rattle.ticks.specs.Tick.{ran_with, turned, ticked_on}
use Rattle.ticks.specs.Words.{FitsMemory}
use Rattle.ticks.proofs.Trim.{trim-fits, whole-tick-on}
use Rattle.ticks.proofs.tick.quick_tick_on.Goals as goal

pub is_quiet-requires : goal.is_quiet-requires
is_quiet-requires c =
    let n = c.cells_for-n.result in
    let fits = subst (λ (v : Memory). FitsMemory n v) (sym c.seen_memory-m.ensures) (trim-fits n c.args.card.memory) in record {
      n_le_cell_room = c.cells_for-n.ensures.upper_bound;
      outputs_bound = subst (λ (v : Wires). v.outputs < 2 ^ n) (sym c.wires_of.ensures) fits.0;
    }

pub returns-then-is_quiet : goal.returns-then-is_quiet
returns-then-is_quiet c =
    let a = c.args in
    let n = c.cells_for-n.result in
    let slept = sym (ap (λ (v : Wires). turned n false a.card.cells a.card.edited v) c.wires_of.ensures)
    ∙ c.is_quiet.ensures.w_value c.if-is_quiet.true
    ∙ ap (λ (v : Wires). slept_all a.card.cells v.outputs) c.wires_of.ensures in
    c.ran_with.ensures n c.cells_for-n.ensures.upper_bound (pow_pos n) ∙ ap (ran_with n c.seen_memory-m.result a.card a.l) (sym slept)
    ∙ whole-tick-on n false a.card c.seen_memory-m.result a.l c.seen_memory-m.ensures
    ∙ ap (λ (k : ℕ). ticked_on k false a.card a.l) c.cells_for-n.ensures.value

pub turn_each-requires : goal.turn_each-requires
turn_each-requires c =
    let n = c.cells_for-n.result in record {
      n_le_cell_room = c.cells_for-n.ensures.upper_bound;
      fits_memory = subst (λ (v : Memory). FitsMemory n v) (sym c.seen_memory-m.ensures) (trim-fits n c.args.card.memory);
    }

pub returns : goal.returns
returns c =
    let a = c.args in
    let n = c.cells_for-n.result in
    c.turn_each.ensures ∙ whole-tick-on n false a.card c.seen_memory-m.result a.l c.seen_memory-m.ensures
    ∙ ap (λ (k : ℕ). ticked_on k false a.card a.l) c.cells_for-n.ensures.value
