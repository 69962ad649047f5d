-- `ticks::tick::lines_by` meets its contract: what the memory has above the cells' bits plays no
-- part.
use Prim.Native.Nat.{ℕ}
use mathlib.Core.Path.{sym, ap, subst, ◌∙◌}
use Rattle.card.specs.declared.card.Memory.{Memory}
use Rattle.ticks.specs.Levels.{effective_sample}
use Rattle.ticks.specs.Tick.{lines_in}
use Rattle.ticks.specs.Words.{FitsMemory}
use Rattle.ticks.proofs.Trim.{trim-fits, lines-trim}
use Rattle.ticks.proofs.tick.lines_by.Goals as goal

pub returns : goal.returns
returns c =
    let a = c.args in
    let n = c.cells_for-n.result in
    let fits = subst (λ (v : Memory). FitsMemory n v) (sym c.seen_memory-m.ensures) (trim-fits n a.memory) in
    let sample = effective_sample a.input.sample a.input.attached in
    c.lines_in.ensures n c.cells_for-n.ensures.upper_bound fits
    ∙ ap (λ (v : Memory). lines_in n v a.connectors sample) c.seen_memory-m.ensures
    ∙ lines-trim n a.memory a.connectors sample
    ∙ ap (λ (k : ℕ). lines_in k a.memory a.connectors sample) c.cells_for-n.ensures.value
