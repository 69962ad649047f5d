-- `ticks::tick::lines_of` meets its contract: what the memory has above the cells' bits plays no
-- part.
use Prim.Native.Nat.{ℕ}
use mathlib.Core.Path.{sym, ap, subst, ◌∙◌}
use Rattle.card.specs.declared.card.Memory.{Memory}
use Rattle.ticks.specs.Levels.{effective_sample}
use Rattle.ticks.specs.Tick.{lines_in, lines}
use Rattle.ticks.specs.Words.{FitsMemory}
use Rattle.ticks.proofs.Trim.{trim-fits, lines-trim}
use Rattle.ticks.proofs.tick.lines_of.Goals as goal

pub returns : goal.returns
returns c =
    let a = c.args in
    let n = c.cells_for-n.result in
    let fits = subst (λ (v : Memory). FitsMemory n v) (sym c.seen_memory-m.ensures) (trim-fits n a.card.memory) in
    let sample = effective_sample a.input.sample a.input.attached in
    c.lines_in.ensures n c.cells_for-n.ensures.upper_bound fits
    ∙ ap (λ (v : Memory). lines_in n v a.card.connectors sample) c.seen_memory-m.ensures
    ∙ lines-trim n a.card.memory a.card.connectors sample
    ∙ ap (λ (k : ℕ). lines k a.card a.input) c.cells_for-n.ensures.value
