-- `reasons::ticked` meets its contract: the tick of either kind is that of the definition.
use mathlib.Core.Path.{sym, ap, ◌∙◌}
use mathlib.Core.Bool.{Bool}
use Rattle.card.specs.Address.{cells_for}
use Rattle.ticks.specs.Tick.{tick}
use Rattle.reasons.proofs.ticked.Goals as goal

pub returns-then-full : goal.returns-then-full
returns-then-full c =
    let a = c.args in
    c.full_tick.ensures ∙ ap (λ (full : Bool). tick (cells_for a.card.size) full a.card a.input) (sym c.if-full.true)

pub returns : goal.returns
returns c =
    let a = c.args in
    c.quick_tick.ensures ∙ ap (λ (full : Bool). tick (cells_for a.card.size) full a.card a.input) (sym c.if-full.false)
