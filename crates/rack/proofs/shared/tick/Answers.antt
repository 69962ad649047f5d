-- `rack::shared::tick` meets its contract: the lines are shared, and then the cells turn under them.
use Rattle.std.proofs.Common.{◌≡◌, true, false, ◌∙◌}
use borrow.Author.Tests.{eq-eqb, ne_eqb}
use Rattle.card.specs.Address.{cells_for}
use Rattle.ticks.specs.Tick.{ticked_on}
use Rattle.rack.specs.Shared.{shared_levels, shared_lines, shared_tick}
use Rattle.rack.proofs.shared.tick.Goals as goal
use Rattle.rack.proofs.shared.tick.Goals.{After-levels_on-levels}

pub returns-then-input-card : goal.returns-then-input-card
unfolding shared_tick
returns-then-input-card c = rw (ne_eqb _ _ c.if-input-card.true) c.idle.ensures

-- the lines that the cells turn under
on : (c : After-levels_on-levels) → let a = c.args in
    record { driven = c.lines_of-own.result.driven; pulled = c.lines_of-own.result.pulled; levels = c.levels_on-levels.result }
    ≡ shared_lines (cells_for a.card.size) a.card a.input a.low
on c =
    let own = c.lines_of-own.ensures in
    let levels = c.levels_on-levels.ensures ∙ (λ j. shared_levels (own j).levels (c.effective-sample.ensures j) c.args.low) in
    λ j. record { driven = (own j).driven; pulled = (own j).pulled; levels = levels j }

pub returns-then-full : goal.returns-then-full
unfolding shared_tick
returns-then-full c =
    let a = c.args in
    rw (eq-eqb _ _ c.if-input-card.false, c.if-full.true)
    (c.full_tick_on.ensures ∙ (λ j. ticked_on (cells_for a.card.size) true a.card (on (goal.at.returns-then-full c).After-levels_on-levels j)))

pub returns-else-full : goal.returns-else-full
unfolding shared_tick
returns-else-full c =
    let a = c.args in
    rw (eq-eqb _ _ c.if-input-card.false, c.if-full.false)
    (c.quick_tick_on.ensures ∙ (λ j. ticked_on (cells_for a.card.size) false a.card (on (goal.at.returns-else-full c).After-levels_on-levels j)))
