-- `rack::shared::pulled` meets its contract: by the lines of the card where the clock is its own.
use mathlib.Core.Path.{ap}
use borrow.Author.Tests.{eq-eqb, ne_eqb}
use Rattle.ticks.specs.declared.connectors.Lines.{Lines}
use Rattle.ticks.specs.Levels.{lines_of}
use Rattle.rack.specs.Shared.{pulls}
use Rattle.rack.proofs.shared.pulled.Goals as goal

pub returns-then-code-card : goal.returns-then-code-card
unfolding pulls
returns-then-code-card c = rw (ne_eqb _ _ c.if-code-card.true)

pub returns : goal.returns
unfolding pulls lines_of
returns c = rw (eq-eqb _ _ c.if-code-card.false) (ap (λ (l : Lines). l.pulled) c.lines_of.ensures)
