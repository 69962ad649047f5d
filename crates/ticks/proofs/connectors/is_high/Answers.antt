-- `ticks::connectors::is_high` meets its contract: address 0 reads base 0, which is low.
use mathlib.Core.Path.{sym, ◌∙◌}
use Rattle.ticks.specs.Reading.{reads_levels, reads}
use Rattle.ticks.specs.Words.{ReadsAs}
use borrow.Author.Rules.{rules}
use Rattle.ticks.proofs.connectors.is_high.Goals as goal

pub returns-then-source-eq0 : goal.returns-then-source-eq0
unfolding reads reads_levels
returns-then-source-eq0 c f g r low = rw c.if-source-eq0.true (sym low)

pub returns : goal.returns
unfolding ReadsAs
returns c f g r low = c.read.ensures ∙ r _ (search rules)
