-- `ticks::view::seen_by` meets its contract: it compares what is read now with what was read.
use Rattle.ticks.proofs.Words.{differ-moves}
use Rattle.ticks.proofs.view.seen_by.Goals as goal

pub returns-clause-moved : goal.returns-clause-moved
returns-clause-moved c n room below fits =
    differ-moves _ _ _ _ _ _ c.differing.ensures (c.words_now-reads.ensures n room below fits) (c.words_last.ensures n room fits)
