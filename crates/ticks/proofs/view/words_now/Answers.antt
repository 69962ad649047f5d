-- `ticks::view::words_now` meets its contract: the two words are those of the views.
use Rattle.ticks.proofs.Words.{reads-views}
use Rattle.ticks.proofs.view.words_now.Goals as goal

pub returns : goal.returns
returns c n room below fits =
    reads-views _ _ _ _ _ (c.sees-now.ensures n room below fits.0) (c.sees-before.ensures n room fits.0 fits.1)
    c.quarters.ensures
