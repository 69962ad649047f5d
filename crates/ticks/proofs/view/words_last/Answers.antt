-- `ticks::view::words_last` meets its contract: the two words are those of the views.
use Rattle.ticks.proofs.Words.{reads-views}
use Rattle.ticks.proofs.view.words_last.Goals as goal

pub returns : goal.returns
returns c n room fits =
    reads-views _ _ _ _ _ (c.sees-last.ensures n room fits.0 fits.1) (c.sees-earlier.ensures n room fits.1 fits.2)
    c.quarters.ensures
