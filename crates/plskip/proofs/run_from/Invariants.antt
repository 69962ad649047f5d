-- `plskip::run_from` ends: each line leaves fewer lines and reads.
use Rattle.plskip.proofs.run_from.Given as goal

abbrev pub decreases-lines : goal.decreases-lines
decreases-lines l = l.feed.reader.left
