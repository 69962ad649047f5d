-- `trace::next` ends: each line leaves fewer lines and reads.
use Rattle.trace.proofs.next.Given as goal

abbrev pub decreases-lines : goal.decreases-lines
decreases-lines l = l.feed.reader.left
