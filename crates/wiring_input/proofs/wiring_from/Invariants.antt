-- `wiring_input::wiring_from` ends: each line leaves fewer lines and reads.
use Rattle.wiring_input.proofs.wiring_from.Given as goal

abbrev pub decreases-lines : goal.decreases-lines
decreases-lines l = l.feed.reader.left
