-- `input::next_line` meets its contract. The loop's invariant: the line so far and the bytes after it are those that were pending and that reads gave.
-- The measure is the number of reads that are left.
use mathlib.Core.Path.{◌≡◌}
use lib.ListN.{length}
use Rattle.input.proofs.Reading.{Underway}
use Rattle.input.proofs.reader.Reader.next_line.Given as goal

abbrev pub invariant-loop-q : goal.invariant-loop-q
invariant-loop-q l = Underway (length l.initial.line) l.initial.q l.q l.initial.block l.block × (length l.block ≡ length l.initial.block) × (length l.line ≡ length l.initial.line)

abbrev pub decreases-loop-q : goal.decreases-loop-q
decreases-loop-q l = l.q.left
