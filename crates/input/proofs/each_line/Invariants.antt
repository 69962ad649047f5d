-- `input::each_line` is safe and ends: each line leaves fewer lines that may still be given.
use Rattle.std.proofs.Common.{◌≡◌, ◌≤◌, length}
use Rattle.input.proofs.each_line.Given as goal

abbrev pub invariant-loop-on : goal.invariant-loop-on
invariant-loop-on g l =
    goal.F-IsAlwaysCallable g l.take × (l.r.n ≤ length l.block) × (length l.block ≡ length l.initial.block) × (length l.line ≡ length l.initial.line)

abbrev pub decreases-loop-on : goal.decreases-loop-on
decreases-loop-on g l = l.r.left
