-- `plsurvey::lines_to` is safe and ends: the base stays at most 49.
use Prim.Native.Nat.{◌≤◌, ◌-◌}
use Rattle.plsurvey.proofs.lines_to.Given as goal

abbrev pub invariant-loop-a : goal.invariant-loop-a
invariant-loop-a l = l.a ≤ 49

abbrev pub decreases-loop-a : goal.decreases-loop-a
decreases-loop-a l = 49 - l.a
