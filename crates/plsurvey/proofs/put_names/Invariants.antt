-- `plsurvey::put_names` is safe and ends: the base stays at most at the end.
use Prim.Native.Nat.{◌≤◌, ◌-◌}
use Rattle.plsurvey.proofs.put_names.Given as goal

abbrev pub invariant-loop-b : goal.invariant-loop-b
invariant-loop-b l = l.b ≤ l.end

abbrev pub decreases-loop-b : goal.decreases-loop-b
decreases-loop-b l = l.end - l.b
