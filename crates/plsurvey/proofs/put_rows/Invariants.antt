-- `plsurvey::put_rows` is safe and ends: the base stays at most 49.
use Prim.Native.Nat.{◌≤◌, ◌-◌}
use Rattle.plsurvey.proofs.put_rows.Given as goal

abbrev pub invariant-loop-b : goal.invariant-loop-b
invariant-loop-b l = l.b ≤ 49

abbrev pub decreases-loop-b : goal.decreases-loop-b
decreases-loop-b l = 49 - l.b
