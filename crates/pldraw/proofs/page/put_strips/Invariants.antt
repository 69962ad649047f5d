-- `pldraw::page::put_strips` is safe and ends: each strip goes on by its ticks, and is not too high.
use Rattle.std.proofs.Common.{◌+◌, ◌-◌, ◌*◌, ◌≤◌, rules}
use Rattle.pldraw.proofs.page.put_strips.Given as goal

abbrev pub invariant-loop-start : goal.invariant-loop-start
invariant-loop-start l = (l.start ≤ l.n + 60) × (l.y ≤ 1500 + 1516 * l.start)

abbrev pub decreases-loop-start : goal.decreases-loop-start
decreases-loop-start l = l.n - l.start
