-- `diagram::strip::put_all_boxes` is safe and ends: a row is drawn for no more than were looked at.
use Rattle.std.proofs.Common.{◌+◌, ◌-◌, ◌*◌, ◌≤◌}
use Rattle.diagram.specs.Page.{most_rows}
use Rattle.diagram.proofs.strip.put_all_boxes.Given as goal

abbrev pub invariant-loop-r : goal.invariant-loop-r
invariant-loop-r l = (l.r ≤ most_rows) × (l.y ≤ 30 + 22 * l.r)

abbrev pub decreases-loop-r : goal.decreases-loop-r
decreases-loop-r l = most_rows - l.r
