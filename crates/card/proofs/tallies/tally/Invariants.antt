-- `card::tallies::tally` meets its contract: before each turn the cells below i are counted, and `left` is what is left of the word of those that may.
use Rattle.std.proofs.Common.{◌≡◌, ◌-◌}
use Rattle.card.specs.Address.{cell_room}
use Rattle.card.proofs.TallyLaws.{CountedTo}
use Rattle.card.proofs.tallies.tally.Given as goal

abbrev pub invariant-loop-left : goal.invariant-loop-left
invariant-loop-left l = CountedTo l.initial.left l.initial.next.cells l.i l.left l.next.cells × (l.next.total ≡ l.initial.next.total)

abbrev pub decreases-loop-left : goal.decreases-loop-left
decreases-loop-left l = cell_room - l.i
