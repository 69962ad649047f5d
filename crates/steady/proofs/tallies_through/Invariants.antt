-- `steady::tallies_through` meets its contract: after i turns the first i tallies are those after the ticks.
use mathlib.Core.Path.{◌≡◌}
use mathlib.Core.List.{◌++◌}
use lib.ListN.{drop, get_or}
use Rattle.words.specs.Bits.{bit_at}
use Rattle.words.specs.Listed.{listed}
use Rattle.card.specs.Tally.{ticks}
use Rattle.steady.specs.Steady.{counted_for}
use Rattle.steady.proofs.tallies_through.Given as goal

abbrev pub invariant-loop-i : goal.invariant-loop-i
invariant-loop-i l =
    let before = l.initial.next in record {
      cells : l.next.cells ≡ listed (λ i. counted_for (bit_at l.named i) l.d (get_or before.cells i (ticks 0))) l.i ++ drop l.i before.cells;
      total : l.next.total ≡ before.total;
    }
