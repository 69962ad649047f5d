-- `steady::cells_through` meets its contract: after i turns the first i cells are those after the ticks.
use mathlib.Core.Path.{◌≡◌}
use mathlib.Core.List.{◌++◌}
use lib.ListN.{drop, get_or}
use Rattle.words.specs.Listed.{listed}
use Rattle.card.specs.Fresh.{no_cell}
use Rattle.steady.specs.Steady.{cell_through}
use Rattle.steady.proofs.cells_through.Given as goal

abbrev pub invariant-loop-i : goal.invariant-loop-i
invariant-loop-i l =
    l.next ≡ listed (λ i. cell_through (get_or l.before i no_cell) (get_or l.after i no_cell) l.m) l.i ++ drop l.i l.before
