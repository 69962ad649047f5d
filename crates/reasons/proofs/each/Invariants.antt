-- `reasons::each` meets its contract: after i turns the first i entries are the reasons of the first i cells.
use Prim.Native.Nat.{ℕ, ◌-◌, ◌≤◌}
use mathlib.Core.Path.{◌≡◌}
use mathlib.Core.List.{List, ◌++◌}
use lib.ListN.{drop, get_or}
use Rattle.words.specs.Listed.{listed}
use Rattle.cells.specs.declared.cell.Cell.{Cell}
use Rattle.reasons.specs.declared.cell.Reasons.{Reasons}
use Rattle.card.specs.Fresh.{no_cell}
use Rattle.ticks.specs.declared.view.Wires.{Wires}
use Rattle.reasons.specs.Reasons.{reasons_at}
use Rattle.reasons.proofs.each.Given as goal

abbrev pub at : ℕ → List Cell → ℕ → Wires → ℕ → ℕ → Reasons
at n cells edited w below i = reasons_at n (get_or cells i no_cell) i edited w below

abbrev pub invariant-loop-i : goal.invariant-loop-i
invariant-loop-i l = (l.i ≤ l.n) × (l.next ≡ listed (at l.n l.cells l.edited l.w l.below) l.i ++ drop l.i l.initial.next)

abbrev pub decreases-loop-i : goal.decreases-loop-i
decreases-loop-i l = l.n - l.i
