-- `wiring::parts::put_cells` meets its contract: after i turns the lines of the first i entries are written.
use Prim.Native.Nat.{◌-◌}
use Rattle.wiring.specs.Wiring.{cell_commands}
use Rattle.wiring.specs.Parts.{cell_most}
use Rattle.wiring.proofs.PartLaws.{Written}
use Rattle.wiring.proofs.parts.put_cells.Given as goal

abbrev pub invariant-loop-i : goal.invariant-loop-i
invariant-loop-i l = Written cell_commands 0 cell_most l.n l.cells l.initial.out l.out l.at l.i

abbrev pub decreases-loop-i : goal.decreases-loop-i
decreases-loop-i l = l.n - l.i
