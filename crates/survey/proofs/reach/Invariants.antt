-- `survey::reach` meets its contract: after each turn the two words are those of some number of rounds, and the loop ends where a round adds nothing.
use Prim.Native.Nat.{ℕ, ◌+◌, ◌-◌}
use mathlib.Core.Path.{◌≡◌}
use mathlib.Core.List.{List}
use Rattle.cells.specs.declared.cell.Cell.{Cell}
use Rattle.card.specs.declared.card.Connectors.{Connectors}
use Rattle.survey.specs.Rounds.{rounds}
use Rattle.survey.proofs.reach.Given as goal

-- words only grow, and none is longer than 32 bits and 16
abbrev pub left : (x y : ℕ) → ℕ
left x y = 4294967296 - x + (65536 - y)

-- the words after m rounds
abbrev pub After : ℕ → List Cell → Connectors → (k m x y : ℕ) → Type 0
After n cs ds k m x y = (x ≡ (rounds n cs ds k m).0) × (y ≡ (rounds n cs ds k m).1)

abbrev pub invariant-loop-found : goal.invariant-loop-found
invariant-loop-found l = (m : ℕ) × After l.n l.cells l.connectors l.k m l.found l.lines

abbrev pub decreases-loop-found : goal.decreases-loop-found
decreases-loop-found l = left l.found l.lines
