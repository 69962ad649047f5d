-- `plwave::put_changes` meets its contract: after i turns the bits below i are stored, in at most four bytes each.
use Prim.Native.Nat.{◌≤◌, ◌*◌, ◌-◌}
use mathlib.Core.Path.{◌≡◌, refl}
use native.Mathlib.Omega.{arith}
use lib.ListN.{length}
use Rattle.text.proofs.Stores.{Stored}
use Rattle.plwave.specs.Dump.{changes}
use Rattle.plwave.proofs.Dumps.{stored-change}
use borrow.Author.Rules.{rules}
use Rattle.plwave.proofs.put_changes.Given as goal

abbrev pub invariant-loop-i : goal.invariant-loop-i
invariant-loop-i l =
    (l.i ≤ l.count) × ((l.at ≤ 4 * l.i) × ((length l.out ≡ length l.initial.out) × Stored l.initial.out l.out (changes l.from l.word l.set l.i) l.at))

abbrev pub decreases-loop-i : goal.decreases-loop-i
decreases-loop-i l = l.count - l.i
