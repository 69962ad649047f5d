-- `saved::record::all_numbered` meets its contract: after i turns the first i fields are tested.
use Prim.Native.Nat.{ℕ, ◌+◌, ◌*◌, ◌-◌, ◌≤◌}
use mathlib.Core.Path.{◌≡◌}
use mathlib.Core.Bool.{Bool}
use mathlib.Core.List.{List}
use Rattle.saved.specs.Headers.{every_below, numbered_at}
use Rattle.saved.proofs.record.all_numbered.Given as goal

-- field number i
abbrev pub test : List ℕ → (start step tag size first : ℕ) → ℕ → Bool
test bytes start step tag size first i = numbered_at bytes (start + i * step) tag size (i + first)

abbrev pub invariant-loop-i : goal.invariant-loop-i
invariant-loop-i l = (l.i ≤ l.count) × (l.ok ≡ every_below (test l.bytes l.start l.step l.tag l.size l.first) l.i)

abbrev pub decreases-loop-i : goal.decreases-loop-i
decreases-loop-i l = l.count - l.i
