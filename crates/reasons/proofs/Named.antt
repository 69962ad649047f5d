-- A cell has a reason exactly where the rules name it.
use Prim.Native.Nat.{ℕ}
use mathlib.Core.Path.{◌≡◌, refl, ap}
use mathlib.Core.Bool.{Bool, ◌&&◌, ◌||◌}
use Rattle.cells.specs.declared.table.Slots.{Slots}
use Rattle.cells.specs.declared.table.Class.{Class}
use Rattle.cells.specs.declared.table.Class.TheVariants.{Nothing, Constant, Gate, Flop, OneShot, Delay, Counter}
use Rattle.cells.specs.declared.table.CounterKind.TheVariants.{WhileBoth, WhileEither, FromStart, FromStartAtZero}
use Rattle.cells.specs.declared.cell.State.{State}
use Rattle.cells.specs.Table.{row_of, masked}
use Rattle.cells.specs.Wake.{stirred_as, stirred, disagree, wakes}
use Rattle.reasons.specs.CellReasons.{clock_as, has_triggers, reasons_of, any_reason}

-- what stirs a class is a trigger or a clock
stirred-by : (k : Class) (s : State) (r : Slots)
    → (((has_triggers k && r.x) || (has_triggers k && r.f)) || clock_as k s r) ≡ stirred_as k s r
unfolding stirred_as
stirred-by Nothing s r = refl
stirred-by Constant s r = refl
stirred-by (Gate g) s r = refl
stirred-by (Flop f) s r = refl
stirred-by (OneShot t) s r = refl
stirred-by (Delay t) s r = refl
stirred-by (Counter WhileBoth) s r = refl
stirred-by (Counter WhileEither) s r = refl
stirred-by (Counter FromStart) s r = refl
stirred-by (Counter FromStartAtZero) s r = refl

-- of every type, also past the table
pub reason-named : (kind : ℕ) (s : State) (edited : Bool) (now last : Slots)
    → any_reason (reasons_of kind s edited now last) ≡ wakes kind s edited now last
unfolding reasons_of wakes stirred disagree
reason-named kind s edited now last =
    ap (λ (b : Bool). edited || (b || disagree kind now last)) (stirred-by (row_of kind).class s (masked (row_of kind).used now))
