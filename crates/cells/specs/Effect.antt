-- What the code gives of a cell, read as the state and the output of specs/Work, and the naming of
-- specs/Wake.
use Rattle.std.specs.Prelude.{ℕ, ◌≡◌, Bool, ◌||◌, cond, ltb}
use Rattle.cells.specs.declared.cell.State.{State}
use Rattle.cells.specs.declared.cell.Worked.{Worked}
use Rattle.cells.specs.declared.work.Effect.{Effect}
use Rattle.cells.specs.declared.work.Effect.TheVariants.{Slept, Same, Bit, Count, Timed, Counted}
use Rattle.cells.specs.declared.step.Stepped.{Stepped}
use Rattle.cells.specs.Work.{keeping, holding, counting, counted_as}

-- of a cell that had the state s and the output out: what an effect does not name stays
abbrev pub worked_by : State → (out : Bool) → Effect → Worked
worked_by s out Slept = keeping s out
worked_by s out (Same new) = keeping s new
worked_by s out (Bit bit) = holding s bit
worked_by s out (Count count) = counting s count.0 s.pulse (ltb 0 count.0)
worked_by s out (Timed count pulse) = counting s count.0 pulse pulse
worked_by s out (Counted count active new) = counted_as s active count.0 new

-- a full tick works out every cell, a quick tick those that the rules name; "others keep state and
-- output"
abbrev pub stepped_to : (full named : Bool) → State → (out : Bool) → Worked → Worked
stepped_to full named s out worked = cond (full || named) worked (keeping s out)

-- a step of a cell that is not worked out, which looks at no slot
abbrev pub asleep : (named : Bool) → Stepped
asleep named = record { named = named; effect = Slept; looked = 0 }

-- a step says whether the rules name the cell, and what becomes of it, which is `worked` where it
-- is worked out; a gate of four slots then looked at `looks` slots
pub record StepsTo (t : Stepped) (full named : Bool) (s : State) (worked : Worked) (looks : ℕ) : Type 0 where
  pub says : t.named ≡ named
  pub gives : (out : Bool) → worked_by s out t.effect ≡ stepped_to full named s out worked
  pub looks_at : t.looked ≡ cond (full || named) looks 0
