-- Laws of a step, for the functions that ask a cell and work it out: the two ways that a step ends.
use Prim.Native.Nat.{ℕ}
use mathlib.Core.Path.{◌≡◌, sym, ap, subst, ◌∙◌}
use mathlib.Core.Bool.{Bool, true, false, ◌||◌, cond}
use Rattle.cells.specs.declared.cell.State.{State}
use Rattle.cells.specs.declared.cell.Worked.{Worked}
use Rattle.cells.specs.declared.work.Effect.{Effect}
use Rattle.cells.specs.declared.step.Stepped.{Stepped}
use Rattle.cells.specs.Work.{keeping}
use Rattle.cells.specs.Effect.{worked_by, asleep, StepsTo}

-- a cell that is worked out, and one that is not; `asked` is what the definition asks
module _ (full named asked : Bool) (s : State) (worked : Worked) (looks : ℕ) (is : named ≡ asked) where
  pub step-worked : (e : Effect) (k : ℕ) → (full || named) ≡ true → ((out : Bool) → worked_by s out e ≡ worked) → k ≡ looks
      → StepsTo (record { named = named; effect = e; looked = k }) full asked s worked looks
  step-worked e k on done many =
      let due = ap (λ (b : Bool). full || b) (sym is) ∙ on in
      record {
        says = is;
        gives = λ out. done out ∙ sym (ap (λ (b : Bool). cond b worked (keeping s out)) due);
        looks_at = many ∙ sym (ap (λ (b : Bool). cond b looks 0) due);
      }

  pub step-slept : (t : Stepped) → t ≡ asleep named → (full || named) ≡ false → StepsTo t full asked s worked looks
  step-slept t e off =
      let due = ap (λ (b : Bool). full || b) (sym is) ∙ off in
      subst (λ (u : Stepped). StepsTo u full asked s worked looks) (sym e)
      (record {
        says = is;
        gives = λ out. sym (ap (λ (b : Bool). cond b worked (keeping s out)) due);
        looks_at = sym (ap (λ (b : Bool). cond b looks 0) due);
      })
