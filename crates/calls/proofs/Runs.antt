-- Laws of lists of calls on any state: what holds of one call is lifted to lists, each by one induction.
use mathlib.Core.Path.{◌≡◌, refl, ap, ◌∙◌, subst}
use mathlib.Core.List.{List, [], ◌∷◌, ◌++◌, Forall₂}
use Rattle.calls.specs.Runs.{end_of, answers_of, since}

module _ {S C : Type 0} (step : S → C → S) where
  -- one list after another
  pub end-append : (s : S) (calls others : List C) → end_of step s (calls ++ others) ≡ end_of step (end_of step s calls) others
  unfolding end_of
  end-append s [] others = refl
  end-append s (call ∷ calls) others = end-append (step s call) calls others

  pub answers-append : {R : Type 0} (reply : S → C → R) (s : S) (calls others : List C)
      → answers_of step reply s (calls ++ others) ≡ answers_of step reply s calls ++ answers_of step reply (end_of step s calls) others
  unfolding end_of answers_of
  answers-append reply s [] others = refl
  answers-append reply s (call ∷ calls) others = ap (λ l. reply s call ∷ l) (answers-append reply (step s call) calls others)

  -- an invariant, which every call keeps, holds at the end of every list
  pub invariant : (Inv : S → Type 0) → ((s : S) (call : C) → Inv s → Inv (step s call)) → (s : S) (calls : List C) → Inv s → Inv (end_of step s calls)
  unfolding end_of
  invariant Inv keeps s [] h = h
  invariant Inv keeps s (call ∷ calls) h = invariant Inv keeps (step s call) calls (keeps s call h)

  -- where the state says of something what each call makes of it, it says what the list has made of it
  pub tracked : {A : Type 0} (of : S → A) (next : S → C → A → A) → ((s : S) (call : C) → of (step s call) ≡ next s call (of s))
      → (s : S) (calls : List C) → of (end_of step s calls) ≡ since step next s calls (of s)
  unfolding end_of since
  tracked of next says s [] = refl
  tracked of next says s (call ∷ calls) = tracked of next says (step s call) calls ∙ ap (since step next (step s call) calls) (says s call)

  -- the same where it does so in every state that an invariant holds of
  pub tracked-under : {A : Type 0} (Inv : S → Type 0) → ((s : S) (call : C) → Inv s → Inv (step s call)) → (of : S → A) (next : S → C → A → A)
      → ((s : S) (call : C) → Inv s → of (step s call) ≡ next s call (of s))
      → (s : S) (calls : List C) → Inv s → of (end_of step s calls) ≡ since step next s calls (of s)
  unfolding end_of since
  tracked-under Inv keeps of next says s [] h = refl
  tracked-under Inv keeps of next says s (call ∷ calls) h =
      tracked-under Inv keeps of next says (step s call) calls (keeps s call h) ∙ ap (since step next (step s call) calls) (says s call h)

  -- where calls that are the same do the same and answer alike, in every state that the invariant holds of, so do lists of them
  module _ {R : Type 0} (reply : S → C → R) (Same : C → C → Type 0) (Alike : R → R → Type 0) (Inv : S → Type 0)
      (keeps : (s : S) (call : C) → Inv s → Inv (step s call))
      (same_step : (s : S) (a b : C) → Same a b → Inv s → step s a ≡ step s b)
      (same-reply : (s : S) (a b : C) → Same a b → Inv s → Alike (reply s a) (reply s b)) where
    pub same_runs : (s : S) {calls others : List C} → Forall₂ Same calls others → Inv s
        → (end_of step s calls ≡ end_of step s others) × Forall₂ Alike (answers_of step reply s calls) (answers_of step reply s others)
    unfolding end_of answers_of
    same_runs s Forall₂.nil h = (refl, Forall₂.nil)
    same_runs s (Forall₂.cons {a = a} {b = b} {l₁ = calls} {l₂ = others} p ps) h =
        let e = same_step s a b p h in
        let rest = same_runs (step s a) ps (keeps s a h) in (
          rest.0 ∙ ap (λ (d : S). end_of step d others) e,
          Forall₂.cons (same-reply s a b p h)
              (subst (λ (d : S). Forall₂ Alike (answers_of step reply (step s a) calls) (answers_of step reply d others)) e rest.1),
        )
