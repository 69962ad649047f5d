-- Document 01, "Lists of calls": calls in any order, each on what the one before it returned. Said
-- over any state that calls are made on and any kind of call: `step` is the state that a call
-- returns.
use Rattle.std.specs.Prelude.{List, [], ◌∷◌}

module _ {S C : Type 0} (step : S → C → S) where
  -- the state at the end of a list
  unfoldable pub end_of : S → List C → S
  end_of s [] = s
  end_of s (call ∷ calls) = end_of (step s call) calls

  -- the answers, where `reply` is what a call answers
  unfoldable pub answers_of : {R : Type 0} → (S → C → R) → S → List C → List R
  answers_of reply s [] = []
  answers_of reply s (call ∷ calls) = reply s call ∷ answers_of reply (step s call) calls

  -- what the calls have made of something by the end of the list, where `next` is what a call makes
  -- of it
  unfoldable pub since : {A : Type 0} → (S → C → A → A) → S → List C → A → A
  since next s [] was = was
  since next s (call ∷ calls) was = since next (step s call) calls (next s call was)
