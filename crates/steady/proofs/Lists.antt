-- Ticks at once among calls: on a settled card the tick calls leave the card that the quick ticks one after the other leave, and in a steady stretch each
-- answers what the first does.
use Prim.Native.Nat.{ℕ, zero, suc, ◌+◌, ◌≤◌, ◌<◌}
use mathlib.Core.Path.{◌≡◌, refl, sym, ap, subst, ◌∙◌}
use mathlib.Core.Bool.{Bool, false}
use mathlib.Core.List.Forall₂
use mathlib.Core.List.{List, [], ◌∷◌, ◌++◌, map}
use native.Mathlib.Nat.{not-suc-le-zero}
use native.Mathlib.Omega.{arith}
use lib.ListN.{length}
use Rattle.card.specs.declared.card.Card.{Card}
use Rattle.card.specs.Fresh.{fresh_of}
use Rattle.ticks.specs.declared.tick.Answer.{Answer}
use Rattle.ticks.specs.declared.tick.Ticked.{Ticked}
use Rattle.ticks.specs.declared.view.Input.{Input}
use Rattle.ticks.specs.Tick
use Rattle.ticks.specs.Settled.{Settled}
use Rattle.ticks.proofs.Sleep.{fresh-settled, tick-settled}
use Rattle.calls.specs.Runs.{end_of, answers_of}
use Rattle.calls.specs.Calls.{after_call, answer, end, answers}
use Rattle.calls.specs.Calls.Reply.{tick_reply}
use Rattle.calls.specs.Demand3.{AlikeReplies}
use Rattle.calls.specs.Demand3.AlikeReply.{alike-tick}
use Rattle.calls.specs.Rest.{ticks_with}
use Rattle.calls.proofs.Runs.{end-append, answers-append}
use Rattle.calls.proofs.Lists.{ticks-alike, reached-settled}
use Rattle.steady.specs.Steady.{quick_ticks, steady_for, made_of, advanced}
use Rattle.steady.specs.Lists.{StandsForTicks, AnswersForTicks}
use Rattle.steady.proofs.Cards.{steady-ticks}
use Rattle.steady.proofs.Made.{made-within}
use Rattle.steady.proofs.Roomy.{HasRoom, reached-room}

module _ (n : ℕ) where
  module _ (c : Card) (input : Input) where
    abbrev at : ℕ → Card
    at i = (quick_ticks n c input i).card

    settled_at : Settled n c → (i : ℕ) → Settled n (at i)
    unfolding quick_ticks
    settled_at s zero = s
    settled_at s (suc i) = tick-settled n false (at i) input (settled_at s i)

    -- after i quick ticks, ticks of any kinds
    pub ends_at : Settled n c → (kinds : List Bool) (i : ℕ) → end n (at i) (ticks_with n input kinds) ≡ at (i + length kinds)
    unfolding end_of after_call quick_ticks Tick.tick
    ends_at s [] i =
        let none : i ≡ i + 0 = omega arith in
        ap at none
    ends_at s (full ∷ kinds) i =
        let a = ticks-alike n (at i) full false input (settled_at s i) in
        let more : suc i + length kinds ≡ i + suc (length kinds) = omega arith in
        ap (λ (d : Card). end n d (ticks_with n input kinds)) a.card ∙ ends_at s kinds (suc i) ∙ ap at more

    pub answers_at : Settled n c → (x : Answer) (m : ℕ) → ((j : ℕ) → j < m → (quick_ticks n c input (suc j)).answer ≡ x)
        → (kinds : List Bool) (i : ℕ) → i + length kinds ≤ m → AlikeReplies (answers n (at i) (ticks_with n input kinds)) (map (λ full. tick_reply x) kinds)
    unfolding answers_of after_call answer quick_ticks Tick.tick
    answers_at s x m each [] i h = Forall₂.nil
    answers_at s x m each (full ∷ kinds) i h =
        let a = ticks-alike n (at i) full false input (settled_at s i) in
        let less : i < m = omega arith in
        let more : suc i + length kinds ≤ m = omega arith in
        let e = each i less in
        Forall₂.cons
        (alike-tick (a.ran ∙ ap (λ (y : Answer). y.ran) e) (a.driven ∙ ap (λ (y : Answer). y.driven) e) (a.cells ∙ ap (λ (y : Answer). y.cells) e))
        (subst (λ (d : Card). AlikeReplies (answers n d (ticks_with n input kinds)) (map (λ full. tick_reply x) kinds)) (sym a.card)
        (answers_at s x m each kinds (suc i) more))

    -- in a steady stretch all answer what the last does
    all-answer : HasRoom n c → (m : ℕ) → (1 < m → m ≤ steady_for n c input) → (j : ℕ) → j < m
        → (quick_ticks n c input (suc j)).answer ≡ (quick_ticks n c input m).answer
    all-answer room zero within j h = absurd (not-suc-le-zero h)
    all-answer room (suc zero) within j h =
        let none : j ≡ 0 = omega arith in
        ap (λ (i : ℕ). (quick_ticks n c input (suc i)).answer) none
    all-answer room (suc (suc m)) within j h =
        let steady : suc (suc m) ≤ steady_for n c input = within (omega arith) in
        let short : suc j ≤ steady_for n c input = omega arith in
        ap (λ (t : Ticked). t.answer) (steady-ticks n c room.0 input room.1 j short)
        ∙ sym (ap (λ (t : Ticked). t.answer) (steady-ticks n c room.0 input room.1 (suc m) steady))

  pub stands-for-ticks : StandsForTicks n
  unfolding StandsForTicks advanced quick_ticks
  stands-for-ticks calls behind input k kinds e =
      let c = end n (fresh_of n) calls in
      let s = reached-settled n (fresh_of n) calls (fresh-settled n) in
      let made : 0 + length kinds ≡ made_of k (steady_for n c input) = omega (arith, e) in
      let same = ends_at c input s kinds 0 ∙ ap (λ (m : ℕ). (quick_ticks n c input m).card) made in (
        end-append (after_call n) c (ticks_with n input kinds) behind ∙ ap (λ (d : Card). end n d behind) same,
        answers-append (after_call n) (answer n) c (ticks_with n input kinds) behind
            ∙ ap (λ (d : Card). answers n c (ticks_with n input kinds) ++ answers n d behind) same,
      )

  pub answers-for-ticks : AnswersForTicks n
  unfolding AnswersForTicks advanced quick_ticks
  answers-for-ticks small calls input k kinds e =
      let c = end n (fresh_of n) calls in
      let s = reached-settled n (fresh_of n) calls (fresh-settled n) in
      let m = made_of k (steady_for n c input) in
      let room = reached-room n small calls in
      let all = all-answer c input room m (made-within k (steady_for n c input) m refl) in
      answers_at c input s (quick_ticks n c input m).answer m all kinds 0 (omega (arith, e))
