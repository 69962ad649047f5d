-- A card at rest stays so under every list of ticks with its input: on a settled card quick and full ticks do the same, and a quick one only counts.
use Prim.Native.Nat.{ℕ}
use mathlib.Core.Path.{◌≡◌, sym, ap, ◌∙◌, subst}
use mathlib.Core.Bool.{Bool, false}
use mathlib.Core.List.Forall₂
use mathlib.Core.List.{List, [], ◌∷◌, map}
use lib.ListN.{length}
use Rattle.card.specs.declared.card.Card.{Card}
use Rattle.card.specs.Fresh.{fresh_of}
use Rattle.ticks.specs.declared.tick.Answer.{Answer}
use Rattle.ticks.specs.declared.view.Input.{Input}
use Rattle.ticks.specs.Tick
use Rattle.ticks.specs.Settled.{Settled}
use Rattle.ticks.specs.Rest.{AtRest, rest_answer, with_total, rest_total}
use Rattle.ticks.proofs.Sleep.{fresh-settled, tick-settled}
use Rattle.ticks.proofs.AtRest.{rest-answers, rest-card, rest-on, rest-none, rest_more}
use Rattle.calls.specs.Runs.{end_of, answers_of}
use Rattle.calls.specs.Calls.{after_call, answer, end, answers}
use Rattle.calls.specs.Calls.Reply.{tick_reply}
use Rattle.calls.specs.Demand3.{AlikeReplies}
use Rattle.calls.specs.Demand3.AlikeReply.{alike-tick}
use Rattle.calls.specs.Rest.{ticks_with, RestLasts}
use Rattle.calls.proofs.Lists.{ticks-alike, reached-settled}

module _ (n : ℕ) (input : Input) where
  -- any list of ticks: the first one leaves a card that is settled and at rest, with another total
  pub stays_all : (kinds : List Bool) (c : Card) → Settled n c → AtRest n c input
      → (end n c (ticks_with n input kinds) ≡ with_total c (rest_total c input (length kinds)))
      × AlikeReplies (answers n c (ticks_with n input kinds)) (map (λ full. tick_reply (rest_answer c input)) kinds)
  unfolding end_of answers_of after_call answer Tick.tick
  stays_all [] c settled rest = (ap (with_total c) (sym (rest-none c input)), Forall₂.nil)
  stays_all (full ∷ kinds) c settled rest =
      let a = ticks-alike n c full false input settled in
      let r = rest-answers n c input rest in
      let one = a.card ∙ rest-card n c input rest in
      let others = map (λ full. tick_reply (rest_answer c input)) kinds in
      let tail = stays_all kinds (with_total c (rest_total c input 1)) (subst (Settled n) one (tick-settled n full c input settled)) (rest-on n c input rest) in (
        ap (λ (d : Card). end n d (ticks_with n input kinds)) one ∙ tail.0 ∙ ap (with_total c) (rest_more c input (length kinds)),
        Forall₂.cons
            (alike-tick (a.ran ∙ ap (λ (x : Answer). x.ran) r) (a.driven ∙ ap (λ (x : Answer). x.driven) r) (a.cells ∙ ap (λ (x : Answer). x.cells) r))
            (subst (λ (d : Card). AlikeReplies (answers n d (ticks_with n input kinds)) others) (sym one) tail.1),
      )

pub rest-lasts : (n : ℕ) → RestLasts n
unfolding RestLasts
rest-lasts n calls input kinds rest =
    stays_all n input kinds (end n (fresh_of n) calls) (reached-settled n (fresh_of n) calls (fresh-settled n)) rest
