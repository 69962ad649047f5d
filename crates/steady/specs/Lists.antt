-- Ticks at once among calls of any kind: on every card that calls reach, a call that makes m ticks
-- at once does what m tick calls with its input do, quick and full in any order.
use Rattle.std.specs.Prelude.{ℕ, ◌≤◌, ◌≡◌, Bool, List, ◌++◌, map, length}
use Rattle.card.specs.Address.{cell_room}
use Rattle.card.specs.Fresh.{fresh_of}
use Rattle.ticks.specs.declared.view.Input.{Input}
use Rattle.calls.specs.Calls.{Call, end, answers}
use Rattle.calls.specs.Calls.Reply.{tick_reply}
use Rattle.calls.specs.Demand3.{AlikeReplies}
use Rattle.calls.specs.Rest.{ticks_with}
use Rattle.steady.specs.Steady.{advanced}

-- after any list of calls from a fresh card, and before any other: the card is the same, so all
-- later calls answer the same and end in the same card
unfoldable pub StandsForTicks : ℕ → Type 0
StandsForTicks n = (calls behind : List Call) (input : Input) (k : ℕ) (kinds : List Bool)
    → let c = end n (fresh_of n) calls in
    let a = advanced n c input k in
    length kinds ≡ a.made
    → (end n c (ticks_with n input kinds ++ behind) ≡ end n a.card behind)
    × (answers n c (ticks_with n input kinds ++ behind) ≡ answers n c (ticks_with n input kinds) ++ answers n a.card behind)

-- and each of these tick calls answers what the one call answers, but for the woken set and its
-- count in full ones
unfoldable pub AnswersForTicks : ℕ → Type 0
AnswersForTicks n = n ≤ cell_room → (calls : List Call) (input : Input) (k : ℕ) (kinds : List Bool)
    → let c = end n (fresh_of n) calls in
    let a = advanced n c input k in
    length kinds ≡ a.made → AlikeReplies (answers n c (ticks_with n input kinds)) (map (λ full. tick_reply a.answer) kinds)
