-- Why a card's clock may stop while the card is at rest: ticks with the same input change nothing
-- but the tick total, however many and of whatever kinds.
use Rattle.std.specs.Prelude.{ℕ, ◌≡◌, Bool, List, map, length}
use Rattle.card.specs.Fresh.{fresh_of}
use Rattle.ticks.specs.declared.view.Input.{Input}
use Rattle.ticks.specs.Rest.{AtRest, rest_answer, with_total, rest_total}
use Rattle.calls.specs.Calls.{Call, own_tick, end, answers}
use Rattle.calls.specs.Calls.Reply.{tick_reply}
use Rattle.calls.specs.Demand3.{AlikeReplies}

-- ticks with one input, quick and full as a list says
abbrev pub ticks_with : ℕ → Input → List Bool → List Call
ticks_with n input kinds = map (λ full. own_tick n full input) kinds

-- after any list of calls from a fresh card: where the card is at rest under an input, any ticks
-- with it leave all of the card but the tick total, which counts
-- those that ran up to the standstill, and each answers the words of the last tick that ran, or
-- idle where the clock is another
unfoldable pub RestLasts : ℕ → Type 0
RestLasts n = (calls : List Call) (input : Input) (kinds : List Bool)
    → let c = end n (fresh_of n) calls in
    AtRest n c input
    → (end n c (ticks_with n input kinds) ≡ with_total c (rest_total c input (length kinds)))
    × AlikeReplies (answers n c (ticks_with n input kinds)) (map (λ full. tick_reply (rest_answer c input)) kinds)
