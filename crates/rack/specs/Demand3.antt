-- Document 02, 12: "In any list of rack calls from that start, replacing quick by full rack ticks
-- changes nothing that demand 3 compares, in any card", and "from that start each card always gets
-- its four, whatever the others hold".
use Rattle.std.specs.Prelude.{ℕ, ◌≤◌, ◌<◌, ◌≡◌, Bool, false, length, get_or, replicate}
use mathlib.Core.List.{List, Forall₂}
use Rattle.card.specs.declared.card.Card.{Card}
use Rattle.ticks.specs.declared.tick.Answer.{Answer}
use Rattle.rack.specs.declared.tick.RackInput.{RackInput}
use Rattle.rack.specs.Supply.{most_cards, supply, share, pushes, draws_of, draws, over}
use Rattle.rack.specs.Rack.{start_card}
use Rattle.rack.specs.Calls.{RackCall, RackReply, end, answers}
use Rattle.rack.specs.Calls.RackCall.{start, line, load, tick}
use Rattle.rack.specs.Calls.RackReply.{number_reply, line_reply, tick_reply}

-- ---- demand 3

pub data SameCall : RackCall → RackCall → Type 0 where
  same_start : SameCall start start
  same_line : (number : ℕ) (text reply other store another : List ℕ) → length reply ≡ length other → length store ≡ length another
      → SameCall (line number text reply store) (line number text other another)
  same_load : (number : ℕ) (bytes : List ℕ) → SameCall (load number bytes) (load number bytes)
  same-tick : (full quick : Bool) (input : RackInput) → SameCall (tick full input) (tick quick input)

-- of one card whether it ran, its driven word and its cell word
pub record AlikeAnswer (a b : Answer) : Type 0 where
  pub ran : a.ran ≡ b.ran
  pub driven : a.driven ≡ b.driven
  pub cells : a.cells ≡ b.cells

pub data AlikeReply : RackReply → RackReply → Type 0 where
  alike-number : (k : ℕ) → AlikeReply (number_reply k) (number_reply k)
  alike-line : (k : ℕ) (reply saved : List ℕ) → AlikeReply (line_reply k reply saved) (line_reply k reply saved)
  alike-tick : (k : ℕ) {s t : List Answer} → Forall₂ AlikeAnswer s t
      → AlikeReply (tick_reply (record { k = k; answers = s })) (tick_reply (record { k = k; answers = t }))

-- a row of as many cards as a start leaves
abbrev pub start_row : (n cards : ℕ) → List Card
start_row n cards = replicate cards (start_card n)

-- the whole rows are equal, and the answers alike
unfoldable pub RackDemand3 : ℕ → Type 0
RackDemand3 n = (cards : ℕ) (calls others : List RackCall) → Forall₂ SameCall calls others
    → (end n (start_row n cards) calls ≡ end n (start_row n cards) others)
    × Forall₂ AlikeReply (answers n (start_row n cards) calls) (answers n (start_row n cards) others)

-- ---- the supply

-- from the start on the sum is never over it
unfoldable pub WithinSupply : ℕ → Type 0
WithinSupply n = (cards : ℕ) (calls : List RackCall) → cards ≤ most_cards → draws (end n (start_row n cards) calls) ≤ supply

-- so a change that leaves a card with at most four push-pull front connectors is never 19
unfoldable pub ShareGuaranteed : ℕ → Type 0
ShareGuaranteed n = (cards : ℕ) (calls : List RackCall) (i : ℕ) (d : Card) → cards ≤ most_cards → i < cards → pushes d.connectors ≤ share
    → let row = end n (start_row n cards) calls in over (draws_of row) i (get_or row i (start_card n)).connectors d.connectors ≡ false
