-- Document 02, 12: a card in a rack is a card. Each call to a rack is for the card at a place one
-- of the calls that a card by itself knows, or a new start, or nothing, and it answers what the
-- card then answers. So all that is said of every list of calls on a fresh card (tallies, who
-- wakes, saving, printing, rest) is said of every card of a rack.
use Rattle.std.specs.Prelude.{ℕ, suc, ◌<◌, ◌≡◌, true, not, ◌&&◌, ◌||◌, cond, List, [], ◌∷◌, ◌++◌, map, eqb, length, get_or, replicate}
use Rattle.text.specs.Written.{bytes_of}
use Rattle.card.specs.declared.card.Card.{Card}
use Rattle.card.specs.Address.{cell_count}
use Rattle.card.specs.Fresh.{fresh_of}
use Rattle.card.specs.Valid.{valid_card}
use Rattle.lines.specs.Line.{shortest_reply}
use Rattle.calls.specs.Runs.{since}
use Rattle.calls.specs.Calls.{Call, Reply}
use Rattle.calls.specs.Calls
use Rattle.calls.specs.History.{Wakes}
use Rattle.calls.specs.Tallies.{Tallied}
use Rattle.rack.specs.Shared.{shared_lines}
use Rattle.rack.specs.Rack.{no_rack, over_supply, start_card, start_number, input_for, low_lines, tick_number, idle_answer, row_outcome, row_load_number}
use Rattle.rack.specs.Calls.{RackCall, RackReply, after_call, answer, end}
use Rattle.rack.specs.Calls.RackCall.{start, line, load, tick}
use Rattle.rack.specs.Calls.RackReply.{number_reply, line_reply, tick_reply}
use Rattle.rack.specs.Demand3.{start_row}

-- ---- one call

-- what a call to a rack is for the card at a place: nothing, a call of its own, or a new start
pub data Part : Type 0 where
  none : Part
  own : Call → Part
  anew : Part

-- a line or a load is the card's own where its number is the card's and it is not the rack that
-- refuses it
abbrev pub goes_to : (i number k : ℕ) → Call → Part
goes_to i number k call = cond (eqb number (suc i) && not (eqb k over_supply || eqb k no_rack)) (Part.own call) Part.none

-- of a rack's answer what the card at place i answers
unfoldable pub answer_to : ℕ → RackReply → Reply
answer_to i (number_reply k) = Calls.Reply.load_reply k
answer_to i (line_reply k reply saved) = Calls.Reply.line_reply k reply saved
answer_to i (tick_reply ticked) = Calls.Reply.tick_reply (get_or ticked.answers i idle_answer)

-- the calls that a card has got, and its answers
pub record Heard : Type 0 where
  pub calls : List Call
  pub replies : List Reply

abbrev pub nothing : Heard
nothing = record { calls = []; replies = [] }

-- with one more call, or from a new start
unfoldable pub heard_more : Heard → Part → Reply → Heard
heard_more was Part.none reply = was
heard_more was (Part.own call) reply = record { calls = was.calls ++ (call ∷ []); replies = was.replies ++ (reply ∷ []) }
heard_more was Part.anew reply = nothing

module _ (n : ℕ) where
  -- a tick is the card's own with its own front, and with the lines that some card of the row pulls
  -- low
  unfoldable pub part_of : (i : ℕ) → List Card → RackCall → Part
  part_of i cards start = cond (eqb (start_number cards) 0) Part.anew Part.none
  part_of i cards (line number text reply store) =
      goes_to i number (row_outcome n cards number text (length reply) (length store)).k (Calls.Call.line text reply store)
  part_of i cards (load number bytes) = goes_to i number (row_load_number n cards number bytes) (Calls.Call.load bytes)
  part_of i cards (tick full input) =
      cond (eqb (tick_number cards input) 0)
      (Part.own (Calls.Call.tick full input.code (λ c. shared_lines n c (input_for input i) (low_lines n input.code 0 cards)))) Part.none

  -- ---- lists

  unfoldable pub heard_next : (i : ℕ) → List Card → RackCall → Heard → Heard
  heard_next i cards call was = heard_more was (part_of i cards call) (answer_to i (answer n cards call))

  -- what the card at place i has heard since the last accepted start
  abbrev pub heard : (i : ℕ) → List Card → List RackCall → Heard
  heard i cards calls = since (after_call n) (heard_next i) cards calls nothing

  -- the card at a place of the row that a list of rack calls leaves is the card that its own calls
  -- leave, with their answers
  pub record InRack (cards : ℕ) (calls : List RackCall) (i : ℕ) : Type 0 where
    pub card : get_or (end n (start_row n cards) calls) i (start_card n) ≡ Calls.end n (start_card n) (heard i (start_row n cards) calls).calls
    pub replies : (heard i (start_row n cards) calls).replies ≡ Calls.answers n (start_card n) (heard i (start_row n cards) calls).calls

  unfoldable pub IsCard : Type 0
  IsCard = (cards : ℕ) (calls : List RackCall) (i : ℕ) → i < cards → InRack cards calls i

-- ---- from a fresh card

-- the lines that make a fresh card a started one
unfoldable pub start_lines : List Call
start_lines =
    map (λ text. Calls.Call.line (bytes_of text) (replicate shortest_reply 0) [])
    ("M E=33" ∷ "36CCA Y=0" ∷ "M E=34" ∷ "36CCA Y=0" ∷ "M E=35" ∷ "36CCA Y=0" ∷ "M E=36" ∷ "36CCA Y=0" ∷ "M E=37" ∷ "36CCA Y=0" ∷ "M E=38" ∷ "36CCA Y=0"
    ∷ "M E=39" ∷ "36CCA Y=0" ∷ "M E=40" ∷ "36CCA Y=0" ∷ "M E=1" ∷ [])

-- all calls of the card at place i, from a fresh card on
abbrev pub calls_to : (cards : ℕ) → List RackCall → (i : ℕ) → List Call
calls_to cards calls i = start_lines ++ (heard cell_count i (start_row cell_count cards) calls).calls

-- the card at place i
abbrev pub card_in : (cards : ℕ) → List RackCall → (i : ℕ) → Card
card_in cards calls i = get_or (end cell_count (start_row cell_count cards) calls) i (start_card cell_count)

unfoldable pub Reached : Type 0
Reached = (cards : ℕ) (calls : List RackCall) (i : ℕ) → i < cards → card_in cards calls i ≡ Calls.end cell_count (fresh_of cell_count) (calls_to cards calls i)

-- document 02, 13: "Over every list of calls since a load or a fresh start", of each card of a rack
unfoldable pub RackTallied : Type 0
RackTallied = (cards : ℕ) (calls : List RackCall) (i : ℕ) → i < cards → Tallied cell_count (card_in cards calls i) (calls_to cards calls i)

-- every card of a rack has settings that lines could set, so it saves, loads and prints as a card
-- by itself
unfoldable pub RackValid : Type 0
RackValid = (cards : ℕ) (calls : List RackCall) (i : ℕ) → i < cards → valid_card cell_count (card_in cards calls i) ≡ true

-- who wakes in a quick tick of a card in a rack, by the calls that it has got and by what its last
-- tick read, whatever the other cards pull low
unfoldable pub RackWakes : Type 0
RackWakes = (cards : ℕ) (calls : List RackCall) (i : ℕ) → i < cards → Wakes cell_count (card_in cards calls i) (calls_to cards calls i)
