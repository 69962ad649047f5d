-- Document 02, 12: what the calls on a row of cards do, over the number n of cells of each.
use Rattle.std.specs.Prelude.{ℕ, suc, ◌+◌, ◌*◌, ◌-◌, Bool, false, not, ◌&&◌, ◌||◌, cond, List, [], ◌∷◌, ◌++◌, map, eqb, ltb, length, get_or, set, replicate}
use Rattle.std.specs.Int.Bits.{bit_or}
use Rattle.std.specs.List.{fold, list_any}
use Rattle.std.proofs.lemmas.List.Edits.{sets}
use Rattle.card.specs.declared.card.Card.{Card}
use Rattle.card.specs.declared.card.Connectors.{Connectors}
use Rattle.card.specs.Address.{cell_room, connector_count}
use Rattle.card.specs.Fresh.{started, fresh_cell}
use Rattle.ticks.specs.declared.view.Input.{Input}
use Rattle.ticks.specs.declared.tick.Answer.{Answer}
use Rattle.ticks.specs.declared.tick.Ticked.{Ticked}
use Rattle.saved.specs.Record.{load_number, loaded}
use Rattle.lines.specs.declared.line.Outcome.{Outcome}
use Rattle.lines.specs.declared.decision.Response.TheVariants.{Silent}
use Rattle.lines.specs.Line.{line_outcome, result_for}
use Rattle.rack.specs.declared.tick.Front.{Front}
use Rattle.rack.specs.declared.tick.RackInput.{RackInput}
use Rattle.rack.specs.declared.tick.RackTicked.{RackTicked}
use Rattle.rack.specs.declared.rack_calls.Replied.{Replied}
use Rattle.rack.specs.declared.row.Refused.{Refused}
use Rattle.rack.specs.declared.row.Refused.TheVariants.{OverSupply, NoRack, ByCard}
use Rattle.rack.specs.Shared.{pulls, shared_tick}
use Rattle.rack.specs.Supply.{most_cards, draws_of, over}

-- ---- 20: "a rack of 0 or over 4 cards or with one of 32 cells, a card number outside it or
-- samples not one for each card"

abbrev pub no_rack : ℕ
no_rack = 20

abbrev pub is_large : Card → Bool
is_large c = eqb c.size cell_room

abbrev pub any_large : List Card → Bool
any_large cards = list_any is_large cards

abbrev pub bad_length : ℕ → Bool
bad_length n = ltb n 1 || ltb most_cards n

abbrev pub bad_row : List Card → Bool
bad_row cards = bad_length (length cards) || any_large cards

-- cards are "numbered from 1"
abbrev pub bad_number : List Card → ℕ → Bool
bad_number cards number = bad_row cards || (ltb number 1 || ltb (length cards) number)

abbrev pub bad_fronts : List Card → RackInput → Bool
bad_fronts cards input = bad_row cards || not (eqb input.count (length cards))

-- ---- start: "makes every card of the row fresh, but with all front connectors as inputs"

abbrev pub inputs_only : Connectors
inputs_only = record { sources = replicate connector_count 0; push_pull = 0; open_drain = 0 }

abbrev pub start_card : ℕ → Card
start_card n = started n 0 (replicate n fresh_cell ++ replicate (cell_room - n) fresh_cell) inputs_only 0

unfoldable pub start_number : List Card → ℕ
start_number cards = cond (bad_row cards) no_rack 0

unfoldable pub started_row : ℕ → List Card → List Card
started_row n cards = cond (bad_row cards) cards (replicate (length cards) (start_card n))

-- ---- a tick

-- what a card samples: its own front beside the backplane
abbrev pub no_front : Front
no_front = record { sample = 0; attached = 0 }

abbrev pub input_for : RackInput → ℕ → Input
input_for r i =
    let front = get_or r.fronts i no_front in
    record { code = r.code; sample = r.sample * 256 + front.sample; attached = r.attached * 256 + front.attached }

-- "all drive": the lines that some card pulls low, with those of `low`
abbrev pub low_lines : (n code low : ℕ) → List Card → ℕ
low_lines n code low cards = fold (λ (l : ℕ) (c : Card). bit_or l (pulls n code c)) low cards

-- "then all sample, then all work out their cells": the cards from the i-th on
unfoldable pub ticks_from : ℕ → Bool → RackInput → (low i : ℕ) → List Card → List Ticked
ticks_from n full r low i [] = []
ticks_from n full r low i (c ∷ cs) = shared_tick n full c (input_for r i) low ∷ ticks_from n full r low (suc i) cs

abbrev pub row_ticks : ℕ → Bool → RackInput → List Card → List Ticked
row_ticks n full r cards = ticks_from n full r (low_lines n r.code 0 cards) 0 cards

abbrev pub cards_of : List Ticked → List Card
cards_of ts = map (λ (t : Ticked). t.card) ts

abbrev pub answers_of : List Ticked → List Answer
answers_of ts = map (λ (t : Ticked). t.answer) ts

unfoldable pub tick_number : List Card → RackInput → ℕ
tick_number cards r = cond (bad_fronts cards r) no_rack 0

unfoldable pub ticked_row : ℕ → Bool → RackInput → List Card → List Card
ticked_row n full r cards = cond (bad_fronts cards r) cards (cards_of (row_ticks n full r cards))

-- "each card's answer or idle, with 20 idle for all": four answers, those past the row idle
abbrev pub idle_answer : Answer
idle_answer = record { ran = false; driven = 0; cells = 0; woken = 0; count = 0 }

unfoldable pub row_answers : ℕ → Bool → RackInput → List Card → List Answer
row_answers n full r cards =
    cond (bad_fronts cards r) (replicate most_cards idle_answer) (sets (replicate most_cards idle_answer) 0 (answers_of (row_ticks n full r cards)))

abbrev pub row_ticked : ℕ → Bool → RackInput → List Card → RackTicked
row_ticked n full r cards = record { k = tick_number cards r; answers = row_answers n full r cards }

-- ---- a line and a load to one card: refused with 20 at once, with 19 where all else would be
-- accepted

-- the card of a number; past the row it is a started card
abbrev pub card_of : (n : ℕ) → List Card → (number : ℕ) → Card
card_of n cards number = get_or cards (number - 1) (start_card n)

abbrev pub over_supply : ℕ
over_supply = 19

abbrev pub refusal_number : Refused → ℕ
refusal_number OverSupply = over_supply
refusal_number NoRack = no_rack
refusal_number (ByCard k) = k

-- what the rack itself refuses of a call that would give number k and connectors b for a: 20 where
-- row and number are no rack's; 19 where all else is accepted and the supply does not bear it; 0
-- where it leaves the call as it is
abbrev pub refusal_in : (bad : Bool) → (numbers : List ℕ) → (place : ℕ) → (a b : Connectors) → (k : ℕ) → ℕ
refusal_in bad numbers place a b k = cond bad no_rack (cond (eqb k 0 && over numbers place a b) over_supply 0)

-- the outcome of a line, and the number of a load, of which the rack refuses r
abbrev pub outcome_by : (r : ℕ) → Card → Outcome → Outcome
outcome_by r c o = cond (eqb r 0) o (record { k = r; card = c; response = Silent })

abbrev pub number_by : (r k : ℕ) → ℕ
number_by r k = cond (eqb r 0) k r

abbrev pub outcome_in : (bad : Bool) → (numbers : List ℕ) → (place : ℕ) → Card → Outcome → Outcome
outcome_in bad numbers place c o = outcome_by (refusal_in bad numbers place c.connectors o.card.connectors o.k) c o

unfoldable pub row_outcome : (n : ℕ) → List Card → (number : ℕ) (text : List ℕ) (reply store : ℕ) → Outcome
row_outcome n cards number text reply store =
    outcome_in (bad_number cards number) (draws_of cards) (number - 1) (card_of n cards number) (line_outcome n (card_of n cards number) text reply store)

unfoldable pub lined_row : (n : ℕ) → List Card → (number : ℕ) (text : List ℕ) (reply store : ℕ) → List Card
lined_row n cards number text reply store = set cards (number - 1) (row_outcome n cards number text reply store).card

-- the number of a load that would give k and card d, and the card then
abbrev pub load_in : (bad : Bool) → (numbers : List ℕ) → (place : ℕ) → Card → (k : ℕ) → Card → ℕ
load_in bad numbers place c k d = number_by (refusal_in bad numbers place c.connectors d.connectors k) k

unfoldable pub row_load_number : ℕ → List Card → (number : ℕ) → List ℕ → ℕ
row_load_number n cards number bytes =
    load_in (bad_number cards number) (draws_of cards) (number - 1) (card_of n cards number) (load_number n bytes) (loaded n (card_of n cards number) bytes)

unfoldable pub loaded_row : ℕ → List Card → (number : ℕ) → List ℕ → List Card
loaded_row n cards number bytes =
    set cards (number - 1) (cond (eqb (row_load_number n cards number bytes) 0) (loaded n (card_of n cards number) bytes) (card_of n cards number))

-- what a line to a card of a row answers and leaves: its number and the reply's length, the row,
-- and the two buffers
pub record RowResult : Type 0 where
  pub k : ℕ
  pub len : ℕ
  pub row : List Card
  pub reply : List ℕ
  pub store : List ℕ

unfoldable pub row_result : ℕ → List Card → (number : ℕ) → (text reply store : List ℕ) → RowResult
row_result n cards number text reply store =
    let r = result_for n (card_of n cards number) (row_outcome n cards number text (length reply) (length store)) reply store in
    record { k = r.k; len = r.len; row = set cards (number - 1) r.card; reply = r.reply; store = r.store }

-- what the call gave, beside the row and the buffers as it left them
abbrev pub row_result_of : Replied → List Card → (reply store : List ℕ) → RowResult
row_result_of r row reply store = record { k = r.k; len = r.len; row = row; reply = reply; store = store }
