-- Document 01, "Lines": what a line answers, what it does to the card, and what it leaves in the
-- two buffers.
use Rattle.std.specs.Prelude.{ℕ, Bool, true, false, ◌&&◌, cond, List, [], ◌++◌, eqb, ltb, length, Option, Some, None, Result, Ok, Err}
use Rattle.std.proofs.lemmas.List.Edits.{sets}
use Rattle.text.specs.Decimal.{decimal}
use Rattle.text.specs.Written.{bytes_of}
use Rattle.card.specs.declared.card.Card.{Card}
use Rattle.card.specs.declared.change.Change.{Change}
use Rattle.card.specs.declared.change.Change.TheVariants as Changes
use Rattle.card.specs.declared.change.Wires.{Wires}
use Rattle.card.specs.declared.context.Context.{Context}
use Rattle.card.specs.Change.{changed}
use Rattle.card.specs.Context.{context_of, type_read, config_read, state_read, slot_read, front_read, back_read, lower_read, upper_read}
use Rattle.saved.specs.Record.{config_width, saved_to}
use Rattle.grammar.specs.declared.grammar.Pairs.{Pairs}
use Rattle.grammar.specs.declared.grammar.Slot.{Slot}
use Rattle.grammar.specs.declared.grammar.Slot.TheVariants.{X, Y, Z, F}
use Rattle.grammar.specs.declared.grammar.Command.{Command}
use Rattle.grammar.specs.declared.grammar.Command.TheVariants.{Move, Where, Trigger, Home, Preset, SetKind, SetConfig, SetState, GetKind, GetConfig}
use Rattle.grammar.specs.declared.grammar.Command.TheVariants.{GetState, SetSlots, GetSlot, Front, Back, Cells, Upper, Save}
use Rattle.grammar.specs.declared.grammar.NoCommand.{NoCommand}
use Rattle.lines.specs.declared.decision.Response.{Response}
use Rattle.lines.specs.declared.decision.Response.TheVariants.{Silent, Number, Saves}
use Rattle.lines.specs.declared.decision.Accepted.{Accepted}
use Rattle.lines.specs.declared.refused.Refused.{Refused}
use Rattle.lines.specs.declared.refused.Refused.TheVariants.{NoRoom}
use Rattle.lines.specs.declared.line.Answered.{Answered}
use Rattle.lines.specs.declared.line.Outcome.{Outcome}
use Rattle.grammar.specs.Grammar.{given, parse}
use Rattle.lines.specs.Refusal.{number_of, of_no_command, refusal}

-- ---- what an accepted command changes; reads and `36SS Z` change nothing in the card

-- the slots that are given, each with its address
abbrev pub wire_of : Option ℕ → ℕ
wire_of None = 0
wire_of (Some v) = v

abbrev pub wires_of : Pairs → Wires
wires_of p = record { given = given p; x = wire_of p.x; y = wire_of p.y; z = wire_of p.z; f = wire_of p.f }

unfoldable pub change_for : Context → Command → Change
change_for x (Move v) = Changes.Pointer v
change_for x Where = Changes.Nothing
change_for x (Trigger v) = Changes.Trigger v
change_for x Home = Changes.Home
change_for x (Preset v) = Changes.Preset v
change_for x (SetKind v) = cond x.at_cell (Changes.Kind v) (Changes.ConnectorKind v)
change_for x (SetConfig v) = cond x.at_cell (Changes.Config v) (Changes.Source v)
change_for x (SetState v) = Changes.State v
change_for x GetKind = Changes.Nothing
change_for x GetConfig = Changes.Nothing
change_for x GetState = Changes.Nothing
change_for x (SetSlots p) = Changes.Slots (wires_of p)
change_for x (GetSlot s) = Changes.Nothing
change_for x Front = Changes.Nothing
change_for x Back = Changes.Nothing
change_for x Cells = Changes.Nothing
change_for x Upper = Changes.Nothing
change_for x Save = Changes.Nothing

-- what an accepted command makes of a card
abbrev pub obeyed : ℕ → Card → Command → Card
obeyed n c command = changed n c (change_for (context_of n c) command)

-- ---- the response to a command: nothing, a number, or the record

-- it is to save the record
abbrev pub saves : Response → Bool
saves Silent = false
saves (Number v) = false
saves Saves = true

-- a slot's place among the four
abbrev pub slot_index : Slot → ℕ
slot_index X = 0
slot_index Y = 1
slot_index Z = 2
slot_index F = 3

unfoldable pub response_to : Context → Command → Response
response_to x (Move v) = Silent
response_to x Where = Number x.pointer
response_to x (Trigger v) = Silent
response_to x Home = Silent
response_to x (Preset v) = Silent
response_to x (SetKind v) = Silent
response_to x (SetConfig v) = Silent
response_to x (SetState v) = Silent
response_to x GetKind = Number (type_read x)
response_to x GetConfig = Number (config_read x)
response_to x GetState = Number (state_read x)
response_to x (SetSlots p) = Silent
response_to x (GetSlot s) = Number (slot_read x (slot_index s))
response_to x Front = Number (front_read x)
response_to x Back = Number (back_read x)
response_to x Cells = Number (lower_read x)
response_to x Upper = Number (upper_read x)
response_to x Save = Saves

-- ---- a line obeyed or refused

-- a read, and a write
abbrev pub read_as : ℕ → Accepted
read_as v = record { change = Changes.Nothing; response = Number v }

abbrev pub written_as : Change → Accepted
written_as change = record { change = change; response = Silent }

-- the change and the response, where no refusal applies
abbrev pub decided : Option Refused → Change → Response → Result Accepted Refused
decided None change response = Ok (record { change = change; response = response })
decided (Some why) change response = Err why

unfoldable pub decision : (n : ℕ) → Context → (store : ℕ) → Command → Result Accepted Refused
decision n x store command = decided (refusal n x store command) (change_for x command) (response_to x command)

unfoldable pub decision_for : (n : ℕ) → Context → (store : ℕ) → Result Command NoCommand → Result Accepted Refused
decision_for n x store (Err none) = Err (of_no_command none)
decision_for n x store (Ok command) = decision n x store command

-- 1: "reply under 16 bytes"
abbrev pub shortest_reply : ℕ
shortest_reply = 16

-- by the lengths of the two buffers: under 16 bytes of reply, nothing at all
unfoldable pub line_decision : (n : ℕ) → Context → (text : List ℕ) (reply store : ℕ) → Result Accepted Refused
line_decision n x text reply store = cond (ltb reply shortest_reply) (Err NoRoom) (decision_for n x store (parse n text))

-- the number, 0 where it is accepted; the change, which a refused command makes none of; the response
abbrev pub number_in : Result Accepted Refused → ℕ
number_in (Ok accepted) = 0
number_in (Err why) = number_of why

abbrev pub change_in : Result Accepted Refused → Change
change_in (Ok accepted) = accepted.change
change_in (Err why) = Changes.Nothing

abbrev pub response_in : Result Accepted Refused → Response
response_in (Ok accepted) = accepted.response
response_in (Err why) = Silent

-- the change that a line makes in a card
abbrev pub line_change : (n : ℕ) → Card → (text : List ℕ) (reply store : ℕ) → Change
line_change n c text reply store = change_in (line_decision n (context_of n c) text reply store)

-- what a line comes to: its number, the card, and the response
abbrev pub outcome_of : ℕ → Card → Result Accepted Refused → Outcome
outcome_of n c d = record { k = number_in d; card = changed n c (change_in d); response = response_in d }

unfoldable pub line_outcome : (n : ℕ) → Card → (text : List ℕ) (reply store : ℕ) → Outcome
line_outcome n c text reply store = outcome_of n c (line_decision n (context_of n c) text reply store)

-- ---- the answer to a line

-- CR LF
abbrev pub ending : List ℕ
ending = bytes_of "\r\n"

-- "The reply is `:A` or `:A n`, refused `:N-k`, each with CR LF"
abbrev pub told : Response → List ℕ
told Silent = []
told (Number v) = bytes_of " " ++ decimal v
told Saves = []

abbrev pub acceptance : Response → List ℕ
acceptance r = bytes_of ":A" ++ told r ++ ending

abbrev pub refusal_text : ℕ → List ℕ
refusal_text k = bytes_of ":N-" ++ decimal k ++ ending

unfoldable pub reply_of : ℕ → Response → List ℕ
reply_of k r = cond (eqb k 0) (acceptance r) (refusal_text k)

-- a reply buffer under 16 bytes gets no reply
abbrev pub reply_with : (reply k : ℕ) → Response → List ℕ
reply_with reply k r = cond (ltb reply shortest_reply) [] (reply_of k r)

unfoldable pub line_reply : (n : ℕ) → Card → (text : List ℕ) (reply store : ℕ) → List ℕ
line_reply n c text reply store =
    let o = line_outcome n c text reply store in
    reply_with reply o.k o.response

-- "`36SS Z` writes the record to the front of the store"; a refused line, and any other, leaves the
-- store as it was
abbrev pub store_with : ℕ → Card → Outcome → List ℕ → List ℕ
store_with n c o store = cond (eqb o.k 0 && saves o.response) (saved_to n config_width c store) store

unfoldable pub store_after : (n : ℕ) → Card → (text : List ℕ) (reply : ℕ) (store : List ℕ) → List ℕ
store_after n c text reply store = store_with n c (line_outcome n c text reply (length store)) store

-- all that a line answers and leaves: its number, the reply's length, the card, and the two buffers
pub record LineResult : Type 0 where
  pub k : ℕ
  pub len : ℕ
  pub card : Card
  pub reply : List ℕ
  pub store : List ℕ

-- the answer to an outcome of card c, which has n cells: the reply is "at the front of the reply
-- buffer", which is as it was beyond
abbrev pub result_for : ℕ → Card → Outcome → (reply store : List ℕ) → LineResult
result_for n c o reply store =
    record {
      k = o.k;
      len = length (reply_with (length reply) o.k o.response);
      card = o.card;
      reply = sets reply 0 (reply_with (length reply) o.k o.response);
      store = store_with n c o store;
    }

abbrev pub line_result : (n : ℕ) → Card → (text reply store : List ℕ) → LineResult
line_result n c text reply store = result_for n c (line_outcome n c text (length reply) (length store)) reply store

-- what the call gave, beside the buffers as it left them
abbrev pub result_of : Answered → (reply store : List ℕ) → LineResult
result_of r reply store = record { k = r.k; len = r.len; card = r.card; reply = reply; store = store }
