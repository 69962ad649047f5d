-- Document 01, "Lists of calls": calls of any kind in any order, each on the card that the one
-- before it returned, over the number n of cells. Built from the definitions that the contracts of
-- `line`, `load`, `full_tick` and `quick_tick` cite. A tick has any lines: those of a card by
-- itself are its own, and those of a card in a rack come from all cards of the row.
use Rattle.std.specs.Prelude.{ℕ, Bool, ◌&&◌, cond, List, [], eqb, length}
use Rattle.card.specs.declared.card.Card.{Card}
use Rattle.ticks.specs.declared.connectors.Lines.{Lines}
use Rattle.ticks.specs.declared.view.Input.{Input}
use Rattle.ticks.specs.declared.tick.Answer.{Answer}
use Rattle.ticks.specs.Tick.{lines, tick_on}
use Rattle.saved.specs.Record.{config_width, record_of, load_number, loaded}
use Rattle.lines.specs.Line
use Rattle.lines.specs.Line.{line_outcome}
use Rattle.calls.specs.Runs.{end_of, answers_of}

-- a line with its text and the two buffers as given, a load of any bytes, a tick of either kind
-- with its clock code and the lines that it has on a card
pub data Call : Type 0 where
  line : (text reply store : List ℕ) → Call
  load : (bytes : List ℕ) → Call
  tick : (full : Bool) (code : ℕ) (on : Card → Lines) → Call

-- a tick of a card by itself: what its connectors drive and show by what comes in
abbrev pub own_tick : ℕ → Bool → Input → Call
own_tick n full input = Call.tick full input.code (λ c. lines n c input)

-- what each call answers: of a line its number, the reply (with its length) and the bytes that it
-- saved; of a load its number; of a tick its answer
pub data Reply : Type 0 where
  line_reply : (k : ℕ) (reply saved : List ℕ) → Reply
  load_reply : (k : ℕ) → Reply
  tick_reply : (answer : Answer) → Reply

module _ (n : ℕ) where
  -- "the bytes that `36SS Z` wrote"
  unfoldable pub saved_bytes : Card → (text : List ℕ) → (reply store : ℕ) → List ℕ
  saved_bytes c text reply store =
      cond (eqb (line_outcome n c text reply store).k 0 && Line.saves (line_outcome n c text reply store).response) (record_of n config_width c) []

  -- the card after a call, and the call's answer
  unfoldable pub after_call : Card → Call → Card
  after_call c (line text reply store) = (line_outcome n c text (length reply) (length store)).card
  after_call c (load bytes) = loaded n c bytes
  after_call c (tick full code on) = (tick_on n full c code (on c)).card

  unfoldable pub answer : Card → Call → Reply
  answer c (line text reply store) =
      line_reply (line_outcome n c text (length reply) (length store)).k (Line.line_reply n c text (length reply) (length store))
      (saved_bytes c text (length reply) (length store))
  answer c (load bytes) = load_reply (load_number n bytes)
  answer c (tick full code on) = tick_reply (tick_on n full c code (on c)).answer

  -- a list of calls: the card at its end, and the answers
  abbrev pub end : Card → List Call → Card
  end = end_of after_call

  abbrev pub answers : Card → List Call → List Reply
  answers = answers_of after_call answer
