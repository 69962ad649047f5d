-- Document 02, 12: lists of rack calls, each on the row that the one before it left, over the
-- number n of cells of each card.
use Rattle.std.specs.Prelude.{ℕ, ◌≡◌, Bool, false, ◌&&◌, cond, List, [], eqb, length}
use Rattle.std.proofs.lemmas.List.Edits.{sets}
use Rattle.card.specs.declared.card.Card.{Card}
use Rattle.saved.specs.Record.{config_width, record_of}
use Rattle.lines.specs.Line.{saves, reply_with}
use Rattle.calls.specs.Runs.{end_of, answers_of}
use Rattle.rack.specs.declared.tick.RackInput.{RackInput}
use Rattle.rack.specs.declared.tick.RackTicked.{RackTicked}
use Rattle.rack.specs.Rack.{start_number, started_row, row_ticked, ticked_row, card_of, row_outcome, lined_row, row_result, row_load_number, loaded_row}

-- a start, a line and a load to the card of a number, a tick of either kind
pub data RackCall : Type 0 where
  start : RackCall
  line : (number : ℕ) (text reply store : List ℕ) → RackCall
  load : (number : ℕ) (bytes : List ℕ) → RackCall
  tick : (full : Bool) (input : RackInput) → RackCall

-- what each call answers: of a start and a load its number; of a line its number, the reply (with
-- its length) and the bytes that it saved; of a tick its number and the answers
pub data RackReply : Type 0 where
  number_reply : (k : ℕ) → RackReply
  line_reply : (k : ℕ) (reply saved : List ℕ) → RackReply
  tick_reply : (ticked : RackTicked) → RackReply

-- 0 or the number of the refusal
unfoldable pub number_of : RackReply → ℕ
number_of (number_reply k) = k
number_of (line_reply k reply saved) = k
number_of (tick_reply ticked) = ticked.k

module _ (n : ℕ) where
  -- a reply buffer under 16 bytes gets no reply, also with 20
  unfoldable pub row_reply : List Card → (number : ℕ) (text : List ℕ) (reply store : ℕ) → List ℕ
  row_reply cards number text reply store =
      let o = row_outcome n cards number text reply store in
      reply_with reply o.k o.response

  -- "the bytes that `36SS Z` wrote"
  unfoldable pub row_saved : List Card → (number : ℕ) (text : List ℕ) (reply store : ℕ) → List ℕ
  row_saved cards number text reply store =
      let o = row_outcome n cards number text reply store in
      cond (eqb o.k 0 && saves o.response) (record_of n config_width (card_of n cards number)) []

  -- what a line answers and saves is what it leaves in the buffers, and the row is the one that it
  -- leaves
  pub record Buffers (cards : List Card) (number : ℕ) (text reply store : List ℕ) : Type 0 where
    pub k : (row_result n cards number text reply store).k ≡ (row_outcome n cards number text (length reply) (length store)).k
    pub len : (row_result n cards number text reply store).len ≡ length (row_reply cards number text (length reply) (length store))
    pub row : (row_result n cards number text reply store).row ≡ lined_row n cards number text (length reply) (length store)
    pub replied : (row_result n cards number text reply store).reply ≡ sets reply 0 (row_reply cards number text (length reply) (length store))
    pub stored : (row_result n cards number text reply store).store ≡ sets store 0 (row_saved cards number text (length reply) (length store))

  unfoldable pub RackBuffers : Type 0
  RackBuffers = (cards : List Card) (number : ℕ) (text reply store : List ℕ) → Buffers cards number text reply store

  -- the row after a call, and the call's answer
  unfoldable pub after_call : List Card → RackCall → List Card
  after_call cards start = started_row n cards
  after_call cards (line number text reply store) = lined_row n cards number text (length reply) (length store)
  after_call cards (load number bytes) = loaded_row n cards number bytes
  after_call cards (tick full input) = ticked_row n full input cards

  unfoldable pub answer : List Card → RackCall → RackReply
  answer cards start = number_reply (start_number cards)
  answer cards (line number text reply store) =
      line_reply (row_outcome n cards number text (length reply) (length store)).k (row_reply cards number text (length reply) (length store))
      (row_saved cards number text (length reply) (length store))
  answer cards (load number bytes) = number_reply (row_load_number n cards number bytes)
  answer cards (tick full input) = tick_reply (row_ticked n full input cards)

  -- document 01, demand 1, of a row: a refused call "changes nothing", whatever cards the row has
  unfoldable pub RefusedRow : Type 0
  RefusedRow = (cards : List Card) (call : RackCall) → eqb (number_of (answer cards call)) 0 ≡ false → after_call cards call ≡ cards

  -- a list of calls: the row at its end, and the answers
  abbrev pub end : List Card → List RackCall → List Card
  end = end_of after_call

  abbrev pub answers : List Card → List RackCall → List RackReply
  answers = answers_of after_call answer
