-- Demand 3, as document 01's "Lists of calls" puts it: two fresh cards get the same lines, records,
-- clock codes and samples, and buffers of the same lengths; the kinds of their ticks may differ.
-- This file states what is compared.
use Rattle.std.specs.Prelude.{ℕ, ◌≡◌, Bool, length}
use mathlib.Core.List.{List, Forall₂}
use Rattle.card.specs.declared.card.Card.{Card}
use Rattle.card.specs.Fresh.{fresh_of}
use Rattle.ticks.specs.declared.tick.Answer.{Answer}
use Rattle.ticks.specs.declared.connectors.Lines.{Lines}
use Rattle.calls.specs.Calls.{Call, Reply, end, answers}
use Rattle.calls.specs.Calls.Call.{line, load, tick}
use Rattle.calls.specs.Calls.Reply.{line_reply, load_reply, tick_reply}

-- "Both cards get the same lines, records, clock codes and samples, and buffers of the same
-- lengths, whatever these hold"; of a tick also the word of what is attached (document 02, 5:
-- "their agreement covers torn cables")
pub data SameCall : Call → Call → Type 0 where
  same_line : (text reply other store another : List ℕ) → length reply ≡ length other → length store ≡ length another
      → SameCall (line text reply store) (line text other another)
  same_load : (bytes : List ℕ) → SameCall (load bytes) (load bytes)
  same-tick : (full quick : Bool) (code : ℕ) (on : Card → Lines) → SameCall (tick full code on) (tick quick code on)

abbrev pub SameCalls : List Call → List Call → Type 0
SameCalls = Forall₂ SameCall

-- "At each call: of a line k, the reply's length and bytes, and the bytes that `36SS Z` wrote; of a
-- load k; of a tick whether it ran ..., driven word and cell word"
pub data AlikeReply : Reply → Reply → Type 0 where
  alike-line : (k : ℕ) (reply saved : List ℕ) → AlikeReply (line_reply k reply saved) (line_reply k reply saved)
  alike-load : (k : ℕ) → AlikeReply (load_reply k) (load_reply k)
  alike-tick : {a b : Answer} → a.ran ≡ b.ran → a.driven ≡ b.driven → a.cells ≡ b.cells → AlikeReply (tick_reply a) (tick_reply b)

abbrev pub AlikeReplies : List Reply → List Reply → Type 0
AlikeReplies = Forall₂ AlikeReply

-- "Compared after the list: pointer; settings ...; states ...; outputs, levels and driven word":
-- the whole cards are equal
unfoldable pub Demand3 : ℕ → Type 0
Demand3 n = (calls others : List Call) → SameCalls calls others
    → (end n (fresh_of n) calls ≡ end n (fresh_of n) others) × AlikeReplies (answers n (fresh_of n) calls) (answers n (fresh_of n) others)
