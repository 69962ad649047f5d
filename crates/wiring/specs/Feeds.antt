-- Document 02: "Fed line by line to a fresh card, the lines of any card that calls can reach give a
-- card with the same settings and trigger."
use Rattle.std.specs.Prelude.{ℕ, ◌≤◌, ◌≡◌, true, cond, List, [], ◌∷◌, ◌++◌, eqb}
use Rattle.card.specs.Fresh.{fresh_of}
use Rattle.lines.specs.Line.{shortest_reply}
use Rattle.calls.specs.Calls.{Call, end}
use Rattle.wiring.specs.Settable.{fed, all_accepted, Has}
use Rattle.wiring.specs.Parts.{line_feed}
use Rattle.wiring.specs.Print.{wiring_text}

-- the lines of a text, each ended by LF, after the bytes of a line that has not ended
unfoldable pub lines_behind : List ℕ → List ℕ → List (List ℕ)
lines_behind line [] = []
lines_behind line (b ∷ bs) = cond (eqb b line_feed) (line ∷ lines_behind [] bs) (lines_behind (line ++ (b ∷ [])) bs)

abbrev pub lines_in : List ℕ → List (List ℕ)
lines_in text = lines_behind [] text

-- the lines that a card prints after any list of calls are each accepted by a fresh card, where
-- they have room for their replies, and set there what they were printed of
unfoldable pub FeedsBack : ℕ → Type 0
FeedsBack n = (calls : List Call) (reply store : ℕ) → shortest_reply ≤ reply
    → let c = end n (fresh_of n) calls in let texts = lines_in (wiring_text n c) in
    (all_accepted n reply store (fresh_of n) texts ≡ true) × Has n c.trigger c.cells c.connectors (fed n reply store (fresh_of n) texts)
