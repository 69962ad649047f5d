-- Document 01, row 15 of "When the card says no", "record value no line could set": the settings
-- that a record may hold are those that lines set.
use Rattle.std.specs.Prelude.{ℕ, ◌+◌, ◌≤◌, ◌≡◌, ◌↔◌, Bool, true, ◌&&◌, List, [], ◌∷◌, map, eqb, take, replicate}
use Rattle.cells.specs.declared.cell.Cell.{Cell}
use Rattle.card.specs.declared.card.Card.{Card}
use Rattle.card.specs.declared.card.Connectors.{Connectors}
use Rattle.card.specs.Address.{first_cell, first_connector}
use Rattle.card.specs.Connectors.{each}
use Rattle.card.specs.Edits.{cleared_cell}
use Rattle.card.specs.Fresh.{fresh_of}
use Rattle.card.specs.Valid.{valid_settings}
use Rattle.lines.specs.Line.{shortest_reply, line_outcome}
use Rattle.calls.specs.Calls.{Call, end}
use Rattle.calls.specs.Calls.Call.{line}
use Rattle.wiring.specs.Wiring.{wiring_lines}

-- lines one after the other, with buffers of these lengths: the card that they leave, and whether
-- each is accepted
unfoldable pub fed : (n reply store : ℕ) → Card → List (List ℕ) → Card
fed n reply store c [] = c
fed n reply store c (text ∷ texts) = fed n reply store (line_outcome n c text reply store).card texts

unfoldable pub all_accepted : (n reply store : ℕ) → Card → List (List ℕ) → Bool
all_accepted n reply store c [] = true
all_accepted n reply store c (text ∷ texts) =
    eqb (line_outcome n c text reply store).k 0 && all_accepted n reply store (line_outcome n c text reply store).card texts

-- a card has these settings, and every state is clear
pub record Has (n t : ℕ) (cs : List Cell) (ks : Connectors) (c : Card) : Type 0 where
  pub trigger : c.trigger ≡ t
  pub cells : take n c.cells ≡ map cleared_cell (take n cs)
  pub connectors : c.connectors ≡ ks

-- valid settings are set by their lines on a fresh card, of any number of cells whose places end
-- before those of the connectors
unfoldable pub Settable : Type 0
Settable = (n reply store trigger : ℕ) (cells : List Cell) (connectors : Connectors) → first_cell + n ≤ first_connector → shortest_reply ≤ reply
    → valid_settings n trigger cells connectors ≡ true → let texts = wiring_lines trigger (take n cells) (each connectors) in
    (all_accepted n reply store (fresh_of n) texts ≡ true) × Has n trigger cells connectors (fed n reply store (fresh_of n) texts)

-- lines as calls, each with room for its reply and no store
abbrev pub line_calls : List (List ℕ) → List Call
line_calls texts = map (λ (text : List ℕ). line text (replicate shortest_reply 0) []) texts

-- some list of lines sets these settings on a fresh card
unfoldable pub SetByLines : (n trigger : ℕ) → List Cell → Connectors → Type 0
SetByLines n trigger cells connectors = (texts : List (List ℕ)) × Has n trigger cells connectors (end n (fresh_of n) (line_calls texts))

-- "record value no line could set": settings are valid where lines set them, and nowhere else
unfoldable pub ValidIsSettable : ℕ → Type 0
ValidIsSettable n = (trigger : ℕ) (cells : List Cell) (connectors : Connectors)
    → (valid_settings n trigger cells connectors ≡ true) ↔ SetByLines n trigger cells connectors
