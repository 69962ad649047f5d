-- Document 02, "Print the wiring as lines": the text that a card of n cells prints of itself, and
-- what the call gives.
use Rattle.std.specs.Prelude.{ℕ, Bool, cond, List, ltb, length, take}
use Rattle.std.proofs.lemmas.List.Edits.{sets}
use Rattle.card.specs.Connectors.{each}
use Rattle.card.specs.declared.card.Card.{Card}
use Rattle.wiring.specs.Wiring.{wiring}
use Rattle.wiring.specs.Parts.{commands_text}

-- "For cells 1 to 16 ... Then connectors 33 to 48 ... Then `PM E`": the lines of `wiring`
unfoldable pub wiring_text : ℕ → Card → List ℕ
wiring_text n c = commands_text (wiring c.trigger (take n c.cells) (each c.connectors))

-- "when the text is longer than the buffer"
abbrev pub too_long : ℕ → Card → (size : ℕ) → Bool
too_long n c size = ltb size (length (wiring_text n c))

-- "k": 0, or 16
abbrev pub print_number : ℕ → Card → (size : ℕ) → ℕ
print_number n c size = cond (too_long n c size) 16 0

-- "the text's length, 0 when refused"
abbrev pub print_length : ℕ → Card → (size : ℕ) → ℕ
print_length n c size = cond (too_long n c size) 0 (length (wiring_text n c))

-- "the buffer is then untouched"; else the text is at its front, and what lies beyond is as it
-- was
abbrev pub printed_to : ℕ → Card → (buffer : List ℕ) → List ℕ
printed_to n c buffer = cond (too_long n c (length buffer)) buffer (sets buffer 0 (wiring_text n c))
