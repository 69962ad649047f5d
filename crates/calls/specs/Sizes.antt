-- Document 02, "Thirty-two cells": the number of cells of a card is one of its own, and no call
-- changes it.
use Rattle.std.specs.Prelude.{ℕ, ◌≡◌, List}
use Rattle.card.specs.Fresh.{fresh_of}
use Rattle.calls.specs.Calls.{Call, end}

-- after any list of calls from a fresh card of n cells, the card's size says n
unfoldable pub SizeKept : ℕ → Type 0
SizeKept n = (calls : List Call) → (end n (fresh_of n) calls).size ≡ n
