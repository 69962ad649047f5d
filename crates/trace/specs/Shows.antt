-- What one line of input shows, beside what it leaves (`entered` of the session).
use Rattle.std.specs.Prelude.{ℕ, ◌+◌, ◌*◌, ◌^◌, Option, Some, None}
use Rattle.card.specs.declared.card.Card.{Card}
use Rattle.session.specs.declared.Event.{Event}
use Rattle.session.specs.declared.Event.TheVariants.{Tick, Load, Line}
use Rattle.trace.specs.declared.Shown.{Shown}

-- a tick that left this card shows itself, with the levels that the card read in it; another line
-- shows none
unfoldable pub shown_in : Event → Card → Option Shown
shown_in (Tick t) c = Some (record { tick = t; levels = c.memory.levels })
shown_in (Load _) c = None
shown_in (Line _) c = None

-- the levels, the driven word and the cell word side by side
abbrev pub packed : Shown → ℕ
packed s = s.levels + s.tick.answer.driven * 2 ^ 16 + s.tick.answer.cells * 2 ^ 32
