-- A quick tick for a card that is changed where it is: where every cell sleeps it changes the
-- memory and the tick total, and nothing else. No rule of document 01 is defined here; the law is
-- that such a tick is the tick of specs/Tick.
use Rattle.std.specs.Prelude.{ℕ, ◌+◌, ◌≡◌, Bool, true, false, cond, ltb}
use Rattle.cells.specs.declared.cell.Ticks.{Ticks}
use Rattle.card.specs.declared.card.Card.{Card}
use Rattle.card.specs.declared.card.Memory.{Memory}
use Rattle.card.specs.Tally.{ticks, standstill}
use Rattle.ticks.specs.declared.brief.Brief.{Brief}
use Rattle.ticks.specs.declared.connectors.Lines.{Lines}
use Rattle.ticks.specs.declared.view.Input.{Input}
use Rattle.ticks.specs.Tick.{moved, lines, ticked_on}

-- the tick total after a tick that ran
abbrev pub one_more : Ticks → Ticks
one_more t = ticks (cond (ltb t.0 standstill) (t.0 + 1) t.0)

-- a tick with these lines in which every cell sleeps, on the memory m and this total
abbrev pub slept_brief : Memory → Lines → Ticks → (quiet : Bool) → Brief
slept_brief m l total quiet =
    record {
      memory = moved m l m.outputs;
      total = one_more total;
      answer = record { ran = true; driven = l.driven; cells = m.outputs; woken = 0; count = 0 };
      lines = l;
      quiet = quiet;
    }

-- the card with what such a tick changes
abbrev pub with_brief : Card → Brief → Card
with_brief c b =
    record {
      pointer = c.pointer;
      trigger = c.trigger;
      cells = c.cells;
      connectors = c.connectors;
      edited = c.edited;
      memory = b.memory;
      size = c.size;
      tallies = record { cells = c.tallies.cells; total = b.total };
    }

-- a quick tick in brief: its lines, and where it says that it is quiet, the whole tick
pub record BriefOf (n : ℕ) (c : Card) (input : Input) (b : Brief) : Type 0 where
  pub lines : b.lines ≡ lines n c input
  pub quiet : b.quiet ≡ true → ticked_on n false c b.lines ≡ record { card = with_brief c b; answer = b.answer }
