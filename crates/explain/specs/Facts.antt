-- What the facts of a line keep of the answer to it.
use Rattle.session.specs.declared.Entered.{Entered}
use Rattle.explain.specs.declared.facts.Facts.{Facts}

-- the card after the line, what the line did, and how many bytes it prints
abbrev pub answer_of : Facts → Entered
answer_of f = record { card = f.after.card; event = f.event; len = f.len }
