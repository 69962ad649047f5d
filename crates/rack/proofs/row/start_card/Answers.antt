-- `rack::row::start_card` meets its contract: a fresh card with other connectors.
use mathlib.Core.Path.{ap}
use Rattle.card.specs.declared.card.Card.{Card}
use Rattle.card.specs.Fresh.{fresh}
use Rattle.rack.specs.Rack.{inputs_only}
use Rattle.rack.proofs.row.start_card.Goals as goal

pub returns : goal.returns
unfolding fresh
returns c =
    ap (λ (x : Card). record {
      cells = x.cells;
      connectors = inputs_only;
      edited = x.edited;
      memory = x.memory;
      pointer = x.pointer;
      trigger = x.trigger;
      size = x.size;
      tallies = x.tallies;
    })
    c.fresh.ensures
