-- `session::step::start` meets its contract: no byte is read, and none is pending.
use Rattle.std.proofs.Common.{ap}
use Rattle.input.specs.Reading.{is_line}
use Rattle.session.proofs.Feeds.{fed-first}
use Rattle.session.proofs.step.start.Goals as goal

pub returns : goal.returns
returns c =
    let r = c.new-reader.ensures in
    λ block. fed-first _ _ block c.fresh_of-card.ensures (ap is_line r.found_value) r.start_value.2
