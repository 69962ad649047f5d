-- `survey::driven_from` meets its contract.
use mathlib.Core.Path.{ap}
use mathlib.Core.Bool.{Bool, ◌&&◌}
use Rattle.card.specs.Connectors.{is_output}
use Rattle.survey.specs.Survey.{driven_from}
use Rattle.survey.proofs.driven_from.Goals as goal

pub returns : goal.returns
unfolding driven_from
returns c =
    let a = c.args in
    ap (λ (b : Bool). is_output a.c.kind && b) c.holds.ensures
