-- `card::presets::connectors_under` meets its contract: after k turns the first k connectors are those under the row.
use Rattle.std.proofs.Common.{◌≡◌, refl, zero-le, arith, rules}
use Rattle.words.specs.Listed.{listed}
use Rattle.words.proofs.Listed.{listed_next, listed-done}
use Rattle.card.specs.Address.{connector_count}
use Rattle.card.specs.Connectors.{no_connector}
use Rattle.card.proofs.presets.connectors_under.Goals as goal
use Rattle.card.proofs.presets.connectors_under.Invariants.{under}

pub loop-k-init : goal.loop-k-init
unfolding listed
loop-k-init c = (zero-le, refl)

pub loop-k-preserved : goal.loop-k-preserved
loop-k-preserved c =
    let a = c.args in
    let l = c.loop-k in (
      omega arith,
      listed_next (under a.row a.connectors) l.k a.connectors l.next _ no_connector l.invariant.1 c.connector_under.ensures (search rules),
    )

pub returns : goal.returns
returns c =
    let a = c.args in
    let l = c.loop-k in
    let end : l.k ≡ connector_count = omega arith in
    listed-done (under a.row a.connectors) connector_count a.connectors l.next (rw end at l.invariant.1) (search rules)
