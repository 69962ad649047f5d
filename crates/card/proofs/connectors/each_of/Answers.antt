-- `card::connectors::each_of` meets its contract: after k turns the first k are there.
use Rattle.std.proofs.Common.{◌≡◌, ◌<◌, replicate, refl, zero-le, le_refl, arith, rules}
use Rattle.words.specs.Listed.{listed}
use Rattle.words.proofs.Listed.{listed_next, listed-done}
use Rattle.card.specs.Address.{connector_count}
use Rattle.card.specs.Connectors.{connector_at, each, no_connector}
use Rattle.card.proofs.connectors.each_of.Goals as goal

pub loop-k-init : goal.loop-k-init
unfolding listed
loop-k-init c = (zero-le, refl)

pub loop-k-preserved : goal.loop-k-preserved
loop-k-preserved c =
    let l = c.loop-k in
    let a = c.args in
    let h : l.k < connector_count = search rules in (
      omega arith,
      listed_next (connector_at a.c) l.k (replicate connector_count no_connector) l.all _ no_connector l.invariant.1 c.connector_at.ensures h,
    )

pub returns : goal.returns
unfolding each
returns c =
    let l = c.loop-k in
    let a = c.args in
    let end : l.k ≡ connector_count = omega arith in
    listed-done (connector_at a.c) connector_count (replicate connector_count no_connector) l.all (rw end at l.invariant.1) (le_refl connector_count)
