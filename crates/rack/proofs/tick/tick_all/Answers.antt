-- `rack::tick::tick_all` meets its contract: each card ticks in its turn.
use Rattle.std.proofs.Common.{arith, refl, ◌∙◌}
use Rattle.rack.proofs.Ticks.{low-small, midway-next, midway_end}
use Rattle.rack.proofs.tick.tick_all.Goals as goal

pub loop-at-init : goal.loop-at-init
loop-at-init c = record { none_large = c.requires.small; row = refl; answers = refl }

pub loop-at-preserved : goal.loop-at-preserved
loop-at-preserved c =
    let l = c.loop-at in
    midway-next c.args.full c.args.input c.low_lines-low.result c.args.row.now _ l.at l.row l.answers _ c.for_card.result c.tick-t.result (omega arith)
    l.invariant c.for_card.ensures c.tick-t.ensures

pub returns : goal.returns
returns c =
    let l = c.loop-at in
    let low = c.low_lines-low.ensures ∙ low-small c.args.input.code 0 c.args.row.now c.requires.small in
    let r = midway_end c.args.full c.args.input c.low_lines-low.result c.args.row.now _ l.at l.row l.answers (omega arith) l.invariant low in
    record { answers = r.0; row = r.1 }
