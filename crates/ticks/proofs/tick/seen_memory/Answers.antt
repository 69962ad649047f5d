-- `ticks::tick::seen_memory` meets its contract.
use Rattle.ticks.proofs.tick.seen_memory.Goals as goal

pub returns : goal.returns
returns c =
    let m = c.args.m in
    λ k.
    record {
      driven = m.driven;
      pulled = m.pulled;
      outputs = c.low.ensures k;
      outputs2 = c.low-2.ensures k;
      outputs3 = c.low-3.ensures k;
      levels = m.levels;
      levels2 = m.levels2;
    }
