-- `rack::tick::tick_all`: the cards before the place have ticked, the others are as they were.
use Rattle.rack.proofs.Ticks.{Midway}
use Rattle.rack.proofs.tick.tick_all.Given as goal

abbrev pub invariant-loop-at : goal.invariant-loop-at
invariant-loop-at l = Midway l.full l.input l.low l.initial.row l.initial.answers l.at l.row l.answers
