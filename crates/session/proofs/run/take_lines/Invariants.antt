-- `session::run::take_lines` meets its contract. The loop's invariant: the line from `start` to `end` has been taken and no more; at `end` is its LF, or
-- the block's end. The measure is what is left of the block.
use Prim.Native.Nat.{◌≤◌, ◌<◌, ◌+◌, ◌*◌, ◌-◌}
use mathlib.Core.Path.{◌≡◌}
use lib.ListN.{length, drop, get_or}
use Rattle.session.specs.Session.{longest_print}
use Rattle.input.specs.Lines.{takes_all, part}
use Rattle.session.specs.Run.{enters, state_of}
use Rattle.session.proofs.Runs.{in_block}
use Rattle.session.proofs.run.take_lines.Given as goal

abbrev pub invariant-loop-end : goal.invariant-loop-end
invariant-loop-end l =
    (l.start ≤ l.end)
    × (l.initial.s.len ≤ l.end)
    × (l.end ≤ l.n)
    × (l.end < l.n → get_or l.block l.end 0 ≡ 10)
    × (l.s.used ≤ l.initial.s.used + longest_print * (l.start - l.initial.s.len))
    × (in_block l.s l.block l.store l.out l.start l.end ≡ takes_all enters (state_of l.initial.s l.initial.store l.block l.initial.out) (part l.initial.s.len l.end l.block))
    × (l.s.used ≤ length l.initial.out)
    × (length l.out ≡ length l.initial.out)
    × (drop l.s.used l.out ≡ drop l.s.used l.initial.out)
    × (length l.store ≡ length l.initial.store)

abbrev pub decreases-loop-end : goal.decreases-loop-end
decreases-loop-end l = l.n - l.end
