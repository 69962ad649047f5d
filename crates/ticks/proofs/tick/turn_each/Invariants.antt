-- `ticks::tick::turn_each` meets its contract: after i turns the first i cells are those of the
-- definition, the words of outputs and of named cells hold their bits up to there, and the words
-- that addresses are read from are those of reader i.
use Prim.Native.Nat.{◌-◌, ◌≤◌}
use mathlib.Core.Path.{◌≡◌}
use Rattle.words.specs.Bits.{bit_at, word_of}
use Rattle.ticks.specs.Tick.{sees_now, saw_last, saw_earlier}
use Rattle.ticks.specs.Words.{ReadsAs, MovesAs}
use Rattle.ticks.proofs.Turns.{outs_of, names_of, seated, up_to}
use Rattle.ticks.proofs.Turns.{Halfway}
use Rattle.ticks.proofs.tick.turn_each.Given as goal

abbrev pub invariant-loop-i : goal.invariant-loop-i
invariant-loop-i l =
    (l.i ≤ l.n)
    × (l.next ≡ seated l.card (up_to l.n l.full l.card l.w l.i))
    × Halfway (outs_of l.n l.full l.card l.w) (bit_at l.w.outputs) l.n l.i l.outputs
    × (l.named ≡ word_of (names_of l.n l.full l.card l.w) l.i)
    × ReadsAs l.seen.reads (sees_now l.n l.i l.w l.outputs) (saw_last l.n l.i l.w)
    × MovesAs l.seen.moved (sees_now l.n l.i l.w l.outputs) (saw_last l.n l.i l.w) (saw_earlier l.n l.i l.w)

abbrev pub decreases-loop-i : goal.decreases-loop-i
decreases-loop-i l = l.n - l.i
