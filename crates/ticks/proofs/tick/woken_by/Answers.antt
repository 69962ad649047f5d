-- `ticks::tick::woken_by` meets its contract: in a full tick every bit is set, and a remainder
-- keeps the bits below.
use Prim.Native.Nat.{ℕ}
use mathlib.Core.Path.{ap, ◌∙◌}
use native.Mathlib.Omega.{arith}
use Rattle.words.specs.Bits.{bit_at}
use native.Mathlib.Nat.{mod-lt}
use lib.Pow.{pow_pos}
use Rattle.words.proofs.Laws.{bit-ones, bit-mod}
use Rattle.ticks.proofs.tick.woken_by.Goals as goal

pub returns-then-full : goal.returns-then-full
returns-then-full c =
    let n = c.args.n in record {
      by_index = λ i h. rw c.if-full.true (ap (λ (x : ℕ). bit_at x i) c.low.ensures ∙ bit-mod _ n i h ∙ bit-ones 64 i (omega arith));
      upper_bound = rw c.low.ensures (mod-lt _ (pow_pos n));
    }

pub returns-else-full : goal.returns-else-full
returns-else-full c =
    let n = c.args.n in record {
      by_index = λ i h. rw c.if-full.false (ap (λ (x : ℕ). bit_at x i) c.low-else-full.ensures ∙ bit-mod _ n i h);
      upper_bound = rw c.low-else-full.ensures (mod-lt _ (pow_pos n));
    }
