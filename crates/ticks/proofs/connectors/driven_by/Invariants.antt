-- `ticks::connectors::driven_by` meets its contract: of the outputs that are not left the driven
-- word has the bits, and each turn takes the lowest.
use Prim.Native.Nat.{ℕ, ◌^◌, ◌<◌}
use mathlib.Core.Path.{◌≡◌}
use mathlib.Core.Bool.{Bool, true, false, ◌&&◌}
use mathlib.Core.List.{List}
use lib.ListN.{get_or}
use Rattle.words.specs.Bits.{bit_at, word_of}
use Rattle.card.specs.Address.{connector_count}
use Rattle.ticks.specs.Reading.{reads}
use Rattle.ticks.proofs.Drives.{taken_bit}
use Rattle.ticks.proofs.connectors.driven_by.Given as goal

-- connector k is one of the outputs, and its source is high
abbrev pub driving : (now before : ℕ) → List ℕ → ℕ → ℕ → Bool
driving now before sources outputs k = bit_at outputs k && reads (bit_at now) (bit_at before) (get_or sources k 0)

abbrev pub invariant-loop-left : goal.invariant-loop-left
invariant-loop-left l =
    (bit_at l.now 0 ≡ false)
    × (l.driven ≡ word_of (taken_bit connector_count (driving l.now l.before l.sources l.initial.left) l.left) connector_count)
    × ((k : ℕ) → bit_at l.left k ≡ true → bit_at l.initial.left k ≡ true)
    × (l.left < 2 ^ connector_count)

abbrev pub decreases-loop-left : goal.decreases-loop-left
decreases-loop-left l = l.left
