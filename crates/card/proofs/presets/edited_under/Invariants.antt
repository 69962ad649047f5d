-- `card::presets::edited_under` meets its contract: after i turns the word holds the first i bits.
use Rattle.std.proofs.Common.{◌≡◌, ◌-◌, ◌≤◌, ◌||◌}
use Rattle.words.specs.Bits.{bit_at, word_of}
use Rattle.card.specs.PresetRows.{covers}
use Rattle.card.proofs.presets.edited_under.Given as goal

abbrev pub invariant-loop-i : goal.invariant-loop-i
invariant-loop-i l = (l.i ≤ l.n) × (l.next ≡ word_of (λ j. bit_at l.edited j || covers l.row j) l.i)

abbrev pub decreases-loop-i : goal.decreases-loop-i
decreases-loop-i l = l.n - l.i
