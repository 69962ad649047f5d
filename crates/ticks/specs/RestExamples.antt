-- Cards at rest and cards that are not, by computation.
use Rattle.std.specs.Prelude.{ℕ, ◌≡◌, refl}
use Rattle.std.proofs.Common.{ap, arith}
use Rattle.words.specs.Bits.{bit_at, word_of}
use Rattle.words.specs.Listed.{listed}
use Rattle.cells.specs.Table.{row_of}
use Rattle.cells.specs.Work.{taken, work_as, work_out}
use Rattle.cells.specs.Wake.{stirred_as, stirred, disagree, wakes}
use Rattle.card.specs.declared.card.Card.{Card}
use Rattle.card.specs.Address.{cell_count}
use Rattle.card.specs.Fresh.{fresh}
use Rattle.card.specs.Tally.{counted, tallied_by}
use Rattle.ticks.specs.Reading.{level_at, reads_levels, reads, slots_read, mixed, view}
use Rattle.card.specs.Connectors.{kind_at, source_at}
use Rattle.ticks.specs.Levels.{effective_sample, driven_word, pulled_word, levels_from, lines_of}
use Rattle.ticks.specs.Tick.{read_now, read_last, named, turn_at, outputs_below, turned, tick}
use Rattle.ticks.specs.Examples.{card, clock0, unsettled}
use Rattle.ticks.specs.Rest.{AtRest}

pub record Table : Type 0 where
  -- a fresh card is at rest while every line is low, but not under a tick that finds TTL0 high: its
  -- level would be new
  low : AtRest cell_count fresh (clock0 0)
  high : AtRest cell_count fresh (clock0 256) → ⊥
  -- nor with cell 1 edited: the tick would name the cell
  edited : AtRest cell_count (card fresh.cells 0 1) (clock0 0) → ⊥
  -- a card that no call reaches may be at rest and yet change in a full tick (`wrong-goes`)
  wrong : AtRest cell_count unsettled (clock0 0)

rest-table : Table
unfolding unsettled bit_at word_of listed row_of taken work_as work_out stirred_as stirred disagree wakes fresh level_at reads_levels reads slots_read
    mixed view effective_sample kind_at source_at driven_word pulled_word levels_from lines_of read_now read_last named turn_at outputs_below turned counted tallied_by tick
rest-table =
    record {
      low = record { asleep = refl; kept = refl };
      high = λ rest. let z : ◌≡◌ {A = ℕ} 256 0 = ap (λ (c : Card). c.memory.levels) rest.kept in omega arith;
      edited = λ rest. let z : ◌≡◌ {A = ℕ} 1 0 = rest.asleep in omega arith;
      wrong = record { asleep = refl; kept = refl };
    }
