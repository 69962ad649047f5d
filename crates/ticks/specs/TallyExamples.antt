-- Document 02, "Wake tallies", by computation: one tick at and around the limit, and whom full
-- ticks name.
use Rattle.std.specs.Prelude.{ℕ, ◌-◌, ◌^◌, ◌≡◌, refl, Bool, true, false, List, [], ◌∷◌, ◌++◌, map, replicate, take}
use Rattle.words.specs.Bits.{bit_at, word_of}
use Rattle.words.specs.Listed.{listed}
use Rattle.cells.specs.declared.cell.Ticks.{Ticks}
use Rattle.cells.specs.Table.{row_of}
use Rattle.cells.specs.Work.{taken, work_as, work_out}
use Rattle.cells.specs.Wake.{stirred_as, stirred, disagree, wakes}
use Rattle.card.specs.declared.card.Card.{Card}
use Rattle.card.specs.Address.{cell_count}
use Rattle.card.specs.Connectors.{kind_at, source_at}
use Rattle.card.specs.Fresh.{fresh, started}
use Rattle.card.specs.Tally.{ticks, counted, tallied_by}
use Rattle.ticks.specs.Reading.{level_at, reads_levels, reads, slots_read, mixed, view}
use Rattle.ticks.specs.Levels.{effective_sample, driven_word, levels_from, lines_of}
use Rattle.ticks.specs.Tick.{read_now, read_last, named, turn_at, outputs_below, turned, tick}
use Rattle.ticks.specs.Examples.{clock0}

-- a fresh card with these edits, this tick total and these tallies of cells 1 to 3
handed : (edited total one two three : ℕ) → Card
handed edited total one two three =
    record {
      pointer = 1;
      trigger = 0;
      cells = fresh.cells;
      connectors = fresh.connectors;
      edited = edited;
      memory = fresh.memory;
      size = cell_count;
      tallies = record { cells = ticks one ∷ ticks two ∷ ticks three ∷ replicate 29 (ticks 0); total = ticks total };
    }

-- a card as an accepted load leaves it
loaded_card : Card
loaded_card = started cell_count 0 fresh.cells fresh.connectors (2 ^ cell_count - 1)

-- the total and the first m tallies
told : ℕ → Card → List ℕ
told m c = c.tallies.total.0 ∷ map (λ (v : Ticks). v.0) (take m c.tallies.cells)

after : Bool → Card → Card
after full c = (tick cell_count full c (clock0 0)).card

-- another clock
idle-after : Card → Card
idle-after c = (tick cell_count true c (record { code = 1; sample = 0; attached = 65535 })).card

-- given, expected
abbrev table : List (List ℕ × List ℕ)
table =
    -- cells 1 and 2 are edited, so the rules name them, in a full tick as in a quick one, and no
    -- other
    (told 3 (after true (handed 3 7 5 6 7)), 8 ∷ 6 ∷ 7 ∷ 7 ∷ [])
    ∷ (told 3 (after false (handed 3 7 5 6 7)), 8 ∷ 6 ∷ 7 ∷ 7 ∷ [])
    -- the tick that reaches the limit still counts; a tally at the limit with the total below
    -- stays
    ∷ (told 3 (after true (handed 3 4294967294 5 4294967295 7)), 4294967295 ∷ 6 ∷ 4294967295 ∷ 7 ∷ [])
    -- the next does not count
    ∷ (told 3 (after true (handed 3 4294967295 6 4294967295 7)), 4294967295 ∷ 6 ∷ 4294967295 ∷ 7 ∷ [])
    -- a tick of another clock counts nowhere
    ∷ (told 3 (idle-after (handed 3 7 5 6 7)), 7 ∷ 5 ∷ 6 ∷ 7 ∷ [])
    -- a full tick on a fresh card names no cell
    ∷ (told 16 (after true fresh), 1 ∷ replicate 16 0)
    -- the first tick after a load names every cell, the next one none
    ∷ (told 17 (after true loaded_card), 1 ∷ replicate 16 1 ++ 0 ∷ [])
    ∷ (told 17 (after true (after true loaded_card)), 2 ∷ replicate 16 1 ++ 0 ∷ [])
    ∷ []

examples : map (λ (e : List ℕ × List ℕ). e.0) table ≡ map (λ (e : List ℕ × List ℕ). e.1) table
unfolding handed loaded_card told after idle-after bit_at word_of listed row_of taken work_as work_out stirred_as stirred disagree wakes fresh level_at reads_levels
    reads slots_read mixed view effective_sample kind_at source_at driven_word levels_from lines_of read_now read_last named turn_at outputs_below turned counted tallied_by
    tick
examples = refl
