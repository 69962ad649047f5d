-- Document 02, "Thirty-two cells", by computation: who sees whom across all thirty-two cells, and a
-- card of sixteen cells that is given with bits above them. (A whole tick of thirty-two cells
-- is more than the prover computes: those run as stored sessions.)
use Rattle.std.specs.Prelude.{ℕ, ◌≡◌, refl, Bool, true, false, List, [], ◌∷◌, map, set}
use Rattle.std.specs.Int.Count.{ones, ones_in}
use Rattle.words.specs.Bits.{bit_at, word_of}
use Rattle.words.specs.Listed.{listed}
use Rattle.cells.specs.Table.{row_of}
use Rattle.cells.specs.Work.{taken, work_as, work_out}
use Rattle.cells.specs.Wake.{stirred_as, stirred, disagree, wakes}
use Rattle.card.specs.Address.{cell_count, cell_room}
use Rattle.card.specs.Fresh.{fresh}
use Rattle.card.specs.Presets.{whole}
use Rattle.ticks.specs.declared.tick.Ticked.{Ticked}
use Rattle.ticks.specs.Reading.{level_at, reads_levels, reads, slots_read, mixed, view}
use Rattle.card.specs.Connectors.{kind_at, source_at}
use Rattle.ticks.specs.Levels.{effective_sample, driven_word, levels_from, lines_of}
use Rattle.ticks.specs.Tick.{read_now, read_last, named, turn_at, outputs_below, turned, tick}
use Rattle.ticks.specs.Examples.{card, clock0}

-- the level at a base as the reader in cell 17 sees it, where only cell 16 is high in this tick and
-- only cell 18 was in the last one
seventeenth : (n : ℕ) → ℕ → Bool
seventeenth n base = view n 16 0x8000 0x20000 0 base

-- cell 16 of this tick, itself and cell 18 of the last one; on sixteen cells there is no cell 18
abbrev views : List (Bool × Bool)
views =
    (seventeenth cell_room 16, true)
    ∷ (seventeenth cell_room 17, false)
    ∷ (seventeenth cell_room 18, true)
    ∷ (seventeenth cell_count 18, false)
    -- the last cell sees the one below it in this tick and itself in the last
    ∷ (view cell_room 31 0x40000000 0 0 31, true)
    ∷ (view cell_room 31 0 0x40000000 0 31, false)
    ∷ (view cell_room 31 0 0x80000000 0 32, true)
    ∷ (view cell_room 31 0x80000000 0 0 32, false)
    ∷ []

view-table : map (λ (e : Bool × Bool). e.0) views ≡ map (λ (e : Bool × Bool). e.1) views
unfolding seventeenth level_at mixed view bit_at
view-table = refl

-- bits above the sixteen, in the cell words and in the edited set: no cell wakes by them, and the
-- tick leaves words without them
words : Ticked → List ℕ
words t = t.answer.woken ∷ t.answer.cells ∷ t.card.memory.outputs ∷ t.card.memory.outputs2 ∷ t.card.memory.outputs3 ∷ t.card.edited ∷ []

small-ticks : words (tick cell_count false (card (set fresh.cells 0 (whole 6 0 (17 ∷ 0 ∷ 0 ∷ 0 ∷ []))) 0xffff0000 0xffff0000)
    (clock0 0)) ≡ 0 ∷ 0 ∷ 0 ∷ 0 ∷ 0 ∷ 0 ∷ []
unfolding words ones ones_in bit_at word_of listed row_of taken work_as work_out stirred_as stirred disagree wakes fresh level_at reads_levels reads slots_read mixed
    view effective_sample kind_at source_at driven_word levels_from lines_of read_now read_last named turn_at outputs_below turned tick
small-ticks = refl
