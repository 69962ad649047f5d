-- Ticks that document 01 and document 02, 5 describe in words, as one table by computation: what
-- the definitions give, beside what they should. And a card whose quick and full ticks differ.
use Rattle.std.specs.Prelude.{ℕ, ◌≡◌, refl, Bool, true, false, List, [], ◌∷◌, ◌++◌, map, replicate, set, get_or}
use Rattle.std.specs.Int.Count.{ones, ones_in}
use Rattle.words.specs.Bits.{bit_at, word_of}
use Rattle.words.specs.Listed.{listed}
use Rattle.cells.specs.declared.cell.Cell.{Cell}
use Rattle.cells.specs.Table.{row_of}
use Rattle.cells.specs.State.{cell_of}
use Rattle.cells.specs.Work.{pulses, taken, work_as, work_out}
use Rattle.cells.specs.Wake.{stirred_as, stirred, disagree, wakes}
use Rattle.card.specs.declared.card.Card.{Card}
use Rattle.card.specs.Address.{cell_count, connector_count}
use Rattle.card.specs.Fresh.{fresh, no_cell}
use Rattle.card.specs.Presets.{whole}
use Rattle.ticks.specs.declared.tick.Answer.{Answer}
use Rattle.ticks.specs.declared.view.Input.{Input}
use Rattle.ticks.specs.declared.tick.Ticked.{Ticked}
use Rattle.ticks.specs.Reading.{level_at, reads_levels, reads, slots_read, mixed, view}
use Rattle.card.specs.Connectors.{kind_at, source_at, from_each}
use Rattle.ticks.specs.Levels.{effective_sample, driven_word, levels_from, lines_of}
use Rattle.ticks.specs.Tick.{read_now, read_last, named, turn_at, outputs_below, turned, tick}

-- ---- the cards

-- a fresh card with these cells, this cell word in every tick so far, and these edits
abbrev pub card : List Cell → (outputs edited : ℕ) → Card
card cells outputs edited =
    record {
      pointer = 1;
      trigger = 0;
      cells = cells;
      connectors = fresh.connectors;
      edited = edited;
      memory = record { driven = 0; pulled = 0; outputs = outputs; outputs2 = outputs; outputs3 = outputs; levels = 0; levels2 = 0 };
      size = cell_count;
      tallies = fresh.tallies;
    }

two_cells : Cell → Cell → List Cell
two_cells a b = set (set fresh.cells 0 a) 1 b

-- cell 1 follows TTL0 (address 41), and cell 2 is an AND2 on the rise of cell 1 (129) and an input
-- that is always high (64)
edge_card : Card
edge_card = card (two_cells (whole 6 0 (41 ∷ 0 ∷ 0 ∷ 0 ∷ [])) (whole 5 0 (129 ∷ 64 ∷ 0 ∷ 0 ∷ []))) 0 3

-- cell 2 follows cell 1, which follows TTL0; and the other way round
upward : Card
upward = card (two_cells (whole 6 0 (41 ∷ 0 ∷ 0 ∷ 0 ∷ [])) (whole 6 0 (1 ∷ 0 ∷ 0 ∷ 0 ∷ []))) 0 3

downward : Card
downward = card (two_cells (whole 6 0 (2 ∷ 0 ∷ 0 ∷ 0 ∷ [])) (whole 6 0 (41 ∷ 0 ∷ 0 ∷ 0 ∷ []))) 0 3

-- a card that is not settled: nobody edited cell 1, an AND2 of two low inputs, and its output is
-- high
unfoldable pub unsettled : Card
unsettled = card (set fresh.cells 0 (whole 5 0 (0 ∷ 0 ∷ 0 ∷ 0 ∷ []))) 1 0

-- another: nobody edited cell 1, a D-flop whose reset is on 64, always high, and its bit and its
-- output are set
unfoldable pub unsettled_state : Card
unsettled_state = card (set fresh.cells 0 (cell_of 1 0 (0 ∷ 128 ∷ 64 ∷ 0 ∷ []) (record { count = pulses 0; bit = true; pulse = false }))) 1 0

-- these cells, and every connector of this type and driven from this address
wired : List Cell → (kind source : ℕ) → Card
wired cells kind source =
    record {
      pointer = 1;
      trigger = 0;
      cells = cells;
      connectors = from_each (replicate connector_count (record { kind = kind; source = source }));
      edited = 3;
      memory = fresh.memory;
      size = cell_count;
      tallies = fresh.tallies;
    }

-- inputs; cell 1 is high in the tick in which TTL0 rises (address 169), cell 2 in the one in which
-- BNC1 falls (225)
torn : Card
torn = wired (two_cells (whole 5 0 (169 ∷ 64 ∷ 0 ∷ 0 ∷ [])) (whole 5 0 (225 ∷ 64 ∷ 0 ∷ 0 ∷ []))) 0 0

-- ---- lines with nothing attached

-- "an unattached line samples low on the front and high on the backplane": whatever the sample
pub none-attached : (sample : ℕ) → effective_sample sample 0x0000 ≡ 0xff00
unfolding effective_sample bit_at word_of
none-attached sample = refl

-- ---- their ticks

answered : Answer → List ℕ
answered a = a.driven ∷ a.cells ∷ a.woken ∷ a.count ∷ []

-- clock 0, with this sample and everything attached
abbrev pub clock0 : ℕ → Input
clock0 sample = record { code = 0; sample = sample; attached = 65535 }

-- quick ticks of clock 0 with these samples: driven word, cell word, woken set and count of each
quick : Card → List ℕ → List ℕ
quick c [] = []
quick c (s ∷ ss) = answered (tick cell_count false c (clock0 s)).answer ++ quick (tick cell_count false c (clock0 s)).card ss

shown : Ticked → List ℕ
shown t = t.card.memory.levels ∷ t.answer.driven ∷ t.answer.cells ∷ []

-- quick ticks of clock 0 with these samples and attached lines: levels, driven word and cell word
-- of each
ticks : Card → List (ℕ × ℕ) → List ℕ
ticks c [] = []
ticks c (w ∷ ws) =
    let t = tick cell_count false c (record { code = 0; sample = w.0; attached = w.1 }) in
    shown t ++ ticks t.card ws

-- one tick of such connectors
alone : (kind source sample attached : ℕ) → List ℕ
alone kind source sample attached = ticks (wired fresh.cells kind source) ((sample, attached) ∷ [])

-- given, expected
abbrev table : List (List ℕ × List ℕ)
table =
    -- the AND2 goes up with the edge and down after it, in quick ticks
    (quick edge_card (0 ∷ 256 ∷ 256 ∷ []), 0 ∷ 0 ∷ 3 ∷ 2 ∷ 0 ∷ 3 ∷ 3 ∷ 2 ∷ 0 ∷ 1 ∷ 2 ∷ 1 ∷ [])
    -- cell 2 sees cell 1 of this tick, and cell 1 sees cell 2 of the last
    ∷ (quick upward (256 ∷ 256 ∷ []), 0 ∷ 3 ∷ 3 ∷ 2 ∷ 0 ∷ 3 ∷ 0 ∷ 0 ∷ [])
    ∷ (quick downward (256 ∷ 256 ∷ []), 0 ∷ 2 ∷ 3 ∷ 2 ∷ 0 ∷ 3 ∷ 1 ∷ 1 ∷ [])
    -- inputs show their samples where something is attached
    ∷ (alone 0 0 0xa5a5 0xffff, 0xa5a5 ∷ 0x0000 ∷ 0 ∷ [])
    ∷ (alone 0 0 0xa5a5 0x0000, 0xff00 ∷ 0x0000 ∷ 0 ∷ [])
    ∷ (alone 0 0 0xa5a5 0x0f0f, 0xf505 ∷ 0x0000 ∷ 0 ∷ [])
    -- open-drain, driven high (from 64) and low (from 0): with nothing attached the backplane shows
    -- the driven bit and the front is low
    ∷ (alone 1 64 0xffff 0x0000, 0xff00 ∷ 0xffff ∷ 0 ∷ [])
    ∷ (alone 1 0 0xffff 0x0000, 0x0000 ∷ 0x0000 ∷ 0 ∷ [])
    ∷ (alone 1 64 0x00f0 0x0ff0, 0xf0f0 ∷ 0xffff ∷ 0 ∷ [])
    -- push-pull shows what it drives
    ∷ (alone 2 64 0x0000 0x0000, 0xffff ∷ 0xffff ∷ 0 ∷ [])
    ∷ (alone 2 0 0xffff 0x0000, 0x0000 ∷ 0x0000 ∷ 0 ∷ [])
    -- the cables of BNC1 and TTL0 are torn between two ticks and mended after two: TTL0 rises and
    -- BNC1 falls, though no sample changed
    ∷ (
      ticks torn ((0x0001, 0xffff) ∷ (0x0001, 0xfefe) ∷ (0x0001, 0xfefe) ∷ (0x0001, 0xffff) ∷ []),
      0x0001 ∷ 0x0000 ∷ 0 ∷ 0x0100 ∷ 0x0000 ∷ 3 ∷ 0x0100 ∷ 0x0000 ∷ 0 ∷ 0x0001 ∷ 0x0000 ∷ 0 ∷ [],
    )
    ∷ []

examples : map (λ (e : List ℕ × List ℕ). e.0) table ≡ map (λ (e : List ℕ × List ℕ). e.1) table
unfolding two_cells edge_card upward downward wired torn answered quick shown ticks alone ones ones_in bit_at word_of listed row_of taken work_as work_out stirred_as
    stirred disagree wakes fresh level_at reads_levels reads slots_read mixed view effective_sample kind_at source_at from_each driven_word levels_from lines_of read_now
    read_last named turn_at outputs_below turned tick
examples = refl

-- a wrong output of a sleeping gate stays in a quick tick and goes in a full one
pub wrong_stays : (tick cell_count false unsettled (clock0 0)).answer.cells ≡ 1
unfolding unsettled bit_at word_of listed row_of taken work_as work_out stirred_as stirred disagree wakes fresh level_at reads_levels reads slots_read mixed view
    effective_sample kind_at source_at from_each driven_word levels_from lines_of read_now read_last named turn_at outputs_below turned tick
wrong_stays = refl

pub wrong-goes : (tick cell_count true unsettled (clock0 0)).answer.cells ≡ 0
unfolding unsettled bit_at word_of listed row_of taken work_as work_out stirred_as stirred disagree wakes fresh level_at reads_levels reads slots_read mixed view
    effective_sample kind_at source_at from_each driven_word levels_from lines_of read_now read_last named turn_at outputs_below turned tick
wrong-goes = refl

-- and so does a wrong state of a sleeping flip-flop: its bit, and its output
pub first_bit : Ticked → Bool × ℕ
first_bit t = ((get_or t.card.cells 0 no_cell).bit, t.answer.cells)

pub state-stays : first_bit (tick cell_count false unsettled_state (clock0 0)) ≡ (true, 1)
unfolding unsettled_state first_bit bit_at word_of listed row_of taken work_as work_out stirred_as stirred disagree wakes fresh level_at reads_levels reads slots_read
    mixed view effective_sample kind_at source_at from_each driven_word levels_from lines_of read_now read_last named turn_at outputs_below turned tick
state-stays = refl

pub state-goes : first_bit (tick cell_count true unsettled_state (clock0 0)) ≡ (false, 0)
unfolding unsettled_state first_bit bit_at word_of listed row_of taken work_as work_out stirred_as stirred disagree wakes fresh level_at reads_levels reads slots_read
    mixed view effective_sample kind_at source_at from_each driven_word levels_from lines_of read_now read_last named turn_at outputs_below turned tick
state-goes = refl
