-- Steady cards and cards that are not, by computation.
use Rattle.std.specs.Prelude.{ℕ, ◌≡◌, refl, Bool, true, false, cond, [], ◌∷◌, set, get_or}
use Rattle.std.specs.Int.Count.{ones, ones_in}
use Rattle.words.specs.Bits.{bit_at, word_of}
use Rattle.words.specs.Listed.{listed}
use Rattle.cells.specs.State.{state, cell_of}
use Rattle.cells.specs.Table.{row_of}
use Rattle.cells.specs.Work.{pulses, taken, raised, work_as, work_out}
use Rattle.cells.specs.Wake.{stirred_as, stirred, disagree, wakes}
use Rattle.card.specs.declared.card.Card.{Card}
use Rattle.card.specs.Address.{cell_count}
use Rattle.card.specs.Connectors.{kind_at, source_at}
use Rattle.card.specs.Fresh.{fresh, no_cell}
use Rattle.card.specs.Tally.{ticks, tally_of, counted, tallied_by}
use Rattle.ticks.specs.Reading.{level_at, reads_levels, reads, slots_read, mixed, view}
use Rattle.ticks.specs.Levels.{effective_sample, driven_word, pulled_word, levels_from, lines_of}
use Rattle.ticks.specs.Tick.{read_now, read_last, named, turn_at, outputs_below, turned, tick}
use Rattle.ticks.specs.Examples.{card, clock0}
use Rattle.steady.specs.Steady.{quick_ticks, count_holds, state_holds, least_holds, same_but, steady_from, steady_for, made_of, advanced}

-- a card whose cell 1 is of a type, with a configuration, clocked in every tick (192), in the midst
-- of its work; its output was high or low in every tick so far
running : (kind config x count : ℕ) (bit out : Bool) → Card
running kind config x count bit out =
    card (set fresh.cells 0 (cell_of kind config (x ∷ 192 ∷ 0 ∷ 0 ∷ []) (state (pulses count) bit false))) (cond out 1 0) 0

-- the same of a delay whose pulse ends, beside an output that was low before
ending : Card
ending = card (set fresh.cells 0 (cell_of 15 9 (0 ∷ 192 ∷ 0 ∷ 0 ∷ []) (state (pulses 0) false true))) 0 0

for : Card → ℕ
for c = steady_for cell_count c (clock0 0)

pub record Table : Type 0 where
  -- a delay of two hours at 4000 ticks a second goes on to its last count but one, whether its
  -- trigger is high in every tick or not; at its last count it does not
  delay : for (running 15 28800000 41 28800000 false false) ≡ 28799999
  triggered : for (running 15 28800000 192 28800000 false false) ≡ 28799999
  last : for (running 15 28800000 41 1 false false) ≡ 0
  -- a one-shot, and one that is triggered anew in every tick
  shot : for (running 14 86400000 0 500 false true) ≡ 499
  anew : for (running 8 20 192 20 false true) ≡ 4294967295
  -- a count that the configuration may have set: one that fell to it, by a clock or by a trigger;
  -- one that rose to it by 1; one that jumped to it
  fell_there : for (running 15 499 0 500 false false) ≡ 0
  set_there : for (running 8 499 192 500 false true) ≡ 0
  rose_there : for (running 8 6 192 5 false true) ≡ 0
  jumped : for (running 8 20 192 5 false true) ≡ 0
  -- a counter that counts every tick (A and B need not: type 21, active), up to the largest count;
  -- and one that is there
  counter : for (running 21 0 0 10 true true) ≡ 65525
  last_counter : for (running 21 0 0 65534 true true) ≡ 1
  full_counter : for (running 21 0 0 65535 true true) ≡ 4294967295
  -- a D flip-flop that takes the same D in every tick; one that takes another; and one whose bit
  -- changes beside an output that was high before
  flop : for (running 1 0 64 0 true true) ≡ 4294967295
  other_flop : for (running 1 0 64 0 false false) ≡ 0
  bit : for (running 1 0 64 0 false true) ≡ 0
  pulse : for ending ≡ 0
  -- another clock's ticks are idle
  idle : steady_for cell_count (running 15 28800000 41 28800000 false false) (record { code = 3; sample = 0; attached = 65535 }) ≡ 4294967295
  -- a change at an input ends it
  input : steady_for cell_count (running 15 28800000 41 28800000 false false) (clock0 256) ≡ 0

steady-table : Table
unfolding running ending for count_holds state_holds least_holds same_but steady_from steady_for ones ones_in bit_at word_of listed row_of taken raised work_as work_out
    stirred_as stirred disagree wakes fresh level_at reads_levels reads slots_read mixed view effective_sample kind_at source_at driven_word pulled_word levels_from
    lines_of read_now read_last named turn_at outputs_below turned counted tallied_by tick
steady-table =
    record {
      delay = refl;
      triggered = refl;
      last = refl;
      shot = refl;
      anew = refl;
      fell_there = refl;
      set_there = refl;
      rose_there = refl;
      jumped = refl;
      counter = refl;
      last_counter = refl;
      full_counter = refl;
      flop = refl;
      other_flop = refl;
      bit = refl;
      pulse = refl;
      idle = refl;
      input = refl;
    }

-- ---- what else ends it: each word of the memory, and the edits

-- the fresh card, with these words of its last ticks and these edits. In each row below a tick
-- leaves one of them other than it was, and the rest as they were
remembering : (edited driven pulled outputs outputs2 outputs3 levels levels2 : ℕ) → Card
remembering edited driven pulled outputs outputs2 outputs3 levels levels2 =
    record {
      pointer = 1;
      trigger = 0;
      cells = fresh.cells;
      connectors = fresh.connectors;
      edited = edited;
      memory =
          record {
            driven = driven;
            pulled = pulled;
            outputs = outputs;
            outputs2 = outputs2;
            outputs3 = outputs3;
            levels = levels;
            levels2 = levels2;
          };
      size = cell_count;
      tallies = fresh.tallies;
    }

pub record Remembered : Type 0 where
  none : for (remembering 0 0 0 0 0 0 0 0) ≡ 4294967295
  edited : for (remembering 1 0 0 0 0 0 0 0) ≡ 0
  driven : for (remembering 0 1 0 0 0 0 0 0) ≡ 0
  pulled : for (remembering 0 0 256 0 0 0 0 0) ≡ 0
  -- a flip-flop that is high beside an output that was low
  outputs : for (running 1 0 64 0 true false) ≡ 0
  outputs2 : for (remembering 0 0 0 0 32768 32768 0 0) ≡ 0
  outputs3 : for (remembering 0 0 0 0 0 32768 0 0) ≡ 0
  levels : for (remembering 0 0 0 0 0 0 256 256) ≡ 0
  levels2 : for (remembering 0 0 0 0 0 0 0 256) ≡ 0

remembered-table : Remembered
unfolding remembering running for count_holds state_holds least_holds same_but steady_from steady_for ones ones_in bit_at word_of listed row_of taken raised work_as
    work_out stirred_as stirred disagree wakes fresh level_at reads_levels reads slots_read mixed view effective_sample kind_at source_at driven_word pulled_word
    levels_from lines_of read_now read_last named turn_at outputs_below turned counted tallied_by tick
remembered-table =
    record {
      none = refl;
      edited = refl;
      driven = refl;
      pulled = refl;
      outputs = refl;
      outputs2 = refl;
      outputs3 = refl;
      levels = refl;
      levels2 = refl;
    }

-- ---- ticks at once

-- how many were made, the count and the tally of cell 1 after them, the tick total, and the woken
-- set of the last
at_once : Card → ℕ → ℕ × ℕ × ℕ × ℕ × ℕ
at_once c k =
    let a = advanced cell_count c (clock0 0) k in
    (a.made, (get_or a.card.cells 0 no_cell).count.0, tally_of a.card.tallies 0, a.card.tallies.total.0, a.answer.woken)

-- a delay of 9 at the count 4, with this tally of cell 1 and this tick total
tallied : (tally total : ℕ) → Card
tallied tally total =
    let c = running 15 9 0 4 false false in
    record {
      pointer = c.pointer;
      trigger = c.trigger;
      cells = c.cells;
      connectors = c.connectors;
      edited = c.edited;
      memory = c.memory;
      size = c.size;
      tallies = record { cells = set c.tallies.cells 0 (ticks tally); total = ticks total };
    }

pub record Ticked : Type 0 where
  none : at_once (running 15 9 0 4 false false) 0 ≡ (0, 4, 0, 0, 0)
  two : at_once (running 15 9 0 4 false false) 2 ≡ (2, 2, 2, 2, 1)
  many : at_once (running 15 9 0 4 false false) 1000 ≡ (3, 1, 3, 3, 1)
  single : at_once (running 15 9 0 1 false false) 1000 ≡ (1, 0, 1, 1, 1)
  counter : at_once (running 21 0 0 65533 true true) 1000 ≡ (2, 65535, 2, 2, 1)
  full_counter : at_once (running 21 0 0 65535 true true) 3 ≡ (3, 65535, 3, 3, 1)
  -- a total that comes to its standstill in the midst of them, one that is there, and a tally that
  -- is there before the total
  reaches : at_once (tallied 7 4294967293) 3 ≡ (3, 1, 9, 4294967295, 1)
  stands : at_once (tallied 7 4294967295) 3 ≡ (3, 1, 7, 4294967295, 1)
  tally_stands : at_once (tallied 4294967294 10) 3 ≡ (3, 1, 4294967295, 13, 1)

ticked-table : Ticked
unfolding at_once tallied running quick_ticks made_of advanced count_holds state_holds least_holds same_but steady_from steady_for ones ones_in bit_at word_of listed
    row_of taken raised work_as work_out stirred_as stirred disagree wakes fresh level_at reads_levels reads slots_read mixed view effective_sample kind_at source_at
    driven_word pulled_word levels_from lines_of read_now read_last named turn_at outputs_below turned counted tallied_by tick
ticked-table =
    record {
      none = refl;
      two = refl;
      many = refl;
      single = refl;
      counter = refl;
      full_counter = refl;
      reaches = refl;
      stands = refl;
      tally_stands = refl;
    }
