-- Timers after a trigger, tick by tick, as one table by computation: what they show and count, and
-- that the promise of specs/Timing is not empty.
use Rattle.std.specs.Prelude.{ℕ, ◌≤◌, ◌≡◌, refl, Bool, true, false, List, [], ◌∷◌, set}
use Rattle.std.specs.Int.Count.{ones, ones_in}
use Rattle.words.specs.Bits.{bit_at, word_of}
use Rattle.words.specs.Listed.{listed}
use Rattle.cells.specs.Table.{row_of}
use Rattle.cells.specs.Work.{taken, work_as, work_out}
use Rattle.cells.specs.Wake.{stirred_as, stirred, disagree, wakes}
use Rattle.cells.specs.Timing.{takes_as, takes, pulses_in, pulses_before, ignoring}
use Rattle.card.specs.declared.card.Card.{Card}
use Rattle.card.specs.Address.{cell_count}
use Rattle.card.specs.Connectors.{kind_at, source_at}
use Rattle.card.specs.Fresh.{fresh}
use Rattle.card.specs.Presets.{whole}
use Rattle.card.specs.Tally.{counted, tallied_by}
use Rattle.ticks.specs.declared.view.Input.{Input}
use Rattle.ticks.specs.Reading.{level_at, reads_levels, reads, slots_read, mixed, view}
use Rattle.ticks.specs.Levels.{effective_sample, driven_word, pulled_word, levels_from, lines_of}
use Rattle.ticks.specs.Tick.{read_now, read_last, named, turn_at, outputs_below, turned, tick}
use Rattle.ticks.specs.Examples.{card}
use Rattle.ticks.specs.Runs.{Ticks, cell_at, after_tick, own, readings, readings_in, Throughout, ResetLow}
use Rattle.ticks.specs.Timing.{class_of, TakesTrigger, TakesNone}

-- a timer in cell 1: triggered by the rise of TTL0 (169), its clock the rise of TTL1 (170), its
-- reset 0; nobody edited it
timed : (kind duration : ℕ) → Card
timed kind duration = card (set fresh.cells 0 (whole kind duration (169 ∷ 170 ∷ 0 ∷ 0 ∷ []))) 0 0

-- a tick on the card's own clock 0, and one on clock 3, which is idle
quick : ℕ → Bool × Input
quick sample = (false, record { code = 0; sample = sample; attached = 65535 })

full : ℕ → Bool × Input
full sample = (true, record { code = 0; sample = sample; attached = 65535 })

idling : ℕ → Bool × Input
idling sample = (false, record { code = 3; sample = sample; attached = 65535 })

-- of each tick the card's cell word, the answer's, and the count
run : Card → Ticks → List (ℕ × ℕ × ℕ)
run c [] = []
run c (t ∷ ts) =
    let d = after_tick cell_count c t in
    (d.memory.outputs, (tick cell_count t.0 c t.1).answer.cells, (cell_at d 0).count.0) ∷ run d ts

-- the trigger comes with a clock edge, which is not counted; then pulse 1, a clock edge in an idle
-- tick, which is none, nothing, pulse 2, nothing, pulse 3
trigger : Bool × Input
trigger = quick 0x0300

after : Ticks
after = full 0x0000 ∷ quick 0x0200 ∷ idling 0x0000 ∷ idling 0x0200 ∷ quick 0x0000 ∷ full 0x0200 ∷ quick 0x0000 ∷ quick 0x0200 ∷ []

-- a delay of 2 and a one-shot of 2
delayed : run (timed 9 2) (trigger ∷ after)
    ≡ (0, 0, 2) ∷ (0, 0, 2) ∷ (0, 0, 1) ∷ (0, 0, 1) ∷ (0, 0, 1) ∷ (0, 0, 1) ∷ (1, 1, 0) ∷ (1, 1, 0) ∷ (0, 0, 0) ∷ []
unfolding timed quick full idling trigger after run ones ones_in bit_at word_of listed row_of taken work_as work_out stirred_as stirred disagree wakes fresh level_at
    reads_levels reads slots_read mixed view effective_sample kind_at source_at driven_word pulled_word levels_from lines_of read_now read_last named turn_at outputs_below
    turned counted tallied_by tick
delayed = refl

shot : run (timed 8 2) (trigger ∷ after)
    ≡ (1, 1, 2) ∷ (1, 1, 2) ∷ (1, 1, 1) ∷ (1, 0, 1) ∷ (1, 0, 1) ∷ (1, 1, 1) ∷ (0, 0, 0) ∷ (0, 0, 0) ∷ (0, 0, 0) ∷ []
unfolding timed quick full idling trigger after run ones ones_in bit_at word_of listed row_of taken work_as work_out stirred_as stirred disagree wakes fresh level_at
    reads_levels reads slots_read mixed view effective_sample kind_at source_at driven_word pulled_word levels_from lines_of read_now read_last named turn_at outputs_below
    turned counted tallied_by tick
shot = refl

-- the longest duration does not wrap
longest : (run (timed 15 4294967295) (quick 0x0100 ∷ quick 0x0000 ∷ quick 0x0200 ∷ []) ≡ (0, 0, 4294967295) ∷ (0, 0, 4294967295) ∷ (0, 0, 4294967294) ∷ [])
    × (run (timed 14 4294967295) (quick 0x0100 ∷ quick 0x0000 ∷ quick 0x0200 ∷ []) ≡ (1, 1, 4294967295) ∷ (1, 1, 4294967295) ∷ (1, 1, 4294967294) ∷ [])
unfolding timed quick full idling trigger after run ones ones_in bit_at word_of listed row_of taken work_as work_out stirred_as stirred disagree wakes fresh level_at
    reads_levels reads slots_read mixed view effective_sample kind_at source_at driven_word pulled_word levels_from lines_of read_now read_last named turn_at outputs_below
    turned counted tallied_by tick
longest = (refl, refl)

-- of each tick the woken set, the answer's cell word, and the count. The second trigger comes
-- alone, the third with pulse 2: types 14 and 15 wake by them and ignore them, type 8 starts anew
wakings : Card → Ticks → List (ℕ × ℕ × ℕ)
wakings c [] = []
wakings c (t ∷ ts) =
    let r = tick cell_count t.0 c t.1 in
    (r.answer.woken, r.answer.cells, (cell_at r.card 0).count.0) ∷ wakings r.card ts

again : Ticks
again = quick 0x0000 ∷ quick 0x0100 ∷ quick 0x0200 ∷ quick 0x0000 ∷ quick 0x0300 ∷ []

ignored-shot : wakings (timed 14 2) (quick 0x0100 ∷ again) ≡ (1, 1, 2) ∷ (0, 1, 2) ∷ (1, 1, 2) ∷ (1, 1, 1) ∷ (0, 1, 1) ∷ (1, 0, 0) ∷ []
unfolding timed quick wakings again ones ones_in bit_at word_of listed row_of taken work_as work_out stirred_as stirred disagree wakes fresh level_at reads_levels
    reads slots_read mixed view effective_sample kind_at source_at driven_word pulled_word levels_from lines_of read_now read_last named turn_at outputs_below turned
    counted tallied_by tick
ignored-shot = refl

ignored-delay : wakings (timed 15 2) (quick 0x0100 ∷ again) ≡ (1, 0, 2) ∷ (0, 0, 2) ∷ (1, 0, 2) ∷ (1, 0, 1) ∷ (0, 0, 1) ∷ (1, 1, 0) ∷ []
unfolding timed quick wakings again ones ones_in bit_at word_of listed row_of taken work_as work_out stirred_as stirred disagree wakes fresh level_at reads_levels
    reads slots_read mixed view effective_sample kind_at source_at driven_word pulled_word levels_from lines_of read_now read_last named turn_at outputs_below turned
    counted tallied_by tick
ignored-delay = refl

obeyed : wakings (timed 8 2) (quick 0x0100 ∷ again) ≡ (1, 1, 2) ∷ (0, 1, 2) ∷ (1, 1, 2) ∷ (1, 1, 1) ∷ (0, 1, 1) ∷ (1, 1, 2) ∷ []
unfolding timed quick wakings again ones ones_in bit_at word_of listed row_of taken work_as work_out stirred_as stirred disagree wakes fresh level_at reads_levels
    reads slots_read mixed view effective_sample kind_at source_at driven_word pulled_word levels_from lines_of read_now read_last named turn_at outputs_below turned
    counted tallied_by tick
obeyed = refl

-- ---- what the promises ask is met by these runs

next : ℕ → Bool × Input → Card
next kind t = after_tick cell_count (timed kind 2) t

-- of every duration from 1 on
takes_first : (d : ℕ) → 1 ≤ d → TakesTrigger cell_count (timed 9 d) (own cell_count (timed 9 d) trigger) 0
unfolding timed quick trigger takes takes_as bit_at word_of listed row_of taken work_as work_out stirred_as stirred disagree wakes fresh level_at reads_levels reads
    slots_read mixed view effective_sample kind_at source_at driven_word pulled_word levels_from lines_of read_now read_last named turn_at outputs_below turned counted
    tallied_by tick
takes_first d some = record { timer = refl; duration = some; ran = refl; took = refl }

-- three pulses, at none of which the reset is high or a trigger is taken
three-pulses : (pulses_in (readings cell_count (next 9 trigger) after 0) ≡ 3) × ResetLow (readings cell_count (next 9 trigger) after 0)
unfolding timed quick full idling trigger after next pulses_in ResetLow readings_in ones ones_in bit_at word_of listed row_of taken work_as work_out stirred_as stirred
    disagree wakes fresh level_at reads_levels reads slots_read mixed view effective_sample kind_at source_at driven_word pulled_word levels_from lines_of read_now
    read_last named turn_at outputs_below turned counted tallied_by tick
three-pulses = (refl, (refl, (refl, (refl, (refl, (refl, (refl, tt)))))))

none-taken : Throughout cell_count (Bool × Input) (own cell_count) TakesNone (next 9 trigger) after 0
unfolding timed quick full idling trigger after next takes takes_as Throughout ones ones_in bit_at word_of listed row_of taken work_as work_out stirred_as stirred
    disagree wakes fresh level_at reads_levels reads slots_read mixed view effective_sample kind_at source_at driven_word pulled_word levels_from lines_of read_now
    read_last named turn_at outputs_below turned counted tallied_by tick
none-taken = (λ _. refl, (λ _. refl, (λ _. refl, (λ _. refl, (λ _. refl, (λ _. refl, (λ _. refl, (λ _. refl, tt))))))))

-- the tick that makes a one-shot of type 14 free is among those that ignore triggers; a tick more
-- is not
still-ignoring : List Bool
still-ignoring =
    let rs = readings cell_count (next 14 (quick 0x0100)) again 0 in
    let more = readings cell_count (next 14 (quick 0x0100)) (quick 0x0000 ∷ quick 0x0100 ∷ quick 0x0200 ∷ quick 0x0000 ∷ quick 0x0300 ∷ quick 0x0000 ∷ []) 0 in
    let k = class_of (cell_at (timed 14 2) 0) in
    ignoring k 2 (pulses_before rs) ∷ ignoring k 2 (pulses_before more) ∷ []

freed : still-ignoring ≡ true ∷ false ∷ []
unfolding still-ignoring timed quick again next pulses_before readings_in ones ones_in bit_at word_of listed row_of taken work_as work_out stirred_as stirred disagree
    wakes
    fresh level_at reads_levels reads slots_read mixed view effective_sample kind_at source_at driven_word pulled_word levels_from lines_of read_now read_last named turn_at
    outputs_below turned counted tallied_by tick
freed = refl
