-- Document 01's last box: "Proved in one table, by computation on the definitions: 192, 128, codes
-- 34952 and 65520 at p = 0, 3, 4, 8, JK 11, delay 0, the four ticks above." With them the presets
-- that are offered, and document 02's counter that is started once.
use Rattle.std.specs.Prelude.{ℕ, ◌≡◌, refl, Bool, true, false, List, [], ◌∷◌, map, replicate}
use Prim.Native.String.{String}
use Rattle.std.specs.Int.Count.{ones, ones_in}
use Rattle.words.specs.Bits.{with_bit, word_of, bit_at}
use Rattle.words.specs.Listed.{listed}
use Rattle.text.specs.Digits.{value_by}
use Rattle.text.specs.Decimal.{is_digit, digits_of, leads, plain, number_in, number_at, decimal_from, decimal}
use Rattle.text.specs.Written.{bytes_of}
use Rattle.cells.specs.declared.cell.Worked.{Worked}
use Rattle.cells.specs.Table.{slots, row_of}
use Rattle.cells.specs.Work.{slots_of, taken, raised, work_as, work_out}
use Rattle.cells.specs.Wake.{stirred_as, stirred, disagree, wakes}
use Rattle.card.specs.Connectors.{kind_at, source_at, with_kind, with_source, each, from_each, well_formed}
use Rattle.card.specs.Address.{cell_count}
use Rattle.card.specs.Edits.{bit_state, move, current_cell, current_connector, put_cell, put_connectors, typed, set_type, configured_state, configured, set_config}
use Rattle.card.specs.Edits.{stated_as, stated, set_state, wired, set_slots, set_source}
use Rattle.card.specs.Context.{config_shown, state_as}
use Rattle.card.specs.Change.{changed}
use Rattle.card.specs.Fresh.{clear_state, fresh}
use Rattle.card.specs.Presets.{numbers, preset_table, setting_of, offered}
use Rattle.card.specs.Valid.{permitted_base, bad_place, bad_cell_type, bad_config, unused_slot, bad_address, no_config, bad_state_as, bad_state, no_state}
use Rattle.ticks.specs.Reading.{level_at, reads_levels, reads, slots_read, mixed, view}
use Rattle.ticks.specs.Levels.{effective_sample, driven_word, levels_from, lines_of}
use Rattle.ticks.specs.Tick.{read_now, read_last, named, turn_at, outputs_below, turned, tick}
use Rattle.grammar.specs.Grammar.{is_word, is_whole, to_end, slot_of, pair_read, steps, pairs_of, cca_form, ccb_form}
use Rattle.grammar.specs.Grammar.{read_form, card_form, plain_form, addressed, parse}
use Rattle.lines.specs.Refusal.{refusal}
use Rattle.lines.specs.Line
use Rattle.lines.specs.Line.{shortest_reply, change_for, response_to, decision, decision_for, line_decision, line_outcome, reply_of}
use Rattle.calls.specs.Runs.{answers_of}
use Rattle.calls.specs.Calls
use Rattle.calls.specs.Calls.{Call, Reply, saved_bytes, after_call, answer, answers}
use Rattle.calls.specs.Calls.Reply.{line_reply, tick_reply}

-- an entry is about a level, the presets that are offered, or the answers to a list of calls
data Entry : Type 0 where
  level : Bool → Entry
  presets : List ℕ → Entry
  replies : List Reply → Entry

-- ---- addresses

-- all cells and connectors low, and all high
low : ℕ
low = 0x0000

high : ℕ
high = 0xffff

-- what an address reads where they are `now`, and were `before` one tick earlier
read : (now before : ℕ) → ℕ → Entry
read now before a = level (reads (view cell_count 0 now now now) (view cell_count 0 before before before) a)

-- ---- cells

-- "the answer is bit number p of the code"
lookup : (code p : ℕ) → Entry
lookup code p = level (work_out 4 code clear_state (slots_of p)).out

-- JK with this bit, at a clock edge with J and K high
jk11 : Bool → Entry
jk11 bit = level (work_out 13 0 (bit_state clear_state bit) (slots true true true false)).out

-- a delay of duration 0 in the tick of its trigger, which has a clock edge too; and at the next
-- clock edge
triggered : Worked
triggered = work_out 9 0 clear_state (slots true true false false)

clocked : Worked
clocked = work_out 9 0 triggered.state (slots false true false false)

-- ---- presets

-- those of some numbers that are offered
taking : Bool → ℕ → List ℕ → List ℕ
taking true v vs = v ∷ vs
taking false v vs = vs

offered_of : List ℕ → List ℕ
offered_of [] = []
offered_of (v ∷ vs) = taking (offered cell_count v) v (offered_of vs)

-- ---- the run

-- a line with a reply buffer that is just long enough, and no store
line : String → Call
line text = Calls.Call.line (bytes_of text) (replicate shortest_reply 0) []

-- `T 0 w ffff Q`, and `T 0 0100 ffff Q`
quick_with : ℕ → Call
quick_with w = Calls.own_tick cell_count false (record { code = 0; sample = w; attached = 0xffff })

quick : Call
quick = quick_with 0x0100

run : List Call
run =
    line "M E=1"
    ∷ line "36CCA Y=14"
    ∷ line "36CCA Z=2"
    ∷ line "36CCB X=41 Y=192"
    ∷ line "M E=35"
    ∷ line "36CCA Z=1"
    ∷ quick
    ∷ quick
    ∷ quick
    ∷ quick
    ∷ []

-- document 02: a counter of type 22, started by TTL0 and stopped by TTL1, its clock in every tick;
-- its count bars a start, and `F=0` frees it
counter_run : List Call
counter_run =
    line "36CCA Y=22"
    ∷ line "36CCB X=41 Y=192 F=42"
    ∷ quick_with 0x0100
    ∷ line "36CCA F=7"
    ∷ quick_with 0x0100
    ∷ line "36CCA Z?"
    ∷ quick_with 0x0200
    ∷ quick_with 0x0100
    ∷ line "36CCA F=0"
    ∷ quick_with 0x0000
    ∷ quick_with 0x0100
    ∷ line "36CCA F?"
    ∷ []

said : String → Reply
said text = line_reply 0 (bytes_of text) []

accepted : Reply
accepted = said ":A\r\n"

ran : (driven cells woken count : ℕ) → Reply
ran driven cells woken count = tick_reply (record { ran = true; driven = driven; cells = cells; woken = woken; count = count })

-- ---- the table

-- given, expected
abbrev box : List (Entry × Entry)
box =
    -- "192 is high in every tick, 128 never"
    (read low low 192, level true)
    ∷ (read high low 192, level true)
    ∷ (read low high 192, level true)
    ∷ (read high high 192, level true)
    ∷ (read low low 128, level false)
    ∷ (read high low 128, level false)
    ∷ (read low high 128, level false)
    ∷ (read high high 128, level false)
    -- "(X and Y) or all four: 34952"
    ∷ (lookup 34952 0, level false)
    ∷ (lookup 34952 3, level true)
    ∷ (lookup 34952 4, level false)
    ∷ (lookup 34952 8, level false)
    -- "Z or F: 65520"
    ∷ (lookup 65520 0, level false)
    ∷ (lookup 65520 3, level false)
    ∷ (lookup 65520 4, level true)
    ∷ (lookup 65520 8, level true)
    -- "J K = ... 11 toggles"
    ∷ (jk11 false, level true)
    ∷ (jk11 true, level false)
    -- "with d = 0 it starts the pulse"; "an edge that finds the count at 0 ends a pulse"
    ∷ (level triggered.out, level true)
    ∷ (level clocked.out, level false)
    -- "Offered: 0, 2-13, 15, 17-31, 35-50, 52-59"
    ∷ (
      presets (offered_of (numbers 0 100)),
      presets (
          0 ∷ 2 ∷ 3 ∷ 4 ∷ 5 ∷ 6 ∷ 7 ∷ 8 ∷ 9 ∷ 10 ∷ 11 ∷ 12 ∷ 13
          ∷ 15
          ∷ 17 ∷ 18 ∷ 19 ∷ 20 ∷ 21 ∷ 22 ∷ 23 ∷ 24 ∷ 25 ∷ 26 ∷ 27 ∷ 28 ∷ 29 ∷ 30 ∷ 31
          ∷ 35 ∷ 36 ∷ 37 ∷ 38 ∷ 39 ∷ 40 ∷ 41 ∷ 42 ∷ 43 ∷ 44 ∷ 45 ∷ 46 ∷ 47 ∷ 48 ∷ 49 ∷ 50
          ∷ 52 ∷ 53 ∷ 54 ∷ 55 ∷ 56 ∷ 57 ∷ 58 ∷ 59
          ∷ []),
    )
    -- "One run": six lines and four quick ticks on a fresh card
    ∷ (
      replies (answers cell_count fresh run),
      replies (
          accepted ∷ accepted ∷ accepted ∷ accepted ∷ accepted ∷ accepted
          ∷ ran 0x0000 0x0001 0x0001 1
          ∷ ran 0x0004 0x0001 0x0001 1
          ∷ ran 0x0004 0x0000 0x0001 1
          ∷ ran 0x0000 0x0000 0x0000 0
          ∷ []),
    )
    -- "22 obeys start only while its count is 0": started, its count written while it is active,
    -- stopped, barred, freed, started
    ∷ (
      replies (answers cell_count fresh counter_run),
      replies (
          accepted ∷ accepted
          ∷ ran 0x0000 0x0001 0x0001 1
          ∷ accepted
          ∷ ran 0x0000 0x0001 0x0001 1
          ∷ said ":A 8\r\n"
          ∷ ran 0x0000 0x0000 0x0001 1
          ∷ ran 0x0000 0x0000 0x0001 1
          ∷ accepted
          ∷ ran 0x0000 0x0000 0x0001 1
          ∷ ran 0x0000 0x0001 0x0001 1
          ∷ said ":A 1\r\n"
          ∷ []),
    )
    ∷ []

-- every entry is what is expected of it
pub RequiredExamples : Type 0
RequiredExamples = map (λ (e : Entry × Entry). e.0) box ≡ map (λ (e : Entry × Entry). e.1) box

pub one_table : RequiredExamples
unfolding RequiredExamples low high read lookup jk11 triggered clocked taking offered_of line quick_with quick run counter_run said accepted ran ones ones_in with_bit word_of bit_at listed value_by is_digit digits_of leads plain number_in number_at decimal_from decimal row_of slots_of taken raised work_as work_out stirred_as stirred disagree wakes level_at reads_levels reads slots_read mixed view effective_sample lines_of move current_cell current_connector put_cell put_connectors typed set_type configured_state configured set_config stated_as stated set_state wired set_slots set_source config_shown state_as fresh preset_table setting_of offered read_now read_last named turn_at outputs_below turned tick permitted_base bad_place bad_cell_type bad_config unused_slot bad_address no_config bad_state_as bad_state no_state is_word is_whole to_end slot_of pair_read steps pairs_of cca_form ccb_form read_form card_form plain_form addressed parse refusal changed change_for response_to decision decision_for line_decision line_outcome reply_of Line.line_reply saved_bytes after_call answer answers_of kind_at source_at with_kind with_source each from_each well_formed driven_word levels_from
one_table = refl
