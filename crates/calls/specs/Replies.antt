-- Document 01, "Lines": one session of a card of sixteen cells, and a short one of thirty-two, with
-- the exact wording of every reply, by computation. What the contracts say of a reply they say of a
-- definition; here the replies are as the documents have them.
use Rattle.std.specs.Prelude.{ℕ, ◌≡◌, refl, true, false, List, [], ◌∷◌, ◌++◌, map, replicate}
use Prim.Native.String.{String}
use Rattle.std.specs.Int.Count.{ones, ones_in}
use Rattle.words.specs.Bits.{with_bit, word_of, bit_at}
use Rattle.words.specs.Listed.{listed}
use Rattle.text.specs.Digits.{value_by}
use Rattle.text.specs.Decimal.{is_digit, digits_of, leads, plain, number_in, number_at, decimal_from, decimal}
use Rattle.text.specs.Written.{bytes_of}
use Rattle.cells.specs.Table.{row_of}
use Rattle.cells.specs.Work.{slots_of, taken, raised, work_as, work_out}
use Rattle.cells.specs.Wake.{stirred_as, stirred, disagree, wakes}
use Rattle.card.specs.Connectors.{kind_at, source_at, with_kind, with_source, each, from_each, well_formed}
use Rattle.card.specs.Address.{cell_count, cell_room}
use Rattle.card.specs.Edits.{move, set_trigger, home, current_cell, current_connector, put_cell, put_connectors, typed, set_type, configured_state, configured}
use Rattle.card.specs.Edits.{set_config, stated_as, stated, set_state, wired, set_slots, set_connector_type, set_source}
use Rattle.card.specs.Context.{config_shown, state_as}
use Rattle.card.specs.Change.{changed}
use Rattle.card.specs.Fresh.{fresh, fresh_of}
use Rattle.card.specs.Presets.{preset_table, setting_of, offered}
use Rattle.card.specs.Valid.{permitted_base, bad_place, bad_cell_type, bad_connector_type, bad_clock, bad_config, unused_slot, bad_address, no_config, bad_state_as}
use Rattle.text.specs.Digits.{every}
use Rattle.card.specs.Valid.{bad_state, no_state, front_driven, valid_slot, valid_slots, valid_cell, valid_connector, valid}
use Rattle.ticks.specs.Reading.{level_at, reads_levels, reads, slots_read, mixed, view}
use Rattle.ticks.specs.Levels.{effective_sample, driven_word, levels_from, lines_of}
use Rattle.ticks.specs.Tick.{read_now, read_last, named, turn_at, outputs_below, turned, tick}
use Rattle.saved.specs.Record.{big_endian, cell_field, connector_field, fields_from, encode, big_value, cell_in, connector_in, normal_cell, record_of, same_bytes}
use Rattle.saved.specs.Record.{load_number_as, loaded_as, load_number, loaded}
use Rattle.grammar.specs.Grammar.{is_word, is_whole, to_end, slot_of, pair_read, steps, pairs_of, cca_form, ccb_form}
use Rattle.grammar.specs.Grammar.{read_form, card_form, plain_form, addressed, parse}
use Rattle.lines.specs.Refusal.{refusal}
use Rattle.lines.specs.Line
use Rattle.lines.specs.Line.{shortest_reply, change_for, response_to, decision, decision_for, line_decision, line_outcome, reply_of}
use Rattle.calls.specs.Runs.{answers_of}
use Rattle.calls.specs.Calls
use Rattle.calls.specs.Calls.{Call, Reply, saved_bytes, after_call, answer, answers}
use Rattle.calls.specs.Calls.Reply.{line_reply, load_reply, tick_reply}

-- ---- calls and their answers

-- a line with a reply buffer that is just long enough, and a store of this length
line_with : ℕ → String → Call
line_with store text = Calls.Call.line (bytes_of text) (replicate shortest_reply 0) (replicate store 0)

-- a reply in words; a refused line has its number too
said : String → Reply
said text = line_reply 0 (bytes_of text) []

refused : ℕ → String → Reply
refused k text = line_reply k (bytes_of text) []

-- a tick of clock code 3 with everything attached
tick_of : ℕ → Call
tick_of sample = Calls.own_tick cell_count false (record { code = 3; sample = sample; attached = 0xffff })

-- ---- sixteen cells

-- the record of the session's settings: trigger 3, cell 1 constant 1, cell 2 a D-flop of 192 with
-- its clock at the rise of TTL1, cell 5 a delay of 1000; BNC1 an input, BNC3 open-drain from the
-- inverse of cell 2
constants : ℕ → List ℕ
constants i = 2 ∷ 0 ∷ 10 ∷ i ∷ replicate 9 0

pushed : ℕ → List ℕ
pushed a = 3 ∷ 0 ∷ 3 ∷ a ∷ 2 ∷ 0 ∷ []

inputs : ℕ → List ℕ
inputs a = 3 ∷ 0 ∷ 3 ∷ a ∷ 0 ∷ 0 ∷ []

bytes : List ℕ
bytes =
    (1 ∷ 0 ∷ 1 ∷ 3 ∷ [])
    ++ (2 ∷ 0 ∷ 10 ∷ 1 ∷ 0 ∷ 0 ∷ 0 ∷ 0 ∷ 1 ∷ 0 ∷ 0 ∷ 0 ∷ 0 ∷ [])
    ++ (2 ∷ 0 ∷ 10 ∷ 2 ∷ 1 ∷ 0 ∷ 0 ∷ 0 ∷ 0 ∷ 192 ∷ 170 ∷ 0 ∷ 0 ∷ [])
    ++ constants 3 ++ constants 4
    ++ (2 ∷ 0 ∷ 10 ∷ 5 ∷ 9 ∷ 0 ∷ 0 ∷ 3 ∷ 232 ∷ 128 ∷ 128 ∷ 0 ∷ 0 ∷ [])
    ++ constants 6 ++ constants 7 ++ constants 8 ++ constants 9 ++ constants 10 ++ constants 11 ++ constants 12 ++ constants 13 ++ constants 14
    ++ constants 15 ++ constants 16
    ++ inputs 33 ++ pushed 34
    ++ (3 ∷ 0 ∷ 3 ∷ 35 ∷ 1 ∷ 66 ∷ [])
    ++ pushed 36 ++ pushed 37 ++ pushed 38 ++ pushed 39 ++ pushed 40
    ++ inputs 41 ++ inputs 42 ++ inputs 43 ++ inputs 44 ++ inputs 45 ++ inputs 46 ++ inputs 47 ++ inputs 48

-- a line with room for the record, and its reply; each call beside its answer
abbrev small : String → String → Call × Reply
small text reply = (line_with 308 text, said reply)

-- its replies ":A" alone
abbrev done : String → Call × Reply
done text = small text ":A\r\n"

abbrev session : List (Call × Reply)
session =
    small "W E" ":A 1\r\n"
    ∷ done "PM E=3"
    ∷ done "36CCA Z=1"
    ∷ done "M E=2"
    ∷ small "W E" ":A 2\r\n"
    ∷ done "36CCA Y=1"
    ∷ done "36CCA F=1"
    -- "An edge-sensitive slot given 0-127 stores that plus 128"; CCB keeps the state
    ∷ done "36CCB Y=42 X=192"
    ∷ small "36CCB X?" ":A 192\r\n"
    ∷ small "36CCB Y?" ":A 170\r\n"
    ∷ small "36CCA F?" ":A 1\r\n"
    ∷ small "36CCA Y?" ":A 1\r\n"
    ∷ (line_with 308 "36CCA Z?", refused 9 ":N-9\r\n")
    ∷ done "M E=5"
    ∷ done "36CCA Y=9"
    ∷ done "36CCA Z=1000"
    ∷ done "36CCA F=7"
    ∷ small "36CCA Y?" ":A 9\r\n"
    ∷ small "36CCA Z?" ":A 1000\r\n"
    ∷ small "36CCA F?" ":A 7\r\n"
    -- a connector: its type, then its source; a new type keeps the source
    ∷ done "M E=33"
    ∷ done "36CCA Y=0"
    ∷ done "M E=35"
    ∷ done "36CCA Z=66"
    ∷ done "36CCA Y=1"
    ∷ small "36CCA Y?" ":A 1\r\n"
    ∷ small "36CCA Z?" ":A 66\r\n"
    ∷ (line_with 308 "36CCA F?", refused 6 ":N-6\r\n")
    ∷ small "36RDADC X?" ":A 0\r\n"
    -- a tick: BNC3 driven, BNC1 and BNC3 high, TTL1 and TTL4 high, cells 1 and 2 high; cells 1, 2
    -- and 5 were edited
    ∷ (tick_of 0x1205, tick_reply (record { ran = true; driven = 0x0004; cells = 0x0003; woken = 0x0013; count = 3 }))
    ∷ small "36RDADC X?" ":A 5\r\n"
    ∷ small "36RDADC Y?" ":A 18\r\n"
    ∷ small "36RDADC Z?" ":A 3\r\n"
    ∷ small "W E" ":A 35\r\n"
    -- "`HOME E` ... clears all states"
    ∷ done "M E=5"
    ∷ small "36CCA F?" ":A 7\r\n"
    ∷ done "HOME E"
    ∷ small "36CCA F?" ":A 0\r\n"
    ∷ (line_with 308 "36CCA X=51", refused 8 ":N-8\r\n")
    ∷ (line_with 308 "36RDADC F?", refused 2 ":N-2\r\n")
    ∷ (line_with 307 "36SS Z", refused 1 ":N-1\r\n")
    ∷ (line_with 308 "36SS Z", line_reply 0 (bytes_of ":A\r\n") bytes)
    -- "A load is a power-up: fresh, with these settings. Pointer and states aren't saved"
    ∷ (Calls.Call.load [], load_reply 14)
    ∷ small "W E" ":A 5\r\n"
    ∷ (Calls.Call.load bytes, load_reply 0)
    ∷ small "W E" ":A 1\r\n"
    ∷ small "36CCA Z?" ":A 1\r\n"
    ∷ small "36RDADC Z?" ":A 0\r\n"
    ∷ []

-- ---- thirty-two cells

abbrev large : String → String → Call × Reply
large text reply = (line_with 516 text, said reply)

-- cells 3, 20 and 32 high: the upper sixteen from cell 17 on, the lower ones by `Z?`
abbrev large_session : List (Call × Reply)
large_session =
    large "M E=20" ":A\r\n"
    ∷ large "36CCA Z=1" ":A\r\n"
    ∷ large "M E=32" ":A\r\n"
    ∷ large "36CCA Z=1" ":A\r\n"
    ∷ large "M E=3" ":A\r\n"
    ∷ large "36CCA Z=1" ":A\r\n"
    ∷ (
      Calls.own_tick cell_room false (record { code = 0; sample = 0; attached = 0xffff }),
      tick_reply (record { ran = true; driven = 0; cells = 0x80080004; woken = 0x80080004; count = ones 0x80080004 }),
    )
    ∷ large "36RDADC F?" ":A 32776\r\n"
    ∷ large "36RDADC Z?" ":A 4\r\n"
    ∷ large "W E" ":A 3\r\n"
    ∷ []

replies : answers cell_count fresh (map (λ (e : Call × Reply). e.0) session) ≡ map (λ (e : Call × Reply). e.1) session
unfolding line_with said refused tick_of constants pushed inputs bytes ones ones_in with_bit word_of bit_at listed value_by is_digit digits_of leads plain number_in number_at decimal_from decimal row_of slots_of taken raised work_as work_out stirred_as stirred disagree wakes level_at reads_levels reads slots_read mixed view effective_sample lines_of move set_trigger home current_cell current_connector put_cell put_connectors typed set_type configured_state configured set_config stated_as stated set_state wired set_slots set_connector_type set_source config_shown state_as fresh preset_table setting_of offered read_now read_last named turn_at outputs_below turned tick permitted_base bad_place bad_cell_type bad_connector_type bad_clock bad_config unused_slot bad_address no_config bad_state_as bad_state no_state front_driven valid_slot valid_slots valid_cell valid_connector every valid big_endian cell_field connector_field fields_from encode big_value cell_in connector_in normal_cell record_of same_bytes load_number_as loaded_as load_number loaded is_word is_whole to_end slot_of pair_read steps pairs_of cca_form ccb_form read_form card_form plain_form addressed parse refusal changed change_for response_to decision decision_for line_decision line_outcome reply_of Line.line_reply saved_bytes after_call answer answers_of kind_at source_at with_kind with_source each from_each well_formed driven_word levels_from
replies = refl

-- the number of ones is left as it is written: counted out, it takes as many steps as the word says
large-replies : answers cell_room (fresh_of cell_room) (map (λ (e : Call × Reply). e.0) large_session) ≡ map (λ (e : Call × Reply). e.1) large_session
unfolding line_with said refused with_bit word_of bit_at listed value_by is_digit digits_of leads plain number_in number_at decimal_from decimal row_of slots_of taken raised work_as work_out stirred_as stirred disagree wakes level_at reads_levels reads slots_read mixed view effective_sample lines_of move set_trigger home current_cell current_connector put_cell put_connectors typed set_type configured_state configured set_config stated_as stated set_state wired set_slots set_connector_type set_source config_shown state_as fresh preset_table setting_of offered read_now read_last named turn_at outputs_below turned tick permitted_base bad_place bad_cell_type bad_connector_type bad_clock bad_config unused_slot bad_address no_config bad_state_as bad_state no_state front_driven valid_slot valid_slots valid_cell valid_connector every valid big_endian cell_field connector_field fields_from encode big_value cell_in connector_in normal_cell record_of same_bytes load_number_as loaded_as load_number loaded is_word is_whole to_end slot_of pair_read steps pairs_of cca_form ccb_form read_form card_form plain_form addressed parse refusal changed change_for response_to decision decision_for line_decision line_outcome reply_of Line.line_reply saved_bytes after_call answer answers_of kind_at source_at with_kind with_source each from_each well_formed driven_word levels_from
large-replies = refl
