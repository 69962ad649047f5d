-- Document 02, 12: what a row of cards answers, by computation, in the numbers of the document: the
-- supply, who pulls a line low, and what is no rack.
use Rattle.std.specs.Prelude.{ℕ, ◌≡◌, refl, true, false, List, [], ◌∷◌, ◌++◌, map, replicate}
use Prim.Native.String.{String}
use Rattle.words.specs.Bits.{with_bit, word_of, bit_at}
use Rattle.words.specs.Listed.{listed}
use Rattle.text.specs.Digits.{value_by}
use Rattle.text.specs.Decimal.{is_digit, digits_of, leads, plain, number_in, number_at, decimal_from, decimal}
use Rattle.text.specs.Written.{bytes_of}
use Rattle.cells.specs.Table.{row_of}
use Rattle.cells.specs.Work.{slots_of, taken, raised, work_as, work_out}
use Rattle.card.specs.Connectors.{kind_at, source_at, with_kind, with_source, each, from_each, well_formed}
use Rattle.card.specs.Edits.{move, set_trigger, home, current_cell, current_connector, put_cell, put_connectors, typed, set_type, configured_state, configured}
use Rattle.card.specs.Edits.{set_config, stated_as, stated, set_state, wired, set_slots, set_connector_type, set_source}
use Rattle.card.specs.Context.{config_shown, state_as}
use Rattle.card.specs.Change.{changed}
use Rattle.card.specs.Presets.{preset_table, setting_of, offered, preset_cell, preset_source, sets_front, preset}
use Rattle.card.specs.Valid.{permitted_base, bad_place, bad_cell_type, bad_connector_type, bad_clock, bad_config, unused_slot, bad_address, no_config, bad_state_as}
use Rattle.text.specs.Digits.{every}
use Rattle.card.specs.Valid.{bad_state, no_state, front_driven, valid_slot, valid_slots, valid_cell, valid_connector, valid}
use Rattle.ticks.specs.Tick.{read_now, read_last, named, turn_at, outputs_below, turned, tick}
use Rattle.grammar.specs.Grammar.{is_word, is_whole, to_end, slot_of, pair_read, steps, pairs_of, cca_form, ccb_form}
use Rattle.grammar.specs.Grammar.{read_form, card_form, plain_form, addressed, parse}
use Rattle.lines.specs.Refusal.{refusal}
use Rattle.std.specs.Int.Count.{ones, ones_in}
use Rattle.words.specs.Bits.{count_of}
use Rattle.cells.specs.Wake.{stirred_as, stirred, disagree, wakes}
use Rattle.card.specs.Address.{cell_count, cell_room}
use Rattle.card.specs.declared.card.Card.{Card}
use Rattle.card.specs.Fresh.{fresh_cell, fresh_of}
use Rattle.card.specs.Tally.{counted, tallied_by}
use Rattle.ticks.specs.declared.tick.Answer.{Answer}
use Rattle.ticks.specs.Rest.{total_of}
use Rattle.ticks.specs.Reading.{level_at, reads_levels, reads, slots_read, mixed, view}
use Rattle.ticks.specs.Levels.{effective_sample, driven_word, pulled_word, levels_from, lines_of}
use Rattle.saved.specs.Record.{config_width, big_endian, cell_field, connector_field, fields_from, encode, big_value, cell_in, connector_in, normal_cell}
use Rattle.saved.specs.Record.{record_of, same_bytes}
use Rattle.saved.specs.Record.{load_number_as, loaded_as, load_number, loaded}
use Rattle.lines.specs.Line.{shortest_reply, change_for, response_to, decision, decision_for, line_decision, line_outcome, reply_of}
use Rattle.calls.specs.Runs.{end_of, answers_of}
use Rattle.rack.specs.declared.tick.Front.{Front}
use Rattle.rack.specs.Shared.{pulls, shared_levels, shared_tick}
use Rattle.rack.specs.Supply.{pushes, draw, same_kinds, over}
use Rattle.rack.specs.Rack.{start_card, start_number, started_row, ticks_from, tick_number, ticked_row, idle_answer, row_answers}
use Rattle.rack.specs.Rack.{row_outcome, lined_row, row_load_number, loaded_row}
use Rattle.rack.specs.Calls
use Rattle.rack.specs.Calls.{RackCall, RackReply, row_reply, row_saved, after_call, answer, end, answers}
use Rattle.rack.specs.Calls.RackReply.{number_reply, line_reply, tick_reply}
use Rattle.rack.specs.Demand3.{start_row}

-- ---- calls and their answers

abbrev Exchange : Type 0
Exchange = RackCall × RackReply

-- a line to the card of a number, with a reply buffer that is just long enough, and no store
line_to : ℕ → String → RackCall
line_to number text = Calls.RackCall.line number (bytes_of text) (replicate shortest_reply 0) []

said : ℕ → String → String → Exchange
said number text reply = (line_to number text, line_reply 0 (bytes_of reply) [])

refused : (number : ℕ) → String → (k : ℕ) → String → Exchange
refused number text k reply = (line_to number text, line_reply k (bytes_of reply) [])

-- lines that the card of a number accepts
accepts : ℕ → List String → List Exchange
accepts number texts = map (λ text. said number text ":A\r\n") texts

loads : (number : ℕ) → List ℕ → (k : ℕ) → Exchange
loads number bytes k = (Calls.RackCall.load number bytes, number_reply k)

starts : ℕ → Exchange
starts k = (Calls.RackCall.start, number_reply k)

-- a quick tick of a clock: the backplane with what is attached there, and the fronts
tick_on : (code sample attached count : ℕ) → List Front → RackCall
tick_on code sample attached count fronts =
    Calls.RackCall.tick false (record { code = code; sample = sample; attached = attached; count = count; fronts = fronts })

-- for two cards, with the backplane sampled high, the fronts low, and everything attached
tick_of : ℕ → RackCall
tick_of code = tick_on code 0xff 0xff 2 (replicate 4 (record { sample = 0; attached = 0xff }))

-- a card that ran, with nothing woken
ran : ℕ → Answer
ran driven = record { ran = true; driven = driven; cells = 0; woken = 0; count = 0 }

ticked : List Answer → RackReply
ticked answers = tick_reply (record { k = 0; answers = answers })

-- a tick of two cards; those that are not there idle
ticks : ℕ → Answer → Answer → Exchange
ticks code one two = (tick_of code, ticked (one ∷ two ∷ replicate 2 idle_answer))

-- a record of constants 0 with this trigger, the eight front connectors of one type and the eight
-- of the backplane of another, all from 0
record_with : (trigger front back : ℕ) → List ℕ
record_with trigger front back =
    encode config_width trigger (replicate cell_count fresh_cell)
    (replicate 8 (record { kind = front; source = 0 }) ++ replicate 8 (record { kind = back; source = 0 }))

-- a row, and what is said to it and answered
abbrev Session : Type 0
Session = List Card × List Exchange

-- ---- the supply

-- "the sum over the cards of the larger of 4 and the card's push-pull front connectors is then at
-- most 16": three cards with 8, 1 and 0 draw 16, whatever is open-drain or on the backplane. Then
-- five on the second are one too many; 13 and 15 come before that
supply_session : Session
supply_session = (
  start_row cell_count 3,
  loads 3 (record_with 0 1 2) 0 ∷ accepts 1 ("36CCA X=19" ∷ []) ++ accepts 2 ("36CCA X=24" ∷ [])
      ++ (refused 2 "36CCA X=5" 19 ":N-19\r\n" ∷ accepts 2 ("M E=37" ∷ []))
      ++ (said 2 "36CCA Y?" ":A 0\r\n" ∷ accepts 1 ("36CCA X=19" ∷ []))
      ++ (loads 2 (record_with 0 2 0) 19 ∷ loads 2 (record_with 9 2 0) 15 ∷ accepts 2 ("PM E=4" ∷ []))
      ++ (refused 2 "36CCA X=19" 13 ":N-13\r\n" ∷ []),
)

-- on a row that draws too much already, three fresh cards with 24: what changes no front type is
-- free, a preset on connectors that are push-pull already too; a change that leaves the row over 16
-- is refused, open-drain and `PM E=4` among them
over_session : Session
over_session = (
  replicate 3 (fresh_of cell_count),
  accepts 1 ("M E=33" ∷ "36CCA Z=64" ∷ "36CCA X=19" ∷ [])
      ++ (refused 1 "36CCA Y=1" 19 ":N-19\r\n" ∷ refused 1 "PM E=4" 19 ":N-19\r\n" ∷ accepts 1 ("PM E=3" ∷ [])),
)

-- "a lent row of 1 to 4 cards": four take a start, a load of open-drain fronts, four push-pull ones
-- on the last and no fifth, and a tick with a front for each
four_session : Session
four_session = (
  start_row cell_count 4,
  starts 0 ∷ loads 2 (record_with 0 1 0) 0 ∷ accepts 4 ("36CCA X=31" ∷ [])
      ++ (
      refused 4 "36CCA X=24" 19 ":N-19\r\n"
      ∷ (
        tick_on 0 0xff 0xff 4 (replicate 4 (record { sample = 0x80; attached = 0xff })),
        ticked (
            ran 0 ∷ record { ran = true; driven = 0; cells = 0; woken = 0xffff; count = 16 } ∷ ran 0
            ∷ record { ran = true; driven = 0; cells = 0; woken = 0x0060; count = 2 } ∷ []),
      )
      ∷ said 3 "36RDADC X?" ":A 128\r\n" ∷ []),
)

-- ---- who pulls a line low

-- card 1 has TTL0 open-drain from 0: both cards see it low. It idles and its connector becomes an
-- input: it goes on pulling, until it runs again
idle_session : Session
idle_session = (
  start_row cell_count 2,
  accepts 1 ("M E=41" ∷ "36CCA Y=1" ∷ []) ++ (ticks 0 (ran 0) (ran 0) ∷ said 2 "36RDADC Y?" ":A 254\r\n" ∷ accepts 1 ("PM E=1" ∷ "36CCA Y=0" ∷ []))
      ++ (ticks 0 idle_answer (ran 0) ∷ said 2 "36RDADC Y?" ":A 254\r\n"
      ∷ ticks 1 (ran 0) idle_answer ∷ said 1 "36RDADC Y?" ":A 255\r\n"
      ∷ ticks 0 idle_answer (ran 0) ∷ said 2 "36RDADC Y?" ":A 255\r\n" ∷ []),
)

-- "before its first tick it drives nothing"; "push-pull there counts as open-drain": card 1 drives
-- TTL0 high and card 2 low, and it is low for both
driver_session : Session
driver_session = (
  start_row cell_count 2,
  accepts 2 ("M E=41" ∷ "36CCA Y=1" ∷ "PM E=1" ∷ []) ++ accepts 1 ("M E=41" ∷ "36CCA Y=2" ∷ "36CCA Z=64" ∷ [])
      ++ (ticks 0 (ran 0x0100) idle_answer ∷ said 1 "36RDADC Y?" ":A 255\r\n"
      ∷ ticks 1 idle_answer (ran 0) ∷ ticks 0 (ran 0x0100) idle_answer ∷ said 1 "36RDADC Y?" ":A 254\r\n" ∷ []),
)

-- "one backplane sample" for all, and for each card its own front, each with its attached bits:
-- BNC2 of card 1, BNC3 of card 2 and, of the backplane, TTL1 and TTL3 to TTL7 are high. Card 1
-- drives TTL0 high, push-pull, and it is low, for the sample is; then it drives it low, and card 2
-- sees it; then both drive it low, and it is low
apart_session : Session
apart_session = (
  start_row cell_count 2,
  accepts 1 ("M E=41" ∷ "36CCA Y=2" ∷ "36CCA Z=64" ∷ [])
      ++ ((
        tick_on 0 0xf8 0xfd 2
            (record { sample = 0x03; attached = 0xfe } ∷ record { sample = 0x0c; attached = 0xf7 } ∷ replicate 2 (record { sample = 0xff; attached = 0xff })),
        ticked (ran 0x0100 ∷ ran 0 ∷ replicate 2 idle_answer),
      )
      ∷ said 1 "36RDADC X?" ":A 2\r\n" ∷ said 2 "36RDADC X?" ":A 4\r\n"
      ∷ said 1 "36RDADC Y?" ":A 250\r\n" ∷ said 2 "36RDADC Y?" ":A 250\r\n" ∷ accepts 1 ("36CCA Z=0" ∷ []))
      ++ (ticks 0 (ran 0) (ran 0) ∷ said 2 "36RDADC Y?" ":A 254\r\n" ∷ accepts 2 ("M E=41" ∷ "36CCA Y=1" ∷ []))
      ++ (ticks 0 (ran 0) (ran 0) ∷ said 1 "36RDADC Y?" ":A 254\r\n" ∷ []),
)

-- ---- what a start leaves

-- "makes every card of the row fresh, but with all front connectors as inputs": pointer, trigger,
-- cells, levels, types, sources, and the record that it saves
start_session : Session
start_session = (
  replicate 2 (fresh_of cell_count),
  accepts 2 ("36CCA X=19" ∷ "36CCA Y=5" ∷ "M E=40" ∷ "PM E=1" ∷ [])
      ++ (ticks 1 idle_answer (record { ran = true; driven = 0; cells = 0; woken = 1; count = 1 }) ∷ starts 0
      ∷ said 2 "W E" ":A 1\r\n" ∷ said 2 "36CCA Y?" ":A 0\r\n" ∷ said 2 "36RDADC Y?" ":A 0\r\n" ∷ said 2 "36RDADC Z?" ":A 0\r\n"
      ∷ accepts 2 ("M E=40" ∷ []))
      ++ (said 2 "36CCA Y?" ":A 0\r\n" ∷ said 2 "36CCA Z?" ":A 0\r\n"
      ∷ (Calls.RackCall.line 2 (bytes_of "36SS Z") (replicate shortest_reply 0) (replicate 308 0), line_reply 0 (bytes_of ":A\r\n") (record_with 0 0 0))
      ∷ ticks 0 (ran 0) (ran 0) ∷ []),
)

-- ---- what is no rack

no_rack_sessions : List Session
no_rack_sessions =
    ([], starts 20 ∷ []) ∷ (start_row cell_count 5, starts 20 ∷ []) ∷ (start_card cell_count ∷ fresh_of cell_room ∷ [], starts 20 ∷ [])
    ∷ (
      start_row cell_count 2,
      refused 0 "W E" 20 ":N-20\r\n" ∷ refused 3 "W E" 20 ":N-20\r\n"
          ∷ (Calls.RackCall.line 3 (bytes_of "W E") (replicate 15 0) [], line_reply 20 [] []) ∷ loads 3 [] 20 ∷ loads 1 [] 14 ∷ [],
    )
    ∷ (start_row cell_count 3, (tick_of 0, tick_reply (record { k = 20; answers = replicate 4 idle_answer })) ∷ []) ∷ []

sessions : List Session
sessions = supply_session ∷ over_session ∷ four_session ∷ idle_session ∷ driver_session ∷ apart_session ∷ start_session ∷ no_rack_sessions

-- ---- tallies

-- a rack tick counts; "A load clears them", a start too, and of a row the load of one card leaves
-- the other's
tally_rows : List (List RackCall × List ℕ)
tally_rows =
    (tick_of 0 ∷ tick_of 1 ∷ tick_of 0 ∷ [], 2 ∷ 2 ∷ [])
    ∷ (tick_of 0 ∷ Calls.RackCall.load 1 (record_with 0 0 0) ∷ [], 0 ∷ 1 ∷ [])
    ∷ (tick_of 0 ∷ Calls.RackCall.start ∷ [], 0 ∷ 0 ∷ [])
    ∷ []

-- each session's answers, and each row's tick totals
computed :
    (map (λ (s : Session). answers cell_count s.0 (map (λ (e : Exchange). e.0) s.1)) sessions
    ≡ map (λ (s : Session). map (λ (e : Exchange). e.1) s.1) sessions)
    × (map (λ (e : List RackCall × List ℕ). map total_of (end cell_count (start_row cell_count 2) e.0)) tally_rows
    ≡ map (λ (e : List RackCall × List ℕ). e.1) tally_rows)
unfolding preset_cell preset_source sets_front preset ones ones_in with_bit word_of bit_at listed value_by is_digit digits_of
    leads plain number_in number_at decimal_from decimal row_of slots_of taken raised work_as work_out stirred_as stirred
    disagree wakes level_at reads_levels reads slots_read mixed view effective_sample lines_of move set_trigger home
    current_cell current_connector put_cell put_connectors typed set_type configured_state configured set_config stated_as
    stated set_state wired set_slots set_connector_type set_source config_shown state_as preset_table setting_of offered
    read_now read_last named turn_at outputs_below turned tick permitted_base bad_place bad_cell_type bad_connector_type
    bad_clock bad_config unused_slot bad_address no_config bad_state_as bad_state no_state front_driven valid_slot valid_slots
    valid_cell valid_connector every valid big_endian cell_field connector_field fields_from encode big_value cell_in
    connector_in normal_cell record_of same_bytes load_number_as loaded_as load_number loaded is_word is_whole to_end slot_of
    pair_read steps pairs_of cca_form ccb_form read_form card_form plain_form
    addressed parse refusal changed change_for response_to decision decision_for line_decision line_outcome
    reply_of kind_at source_at with_kind with_source each from_each well_formed driven_word levels_from pulled_word count_of
    pulls shared_levels shared_tick pushes draw same_kinds over start_number started_row ticks_from
    tick_number ticked_row row_answers row_outcome lined_row row_load_number loaded_row row_reply row_saved after_call answer
    answers_of counted tallied_by end_of sessions supply_session over_session four_session idle_session driver_session
    apart_session start_session no_rack_sessions tally_rows line_to said refused accepts loads starts tick_on tick_of ran
    ticked ticks record_with
computed = (refl, refl)
