-- The examples of document 01's table "When the card says no", with the cases of precedence and
-- those of document 02, as one table by computation; and the exact wording of some replies.
use Rattle.std.specs.Prelude.{ℕ, ◌≡◌, refl, List, [], ◌∷◌, map}
use Prim.Native.String.{String}
use Rattle.words.specs.Bits.{with_bit, word_of, bit_at}
use Rattle.words.specs.Listed.{listed}
use Rattle.text.specs.Digits.{value_by}
use Rattle.text.specs.Decimal.{is_digit, digits_of, leads, plain, number_in, number_at, decimal_from, decimal}
use Rattle.text.specs.Written.{bytes_of}
use Rattle.cells.specs.Table.{row_of}
use Rattle.card.specs.Connectors.{kind_at, source_at, with_kind, with_source, each, from_each, well_formed}
use Rattle.card.specs.declared.card.Card.{Card}
use Rattle.card.specs.Address.{cell_count}
use Rattle.card.specs.Edits.{with_pointer, current_cell, current_connector, put_cell, typed, set_type, set_trigger}
use Rattle.card.specs.Change.{changed}
use Rattle.card.specs.Fresh.{fresh}
use Rattle.card.specs.Valid.{permitted_base, bad_place, bad_cell_type, bad_connector_type, bad_clock, bad_config, no_config, unused_slot, bad_address, bad_state_as}
use Rattle.card.specs.Valid.{bad_state, no_state, front_driven}
use Rattle.card.specs.Presets.{preset_table, setting_of, offered, preset_cell, preset_source, sets_front, preset}
use Rattle.grammar.specs.Grammar.{is_word, is_whole, to_end, slot_of, pair_read, steps, pairs_of, cca_form, ccb_form}
use Rattle.grammar.specs.Grammar.{read_form, card_form, plain_form, addressed, parse}
use Rattle.lines.specs.Refusal.{refusal}
use Rattle.lines.specs.Line.{change_for, response_to, decision, decision_for, line_decision, line_outcome, reply_of, line_reply}

-- the number of a line with buffers of these lengths, and with room for its reply and its record
number_with : (reply store : ℕ) → Card → String → ℕ
number_with reply store c text = (line_outcome cell_count c (bytes_of text) reply store).k

number : Card → String → ℕ
number c text = number_with 16 308 c text

-- a fresh card with the pointer elsewhere, with cell 1 of a type, and under trigger 4
at : ℕ → Card
at p = with_pointer fresh p

typed_card : ℕ → Card
typed_card kind = set_type cell_count fresh kind

front_card : Card
front_card = set_trigger fresh 4

-- given, expected
abbrev numbers : List (ℕ × ℕ)
numbers =
    -- 1: a reply of 15 bytes, whatever the line
    (number_with 15 308 fresh "W E", 1)
    -- 1: a store of 307 bytes for `36SS Z`
    ∷ (number_with 16 307 fresh "36SS Z", 1)
    -- 3 with a short store
    ∷ (number_with 16 307 fresh "35SS Z", 3)
    ∷ (number fresh "36CCA Q=1", 2)
    -- 2: a leading zero
    ∷ (number fresh "M E=01", 2)
    -- 2: eleven digits
    ∷ (number fresh "M E=10000000000", 2)
    -- 2: an empty line
    ∷ (number fresh "", 2)
    -- 2: before 3
    ∷ (number fresh "35CCA Q=1", 2)
    -- 2: a letter twice
    ∷ (number (typed_card 5) "36CCB X=1 X=2", 2)
    ∷ (number fresh "35CCA Y=1", 3)
    ∷ (number fresh "00CCA Y=1", 3)
    -- 3: before 4
    ∷ (number fresh "35CCA Y=4294967296", 3)
    ∷ (number fresh "M E=4294967296", 4)
    ∷ (number fresh "M E=9999999999", 4)
    -- 4: before 6
    ∷ (number (at 33) "36CCB X=4294967296", 4)
    ∷ (number fresh "M E=17", 5)
    ∷ (number (at 33) "36CCB X=1", 6)
    -- 6: before 11
    ∷ (number (at 33) "36CCB X=20", 6)
    -- 6, of a read
    ∷ (number (at 33) "36CCA F?", 6)
    ∷ (number fresh "36CCA Y=23", 7)
    -- 7: before 13
    ∷ (number (with_pointer front_card 33) "36CCA Y=3", 7)
    ∷ (number fresh "36CCA X=51", 8)
    ∷ (number (typed_card 2) "36CCA Z=16", 9)
    -- 9: "CCA Z at a constant cell takes 0 or 1 and refuses others with 9"; 4 comes before
    ∷ (number fresh "36CCA Z=2", 9)
    ∷ (number fresh "36CCA Z=4294967296", 4)
    ∷ (number fresh "36CCA Z=1", 0)
    -- 9, of a read
    ∷ (number (typed_card 5) "36CCA Z?", 9)
    -- 9: a counter has no configuration to write, and 4 comes before; its count is read
    ∷ (number (typed_card 19) "36CCA Z=0", 9)
    ∷ (number (typed_card 22) "36CCA Z=4294967296", 4)
    ∷ (number (typed_card 22) "36CCA Z?", 0)
    -- "A counter's F over 65535 gives 12"
    ∷ (number (typed_card 21) "36CCA F=65535", 0)
    ∷ (number (typed_card 21) "36CCA F=65536", 12)
    ∷ (number (typed_card 5) "36CCB F=1", 10)
    -- 10: before 11
    ∷ (number (typed_card 5) "36CCB X=20 F=1", 10)
    -- 10, of a read
    ∷ (number (typed_card 5) "36CCB F?", 10)
    ∷ (number (typed_card 5) "36CCB X=20", 11)
    ∷ (number (typed_card 1) "36CCA F=2", 12)
    -- 12, of a read
    ∷ (number (typed_card 5) "36CCA F?", 12)
    ∷ (number front_card "36CCA X=37", 13)
    -- 13: an output at BNC1
    ∷ (number (with_pointer front_card 33) "36CCA Y=2", 13)
    -- accepted: an input there
    ∷ (number (with_pointer front_card 33) "36CCA Y=0", 0)
    ∷ (number (typed_card 5) "36CCB X=41 Y=192", 0)
    ∷ (number fresh "HOME E", 0)
    ∷ (number fresh "! E", 0)
    -- document 02, "Long exposures": below the limit of a line's number, a large one meets the next
    -- rule; "`M E=70000` now gives 5"
    ∷ (number fresh "M E=70000", 5)
    ∷ (number fresh "PM E=70000", 7)
    ∷ (number fresh "36CCA Y=70000", 7)
    ∷ (number (at 33) "36CCA Y=70000", 7)
    ∷ (number fresh "36CCA X=70000", 8)
    -- "lookup codes, constants and counter cells do not" go above 65535, and gates have no
    -- configuration; the source of a connector is an address
    ∷ (number fresh "36CCA Z=70000", 9)
    ∷ (number (typed_card 4) "36CCA Z=65536", 9)
    ∷ (number (typed_card 4) "36CCA Z=65535", 0)
    ∷ (number (typed_card 5) "36CCA Z=70000", 9)
    ∷ (number (typed_card 19) "36CCA Z=70000", 9)
    ∷ (number (at 33) "36CCA Z=70000", 11)
    ∷ (number (at 33) "36CCB X=70000", 6)
    ∷ (number (typed_card 5) "36CCB F=70000", 10)
    ∷ (number (typed_card 5) "36CCB X=70000", 11)
    ∷ (number (at 33) "36CCA F=70000", 6)
    ∷ (number fresh "36CCA F=70000", 12)
    ∷ (number (typed_card 5) "36CCA F=70000", 12)
    ∷ (number (typed_card 1) "36CCA F=70000", 12)
    ∷ (number (typed_card 22) "36CCA F=70000", 12)
    -- "Durations and counts of the timer types 8, 9 and 14 to 17 go to 4,294,967,295"
    ∷ (number (typed_card 9) "36CCA Z=4294967295", 0)
    ∷ (number (typed_card 9) "36CCA F=4294967295", 0)
    ∷ (number (typed_card 16) "36CCA Z=4294967295", 0)
    ∷ (number (typed_card 16) "36CCA F=4294967296", 4)
    ∷ []

examples : map (λ (e : ℕ × ℕ). e.0) numbers ≡ map (λ (e : ℕ × ℕ). e.1) numbers
unfolding listed number_with number at typed_card front_card with_bit word_of bit_at value_by is_digit digits_of leads plain number_in number_at row_of current_cell
    current_connector put_cell typed set_type set_trigger fresh permitted_base bad_place bad_cell_type bad_connector_type bad_clock bad_config no_config unused_slot
    bad_address bad_state_as bad_state no_state front_driven preset_table setting_of offered preset_cell preset_source sets_front preset is_word is_whole to_end slot_of
    pair_read steps pairs_of cca_form ccb_form read_form card_form plain_form addressed parse refusal changed change_for
    response_to decision decision_for line_decision line_outcome kind_at source_at with_kind with_source each from_each well_formed
examples = refl

-- ---- the exact wording of a reply

-- a card whose pointer, trigger source, levels and cells are words of their own
told : Card
told =
    record {
      pointer = 7;
      trigger = 3;
      cells = fresh.cells;
      connectors = fresh.connectors;
      edited = 0;
      memory = record { driven = 4; pulled = 0; outputs = 9; outputs2 = 0; outputs3 = 0; levels = 0x1205; levels2 = 0 };
      size = cell_count;
      tallies = fresh.tallies;
    }

reply_to : String → List ℕ
reply_to text = line_reply cell_count told (bytes_of text) 16 308

-- "The reply is `:A` or `:A n`, refused `:N-k`, each with CR LF"
abbrev replies : List (String × String)
replies =
    ("W E", ":A 7\r\n")
    ∷ ("36RDADC X?", ":A 5\r\n")
    ∷ ("36RDADC Y?", ":A 18\r\n")
    ∷ ("36RDADC Z?", ":A 9\r\n")
    ∷ ("M E=2", ":A\r\n")
    ∷ ("36SS Z", ":A\r\n")
    ∷ ("36CCA Q=1", ":N-2\r\n")
    ∷ ("35SS Z", ":N-3\r\n")
    ∷ ("36CCB X=1", ":N-10\r\n")
    ∷ []

texts : map (λ (e : String × String). reply_to e.0) replies ≡ map (λ (e : String × String). bytes_of e.1) replies
unfolding reply_to told listed with_bit word_of bit_at value_by is_digit digits_of leads plain number_in number_at decimal_from decimal row_of current_cell current_connector
    put_cell typed set_type set_trigger fresh permitted_base bad_place bad_cell_type bad_connector_type bad_clock bad_config no_config unused_slot bad_address bad_state_as
    bad_state no_state front_driven preset_table setting_of offered preset_cell preset_source sets_front preset is_word is_whole to_end slot_of pair_read steps pairs_of
    cca_form ccb_form read_form card_form plain_form addressed parse refusal changed change_for response_to decision
    decision_for line_decision line_outcome reply_of line_reply kind_at source_at with_kind with_source each from_each well_formed
texts = refl
