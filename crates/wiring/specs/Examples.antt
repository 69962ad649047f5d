-- Printed wirings written out from document 02, as one table by computation.
use Rattle.std.specs.Prelude.{ℕ, ◌≡◌, refl, true, List, [], ◌∷◌, ◌++◌, map, length, take, drop, replicate}
use Rattle.text.specs.Decimal.{decimal_from, decimal}
use Rattle.text.specs.Written.{bytes_of}
use Rattle.cells.specs.Table.{row_of}
use Rattle.card.specs.Connectors.{kind_at, source_at, with_kind, with_source, each, from_each, well_formed}
use Rattle.words.specs.Bits.{bit_at, word_of}
use Rattle.words.specs.Listed.{listed}
use Rattle.card.specs.declared.card.Card.{Card}
use Rattle.card.specs.Address.{cell_count}
use Rattle.card.specs.Fresh.{started, fresh}
use Rattle.card.specs.Presets.{whole}
use Rattle.card.specs.Valid.{permitted_base, bad_cell_type, bad_connector_type, bad_clock, bad_address, front_driven, valid_slot, valid_slots, valid_cell}
use Rattle.text.specs.Digits.{every}
use Rattle.card.specs.Valid.{valid_connector, valid, valid_card}
use Rattle.grammar.specs.Texts.{pairs_text, command_text}
use Rattle.wiring.specs.Wiring.{cell_commands, connector_commands, commands_from, wiring}
use Rattle.wiring.specs.Parts.{lines_text, commands_text}
use Rattle.wiring.specs.Print.{wiring_text, print_number, print_length, printed_to}

-- cell 1 with these settings, and what is printed of it
printed_cell : (kind config : ℕ) → List ℕ → List ℕ
printed_cell kind config slots = commands_text (cell_commands 0 (whole kind config slots))

-- cells of the longest lines on a card whose connectors have the longest sources
long_card : Card
long_card =
    started 16 0 (replicate 16 (whole 17 4294967295 (225 ∷ 225 ∷ 225 ∷ 225 ∷ [])))
    (record { sources = replicate 16 225; push_pull = 65535; open_drain = 0 }) 0

-- given, expected
abbrev table : List (List ℕ × List ℕ)
table =
    -- a fresh card, "For cells 1 to 16: `M E`, `36CCA Y`, `36CCA Z` where the type has a
    -- configuration", also 0
    (take 52 (wiring_text cell_count fresh), bytes_of "M E=1\n36CCA Y=0\n36CCA Z=0\nM E=2\n36CCA Y=0\n36CCA Z=0\n")
    -- "Then connectors 33 to 48 ... Then `PM E`. Each ends LF"
    ∷ (take 27 (drop 423 (wiring_text cell_count fresh)), bytes_of "M E=33\n36CCA Y=2\n36CCA Z=0\n")
    ∷ (drop 828 (wiring_text cell_count fresh), bytes_of "M E=48\n36CCA Y=0\n36CCA Z=0\nPM E=0\n")
    -- a counter has a configuration to be read and none to be written; slots in the order X Y Z F,
    -- the clock 128 or more
    ∷ (printed_cell 19 0 (41 ∷ 192 ∷ 0 ∷ 42 ∷ []), bytes_of "M E=1\n36CCA Y=19\n36CCB X=41 Y=192 Z=0 F=42\n")
    -- edge slots as they are stored, and the others
    ∷ (printed_cell 16 0 (169 ∷ 192 ∷ 64 ∷ 170 ∷ []), bytes_of "M E=1\n36CCA Y=16\n36CCA Z=0\n36CCB X=169 Y=192 Z=64 F=170\n")
    -- only used slots; gates have no configuration
    ∷ (printed_cell 5 0 (1 ∷ 0 ∷ 0 ∷ 0 ∷ []), bytes_of "M E=1\n36CCA Y=5\n36CCB X=1 Y=0\n")
    ∷ (printed_cell 2 8 (105 ∷ 42 ∷ 0 ∷ 0 ∷ []), bytes_of "M E=1\n36CCA Y=2\n36CCA Z=8\n36CCB X=105 Y=42\n")
    -- a type past the table, on a card that no calls reach
    ∷ (printed_cell 200 7 (1 ∷ 2 ∷ 3 ∷ 4 ∷ []), bytes_of "M E=1\n36CCA Y=200\n")
    -- "16, when the text is longer than the buffer", "It returns k and the text's length, 0 when
    -- refused": a fresh card's text has 862 bytes
    ∷ (print_number cell_count fresh 861 ∷ print_length cell_count fresh 861 ∷ [], 16 ∷ 0 ∷ [])
    ∷ (print_number cell_count fresh 862 ∷ print_length cell_count fresh 862 ∷ [], 0 ∷ 862 ∷ [])
    -- "the buffer is then untouched"; else what lies beyond the text is
    ∷ (printed_to cell_count fresh (7 ∷ 8 ∷ []), 7 ∷ 8 ∷ [])
    ∷ (drop 855 (printed_to cell_count fresh (replicate 864 7)), bytes_of "PM E=0\n" ++ (7 ∷ 7 ∷ []))
    -- the longest text of a card that lines can set
    ∷ (length (wiring_text cell_count long_card) ∷ [], 1534 ∷ [])
    ∷ []

one_table : map (λ (e : List ℕ × List ℕ). e.0) table ≡ map (λ (e : List ℕ × List ℕ). e.1) table
unfolding printed_cell long_card decimal decimal_from row_of fresh cell_commands connector_commands commands_from wiring pairs_text command_text lines_text commands_text
    wiring_text kind_at source_at each bit_at listed
one_table = refl

long-valid : valid_card cell_count long_card ≡ true
unfolding long_card row_of permitted_base bad_cell_type bad_connector_type bad_clock bad_address front_driven valid_slot valid_slots valid_cell valid_connector every valid
    valid_card kind_at source_at with_kind with_source each from_each well_formed bit_at word_of listed
long-valid = refl
