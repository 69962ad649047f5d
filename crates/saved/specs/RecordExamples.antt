-- Document 01, "Saved record" and rows 14 and 15, with document 02, "Long exposures", as one table
-- by computation: a whole record written out from the documents, what it loads as, and what a load
-- gives where bytes of it are others, or in the old form; and a second table of a large card's
-- record.
use Rattle.std.specs.Prelude.{ℕ, ◌+◌, ◌*◌, ◌/◌, ◌%◌, ◌≡◌, refl, true, List, [], ◌∷◌, ◌++◌, length, set, take, drop, replicate}
use Rattle.words.specs.Bits.{bit_at, word_of}
use Rattle.words.specs.Listed.{listed}
use Rattle.cells.specs.State.{cell_of}
use Rattle.cells.specs.Table.{row_of}
use Rattle.card.specs.Address.{cell_count, cell_room}
use Rattle.card.specs.Connectors.{kind_at, source_at, each, from_each}
use Rattle.card.specs.Fresh.{clear_state, fresh_of, fresh}
use Rattle.card.specs.Context.{config_shown}
use Rattle.card.specs.declared.card.Card.{Card}
use Rattle.card.specs.Edits.{with_pointer}
use Rattle.card.specs.Tally.{ticks, tally_of}
use Rattle.card.specs.Valid.{permitted_base, bad_clock, front_driven, bad_cell_type, bad_connector_type, bad_address, valid_slot, valid_slots, valid_cell}
use Rattle.text.specs.Digits.{every}
use Rattle.card.specs.Valid.{valid_connector, valid}
use Rattle.saved.specs.Record.{big_endian, cell_field, connector_field, fields_from, encode, config_width, big_value, trigger_in, cell_in, connector_in, record_of}
use Rattle.saved.specs.Record.{normal_cell, same_bytes, load_number_as, loaded_as, load_number, loaded}

-- ---- a record

-- a field: tag, length high and low; of a cell then number, type, configuration in four bytes, X,
-- Y, Z, F; of a connector address, type, source
unfoldable pub whole : List ℕ
whole =
    -- trigger 3
    (1 ∷ 0 ∷ 1 ∷ 3 ∷ [])
    -- cell 1: constant, 258
    ++ (2 ∷ 0 ∷ 10 ∷ 1 ∷ 0 ∷ 0 ∷ 0 ∷ 1 ∷ 2 ∷ 0 ∷ 0 ∷ 0 ∷ 0 ∷ [])
    -- cell 2: D-flop of BNC1, clock 192, reset 0, preset by the inverse of BNC2
    ++ (2 ∷ 0 ∷ 10 ∷ 2 ∷ 1 ∷ 0 ∷ 0 ∷ 0 ∷ 0 ∷ 33 ∷ 192 ∷ 0 ∷ 98 ∷ [])
    -- cell 3: lookup of X and Y, code 6
    ++ (2 ∷ 0 ∷ 10 ∷ 3 ∷ 2 ∷ 0 ∷ 0 ∷ 0 ∷ 6 ∷ 41 ∷ 42 ∷ 0 ∷ 0 ∷ [])
    -- cell 4: lookup of X, Y and Z, code 168
    ++ (2 ∷ 0 ∷ 10 ∷ 4 ∷ 3 ∷ 0 ∷ 0 ∷ 0 ∷ 168 ∷ 44 ∷ 10 ∷ 1 ∷ 0 ∷ [])
    -- cell 5: lookup of all four, code 65520
    ++ (2 ∷ 0 ∷ 10 ∷ 5 ∷ 4 ∷ 0 ∷ 0 ∷ 255 ∷ 240 ∷ 1 ∷ 2 ∷ 3 ∷ 4 ∷ [])
    -- cell 6: AND2 of cell 5 and the inverse of BNC1
    ++ (2 ∷ 0 ∷ 10 ∷ 6 ∷ 5 ∷ 0 ∷ 0 ∷ 0 ∷ 0 ∷ 5 ∷ 97 ∷ 0 ∷ 0 ∷ [])
    -- cell 7: OR2 of the fall of cell 1 and BNC2
    ++ (2 ∷ 0 ∷ 10 ∷ 7 ∷ 6 ∷ 0 ∷ 0 ∷ 0 ∷ 0 ∷ 193 ∷ 34 ∷ 0 ∷ 0 ∷ [])
    -- cell 8: XOR2 of itself and TTL7
    ++ (2 ∷ 0 ∷ 10 ∷ 8 ∷ 7 ∷ 0 ∷ 0 ∷ 0 ∷ 0 ∷ 8 ∷ 48 ∷ 0 ∷ 0 ∷ [])
    -- cell 9: one-shot, duration 4294967295, trigger at the rise of BNC1, clock 192, reset 0
    ++ (2 ∷ 0 ∷ 10 ∷ 9 ∷ 8 ∷ 255 ∷ 255 ∷ 255 ∷ 255 ∷ 161 ∷ 192 ∷ 0 ∷ 0 ∷ [])
    -- cell 10: delay, duration 70000, trigger at the rise of TTL0, clock 192, reset by the inverse
    -- of TTL1
    ++ (2 ∷ 0 ∷ 10 ∷ 10 ∷ 9 ∷ 0 ∷ 1 ∷ 17 ∷ 112 ∷ 169 ∷ 192 ∷ 106 ∷ 0 ∷ [])
    -- cell 11: AND4
    ++ (2 ∷ 0 ∷ 10 ∷ 11 ∷ 10 ∷ 0 ∷ 0 ∷ 0 ∷ 0 ∷ 42 ∷ 8 ∷ 108 ∷ 64 ∷ [])
    -- cell 12: OR4
    ++ (2 ∷ 0 ∷ 10 ∷ 12 ∷ 11 ∷ 0 ∷ 0 ∷ 0 ∷ 0 ∷ 1 ∷ 2 ∷ 3 ∷ 12 ∷ [])
    -- cell 13: synchronous D-flop of cell 3, clock at the rise of cell 3
    ++ (2 ∷ 0 ∷ 10 ∷ 13 ∷ 12 ∷ 0 ∷ 0 ∷ 0 ∷ 0 ∷ 3 ∷ 131 ∷ 0 ∷ 0 ∷ [])
    -- cell 14: JK of cell 7 and its inverse, clock at the fall of cell 8
    ++ (2 ∷ 0 ∷ 10 ∷ 14 ∷ 13 ∷ 0 ∷ 0 ∷ 0 ∷ 0 ∷ 7 ∷ 71 ∷ 200 ∷ 0 ∷ [])
    -- cell 15: one-shot of type 16, duration 515, triggers at the rises of cells 2 and 3
    ++ (2 ∷ 0 ∷ 10 ∷ 15 ∷ 16 ∷ 0 ∷ 0 ∷ 2 ∷ 3 ∷ 130 ∷ 192 ∷ 0 ∷ 131 ∷ [])
    -- cell 16: D-flop of type 18 of itself, clock at its own fall, reset by its inverse, reset at
    -- clock by BNC4
    ++ (2 ∷ 0 ∷ 10 ∷ 16 ∷ 18 ∷ 0 ∷ 0 ∷ 0 ∷ 0 ∷ 16 ∷ 208 ∷ 80 ∷ 36 ∷ [])
    -- BNC1 to BNC8: push-pull from cell 1, open-drain from cell 2, input, push-pull from 192, from
    -- 0, from 64, from cell 16, open-drain from TTL7
    ++ (3 ∷ 0 ∷ 3 ∷ 33 ∷ 2 ∷ 1 ∷ [])
    ++ (3 ∷ 0 ∷ 3 ∷ 34 ∷ 1 ∷ 2 ∷ [])
    ++ (3 ∷ 0 ∷ 3 ∷ 35 ∷ 0 ∷ 0 ∷ [])
    ++ (3 ∷ 0 ∷ 3 ∷ 36 ∷ 2 ∷ 192 ∷ [])
    ++ (3 ∷ 0 ∷ 3 ∷ 37 ∷ 2 ∷ 0 ∷ [])
    ++ (3 ∷ 0 ∷ 3 ∷ 38 ∷ 2 ∷ 64 ∷ [])
    ++ (3 ∷ 0 ∷ 3 ∷ 39 ∷ 2 ∷ 16 ∷ [])
    ++ (3 ∷ 0 ∷ 3 ∷ 40 ∷ 1 ∷ 48 ∷ [])
    -- TTL0 to TTL7: inputs, but TTL3 push-pull from the rise of cell 4 and TTL7 open-drain from the
    -- inverse of cell 10; TTL1 has a source all the same
    ++ (3 ∷ 0 ∷ 3 ∷ 41 ∷ 0 ∷ 0 ∷ [])
    ++ (3 ∷ 0 ∷ 3 ∷ 42 ∷ 0 ∷ 5 ∷ [])
    ++ (3 ∷ 0 ∷ 3 ∷ 43 ∷ 0 ∷ 0 ∷ [])
    ++ (3 ∷ 0 ∷ 3 ∷ 44 ∷ 2 ∷ 132 ∷ [])
    ++ (3 ∷ 0 ∷ 3 ∷ 45 ∷ 0 ∷ 0 ∷ [])
    ++ (3 ∷ 0 ∷ 3 ∷ 46 ∷ 0 ∷ 0 ∷ [])
    ++ (3 ∷ 0 ∷ 3 ∷ 47 ∷ 0 ∷ 0 ∷ [])
    ++ (3 ∷ 0 ∷ 3 ∷ 48 ∷ 1 ∷ 74 ∷ [])

-- some of its bytes, from a place on
unfoldable pub part : (from count : ℕ) → List ℕ
part from count = take count (drop from whole)

-- it in the old form, each configuration by its two low bytes
unfoldable pub old_cell : ℕ → List ℕ
old_cell i = (2 ∷ 0 ∷ 8 ∷ []) ++ part (7 + 13 * i) 2 ++ part (11 + 13 * i) 6

unfoldable pub old : List ℕ
old = part 0 4 ++ fields_from (λ i (x : ℕ). old_cell i) 0 (replicate 16 0) ++ part 212 96

-- the field of a cell above 16 that is constant 0, and that of the old form
unfoldable pub constant_field : (width i : ℕ) → List ℕ
constant_field width i = (2 ∷ 0 ∷ (6 + width) ∷ (i + 17) ∷ 0 ∷ []) ++ replicate (width + 4) 0

-- the record of a large card with the settings of `whole`, and what the old form would make of it
unfoldable pub large : List ℕ
large = part 0 212 ++ fields_from (λ i (x : ℕ). constant_field 4 i) 0 (replicate 16 0) ++ part 212 96

unfoldable pub old_large : List ℕ
old_large = take 180 old ++ fields_from (λ i (x : ℕ). constant_field 2 i) 0 (replicate 16 0) ++ part 212 96

-- a record with other bytes at some places
unfoldable pub changed : List (ℕ × ℕ) → List ℕ → List ℕ
changed [] bytes = bytes
changed ((i, v) ∷ more) bytes = changed more (set bytes i v)

-- ---- what is read, and what a load gives

cell_read : ℕ → List ℕ
cell_read i = (cell_in config_width whole i).kind ∷ (cell_in config_width whole i).config ∷ (cell_in config_width whole i).slots

connector_read : ℕ → List ℕ
connector_read k = (connector_in cell_count config_width whole k).kind ∷ (connector_in cell_count config_width whole k).source ∷ []

load : List ℕ → List ℕ
load bytes = load_number cell_count bytes ∷ []

-- what a save writes then
saved : List ℕ → List ℕ
saved bytes = record_of cell_count config_width (loaded cell_count fresh bytes)

-- where the pointer of a card is after a load, if it was at BNC3 before
pointer_after : List ℕ → List ℕ
pointer_after bytes = (loaded cell_count (with_pointer fresh 35) bytes).pointer ∷ []

-- the tick total and the tally of cell 1 after a load, of a card that had counted 7 and 5
counted_card : Card
counted_card =
    record {
      pointer = 1;
      trigger = 0;
      cells = fresh.cells;
      connectors = fresh.connectors;
      edited = 0;
      memory = fresh.memory;
      size = cell_count;
      tallies = record { cells = ticks 5 ∷ []; total = ticks 7 };
    }

tallies_after : List ℕ → List ℕ
tallies_after bytes =
    let t = (loaded cell_count counted_card bytes).tallies in
    t.total.0 ∷ tally_of t 0 ∷ []

with : List (ℕ × ℕ) → List ℕ
with changes = load (changed changes whole)

-- what `36CCA Z?` reads of cell 1, the constant, after a load of this one
constant_read : ℕ → List ℕ
constant_read v =
    let bytes = changed ((9, v / 16777216) ∷ (10, v / 65536 % 256) ∷ (11, v / 256 % 256) ∷ (12, v % 256) ∷ []) whole in
    config_shown (normal_cell (cell_in config_width bytes 0)) ∷ []

-- rows of what is given and what is expected: the bytes of each row are the same. One test of all
-- rows is computed much faster than two lists of results are compared
abbrev pub Agree : List (List ℕ × List ℕ) → Type 0
Agree rows = every (λ (e : List ℕ × List ℕ). same_bytes e.0 e.1) rows ≡ true

-- given, expected
abbrev table : List (List ℕ × List ℕ)
table =
    -- it loads; saved again it is the same, but for its constant 258, which is loaded as 1, reads 1
    -- and is saved as 1
    (load whole, 0 ∷ [])
    ∷ (saved whole, changed ((11, 0) ∷ (12, 1) ∷ []) whole)
    ∷ (constant_read 258, 1 ∷ [])
    -- "A load is a power-up": the pointer is at 1 then; a refused load leaves it
    ∷ (pointer_after whole, 1 ∷ [])
    ∷ (pointer_after [], 35 ∷ [])
    -- it clears the tallies, and a refused one leaves them
    ∷ (tallies_after whole, 0 ∷ 0 ∷ [])
    ∷ (tallies_after [], 7 ∷ 5 ∷ [])
    -- so is every other above 1, not by its low bit and not by its low bytes; 1 and 0 stay
    ∷ (constant_read 4294967295, 1 ∷ [])
    ∷ (constant_read 65537, 1 ∷ [])
    ∷ (constant_read 65536, 1 ∷ [])
    ∷ (constant_read 64, 1 ∷ [])
    ∷ (constant_read 2, 1 ∷ [])
    ∷ (constant_read 1, 1 ∷ [])
    ∷ (constant_read 0, 0 ∷ [])
    ∷ (with ((11, 0) ∷ (12, 2) ∷ []), 0 ∷ [])
    -- "a card handed in with constant 64 ... shows 64 where its configuration is ... saved"
    ∷ (
      cell_field config_width 0 (cell_of 0 64 (0 ∷ 0 ∷ 0 ∷ 0 ∷ []) clear_state),
      2 ∷ 0 ∷ 10 ∷ 1 ∷ 0 ∷ 0 ∷ 0 ∷ 0 ∷ 64 ∷ 0 ∷ 0 ∷ 0 ∷ 0 ∷ [],
    )
    -- a lookup's code is loaded as it is
    ∷ (config_shown (normal_cell (cell_in config_width whole 4)) ∷ [], 65520 ∷ [])
    -- the values in it
    ∷ (trigger_in whole ∷ [], 3 ∷ [])
    ∷ (cell_read 0, 0 ∷ 258 ∷ 0 ∷ 0 ∷ 0 ∷ 0 ∷ [])
    ∷ (cell_read 8, 8 ∷ 4294967295 ∷ 161 ∷ 192 ∷ 0 ∷ 0 ∷ [])
    ∷ (cell_read 9, 9 ∷ 70000 ∷ 169 ∷ 192 ∷ 106 ∷ 0 ∷ [])
    ∷ (cell_read 14, 16 ∷ 515 ∷ 130 ∷ 192 ∷ 0 ∷ 131 ∷ [])
    ∷ (cell_read 15, 18 ∷ 0 ∷ 16 ∷ 208 ∷ 80 ∷ 36 ∷ [])
    ∷ (connector_read 0, 2 ∷ 1 ∷ [])
    ∷ (connector_read 7, 1 ∷ 48 ∷ [])
    ∷ (connector_read 11, 2 ∷ 132 ∷ [])
    ∷ (connector_read 15, 1 ∷ 74 ∷ [])
    -- "The 276-byte record still loads", and is saved in the present form
    ∷ (length old ∷ load old, 276 ∷ 0 ∷ [])
    ∷ (
      saved old,
      changed ((11, 0) ∷ (12, 1) ∷ (113, 0) ∷ (114, 0) ∷ (126, 0) ∷ (127, 0) ∷ []) whole,
    )
    -- 14: a length of neither form
    ∷ (load (take 275 old), 14 ∷ [])
    ∷ (load (old ++ (0 ∷ [])), 14 ∷ [])
    ∷ (load (take 307 whole), 14 ∷ [])
    ∷ (load (whole ++ (0 ∷ [])), 14 ∷ [])
    ∷ (load [], 14 ∷ [])
    -- 14: the length of a field of the other form, of all cells and of one
    ∷ (load (take 276 whole), 14 ∷ [])
    ∷ (load (old ++ replicate 32 0), 14 ∷ [])
    ∷ (load (changed ((50, 10) ∷ []) old), 14 ∷ [])
    ∷ (with ((58, 8) ∷ []), 14 ∷ [])
    -- 14: tag and both bytes of the length, of the trigger, of cell 5 and of TTL7
    ∷ (with ((0, 2) ∷ []), 14 ∷ [])
    ∷ (with ((1, 1) ∷ []), 14 ∷ [])
    ∷ (with ((2, 2) ∷ []), 14 ∷ [])
    ∷ (with ((56, 3) ∷ []), 14 ∷ [])
    ∷ (with ((57, 1) ∷ []), 14 ∷ [])
    ∷ (with ((58, 9) ∷ []), 14 ∷ [])
    ∷ (with ((302, 2) ∷ []), 14 ∷ [])
    ∷ (with ((303, 1) ∷ []), 14 ∷ [])
    ∷ (with ((304, 4) ∷ []), 14 ∷ [])
    -- 14: the number of cell 5, the address of TTL7
    ∷ (with ((59, 6) ∷ []), 14 ∷ [])
    ∷ (with ((305, 47) ∷ []), 14 ∷ [])
    -- 14: cells 1 and 2 exchanged, BNC1 and BNC2 exchanged, the connectors before the cells
    ∷ (load (part 0 4 ++ part 17 13 ++ part 4 13 ++ part 30 278), 14 ∷ [])
    ∷ (load (part 0 212 ++ part 218 6 ++ part 212 6 ++ part 224 84), 14 ∷ [])
    ∷ (load (part 0 4 ++ part 212 96 ++ part 4 208), 14 ∷ [])
    -- 15: "cell type over 18, connector type over 2, clock over 4", where cell types now go to 22
    ∷ (with ((8, 23) ∷ (11, 0) ∷ (12, 0) ∷ []), 15 ∷ [])
    ∷ (with ((216, 3) ∷ []), 15 ∷ [])
    ∷ (with ((3, 5) ∷ []), 15 ∷ [])
    -- 15: a configuration over its range, 16 in type 2, 256 in type 3 and 65536 in type 4, and one
    -- of types that have none
    ∷ (with ((38, 16) ∷ []), 15 ∷ [])
    ∷ (with ((50, 1) ∷ (51, 0) ∷ []), 15 ∷ [])
    ∷ (with ((62, 1) ∷ (63, 0) ∷ (64, 0) ∷ []), 15 ∷ [])
    ∷ (with ((77, 1) ∷ []), 15 ∷ [])
    ∷ (with ((24, 1) ∷ []), 15 ∷ [])
    -- "A record holds 0 as a counter's configuration"
    ∷ (with ((8, 19) ∷ (11, 0) ∷ (12, 0) ∷ (14, 128) ∷ []), 0 ∷ [])
    ∷ (with ((8, 19) ∷ (11, 0) ∷ (12, 1) ∷ (14, 128) ∷ []), 15 ∷ [])
    -- 15: "unused slot ... not 0", Z of AND2 and X of a constant
    ∷ (with ((80, 1) ∷ []), 15 ∷ [])
    ∷ (with ((13, 64) ∷ []), 15 ∷ [])
    -- 15: "edge slot under 128", the clock of a D-flop and of JK, the triggers of types 8 and 16;
    -- 128 itself is allowed
    ∷ (with ((27, 5) ∷ []), 15 ∷ [])
    ∷ (with ((27, 65) ∷ []), 15 ∷ [])
    ∷ (with ((27, 128) ∷ []), 0 ∷ [])
    ∷ (with ((184, 127) ∷ []), 15 ∷ [])
    ∷ (with ((117, 97) ∷ []), 15 ∷ [])
    ∷ (with ((198, 3) ∷ []), 15 ∷ [])
    -- the same of the counters: the clock of type 19, the stop of type 21
    ∷ (with ((8, 19) ∷ (11, 0) ∷ (12, 0) ∷ (14, 127) ∷ []), 15 ∷ [])
    ∷ (with ((8, 21) ∷ (11, 0) ∷ (12, 0) ∷ (13, 128) ∷ (14, 128) ∷ (16, 42) ∷ []), 15 ∷ [])
    ∷ (with ((8, 21) ∷ (11, 0) ∷ (12, 0) ∷ (13, 128) ∷ (14, 128) ∷ (16, 170) ∷ []), 0 ∷ [])
    -- 15: a reserved source, of an output and of an input; a reserved address in a slot, as a level
    -- and as an edge
    ∷ (with ((217, 17) ∷ []), 15 ∷ [])
    ∷ (with ((229, 49) ∷ []), 15 ∷ [])
    ∷ (with ((78, 20) ∷ []), 15 ∷ [])
    ∷ (with ((27, 255) ∷ []), 15 ∷ [])
    -- 15: "BNC1 an output with trigger 4", push-pull and open-drain; an input is allowed
    ∷ (with ((3, 4) ∷ []), 15 ∷ [])
    ∷ (with ((3, 4) ∷ (216, 1) ∷ []), 15 ∷ [])
    ∷ (with ((3, 4) ∷ (216, 0) ∷ []), 0 ∷ [])
    -- 14 anywhere comes before 15 anywhere
    ∷ (with ((3, 5) ∷ (302, 2) ∷ []), 14 ∷ [])
    ∷ (load (changed ((8, 19) ∷ []) whole ++ (0 ∷ [])), 14 ∷ [])
    ∷ []

examples : Agree table
unfolding whole part old_cell old changed saved pointer_after counted_card tallies_after cell_read connector_read load with constant_read config_shown listed row_of
    fresh permitted_base bad_clock front_driven bad_cell_type bad_connector_type bad_address valid_slot valid_slots valid_cell valid_connector every valid big_endian
    cell_field connector_field fields_from encode big_value cell_in normal_cell connector_in bit_at word_of kind_at source_at each from_each record_of same_bytes load_number_as
    loaded_as load_number loaded
examples = refl

-- ---- document 02, "Thirty-two cells": "A record has 32 cell fields and 516 bytes, the only length
-- that a 32-cell card loads or saves"

-- cell 17: OR2 of cell 16 and the inverse of cell 32; cell 32: one-shot, duration 3, trigger at the
-- rise of cell 17, clock 192
wired : List ℕ
wired = changed ((216, 6) ∷ (221, 16) ∷ (222, 96) ∷ (411, 8) ∷ (415, 3) ∷ (416, 145) ∷ (417, 192) ∷ []) large

load_large : List ℕ → List ℕ
load_large bytes = load_number cell_room bytes ∷ []

with_large : List (ℕ × ℕ) → List ℕ
with_large changes = load_large (changed changes wired)

-- the bytes of it, and that it loads and is saved as the same bytes but for its constant 258
abbrev large_table : List (List ℕ × List ℕ)
large_table =
    (length wired ∷ [], 516 ∷ [])
    ∷ (take 17 wired, 1 ∷ 0 ∷ 1 ∷ 3 ∷ 2 ∷ 0 ∷ 10 ∷ 1 ∷ 0 ∷ 0 ∷ 0 ∷ 1 ∷ 2 ∷ 0 ∷ 0 ∷ 0 ∷ 0 ∷ [])
    ∷ (take 13 (drop 212 wired), 2 ∷ 0 ∷ 10 ∷ 17 ∷ 6 ∷ 0 ∷ 0 ∷ 0 ∷ 0 ∷ 16 ∷ 96 ∷ 0 ∷ 0 ∷ [])
    ∷ (take 19 (drop 407 wired), 2 ∷ 0 ∷ 10 ∷ 32 ∷ 8 ∷ 0 ∷ 0 ∷ 0 ∷ 3 ∷ 145 ∷ 192 ∷ 0 ∷ 0 ∷ 3 ∷ 0 ∷ 3 ∷ 33 ∷ 2 ∷ 1 ∷ [])
    ∷ (load_large wired, 0 ∷ [])
    ∷ (record_of cell_room config_width (loaded cell_room (fresh_of cell_room) wired), changed ((11, 0) ∷ (12, 1) ∷ []) wired)
    ∷ []

-- 14: every other length, also 308, 276 and 452 bytes; and on sixteen cells the 516 bytes
abbrev large_lengths : List (List ℕ × List ℕ)
large_lengths =
    (load_large (take 515 wired), 14 ∷ [])
    ∷ (load_large (wired ++ (0 ∷ [])), 14 ∷ [])
    ∷ (load_large whole, 14 ∷ [])
    ∷ (load_large old, 14 ∷ [])
    ∷ (length old_large ∷ load_large old_large, 452 ∷ 14 ∷ [])
    ∷ (load wired, 14 ∷ [])
    ∷ []

-- 14 anywhere, and before 15 anywhere
abbrev large_heads : List (List ℕ × List ℕ)
large_heads =
    -- the length and the number of the field of cell 17, the address of TTL7
    (with_large ((214, 8) ∷ []), 14 ∷ [])
    ∷ (with_large ((215, 18) ∷ []), 14 ∷ [])
    ∷ (with_large ((513, 47) ∷ []), 14 ∷ [])
    ∷ (with_large ((3, 5) ∷ (510, 2) ∷ []), 14 ∷ [])
    ∷ []

-- 15
abbrev large_values : List (List ℕ × List ℕ)
large_values =
    -- type 23 in cell 32, slot Z of OR2, a reserved address in a slot, BNC1 an output with trigger
    -- 4
    (with_large ((411, 23) ∷ []), 15 ∷ [])
    ∷ (with_large ((223, 1) ∷ []), 15 ∷ [])
    ∷ (with_large ((221, 49) ∷ []), 15 ∷ [])
    ∷ (with_large ((3, 4) ∷ []), 15 ∷ [])
    -- "addresses 17 to 32 (with inverse and edges)" are none of these, as a source and in a slot
    ∷ (with_large ((425, 17) ∷ (479, 224) ∷ (78, 32) ∷ []), 0 ∷ [])
    ∷ []

large-examples : Agree large_table × Agree large_lengths × Agree large_heads × Agree large_values
unfolding whole part old_cell old constant_field large old_large wired changed load load_large with_large listed row_of permitted_base bad_clock front_driven bad_cell_type
    bad_connector_type bad_address valid_slot valid_slots valid_cell valid_connector every valid big_endian cell_field connector_field fields_from encode big_value cell_in
    normal_cell connector_in bit_at word_of kind_at source_at each from_each record_of same_bytes load_number_as loaded_as load_number loaded
large-examples = (refl, refl, refl, refl)
