-- Document 02, "Records for cards already at sea" and "Thirty-two cells", as tables by computation:
-- the records of saved/specs/RecordExamples, and what is given for them each way, where bytes of
-- them are others, and where the buffer is short.
use Rattle.std.specs.Prelude.{ℕ, ◌≡◌, refl, true, List, [], ◌∷◌, ◌++◌, take, replicate}
use Rattle.words.specs.Listed.{listed}
use Rattle.cells.specs.Table.{row_of}
use Rattle.card.specs.Address.{cell_count}
use Rattle.card.specs.Valid.{permitted_base, bad_clock, front_driven, bad_cell_type, bad_connector_type, bad_address, valid_slot, valid_slots, valid_cell}
use Rattle.text.specs.Digits.{every}
use Rattle.card.specs.Valid.{valid_connector, valid}
use Rattle.saved.specs.Record.{big_endian, cell_field, connector_field, fields_from, encode, big_value, cell_in, connector_in, normal_cell, same_bytes, load_number_as}
use Rattle.saved.specs.Record.{load_number, normal_record}
use Rattle.saved.specs.RecordExamples.{whole, part, old_cell, old, changed, constant_field, large, old_large}
use Rattle.convert.specs.Convert.{narrow_cell, too_long, is_blank, reads_above, slots_below, source_below, above_small}
use Rattle.convert.specs.Convert.{convert_number, other_form, convert_length, converted_to}

-- `whole` has durations 4294967295 and 70000 and the constant 258. With durations that two bytes
-- hold it has the settings of `old`, 276 bytes
fitting : List ℕ
fitting = changed ((113, 0) ∷ (114, 0) ∷ (126, 0) ∷ (127, 0) ∷ []) whole

-- both with the constant 1
fitting_one : List ℕ
fitting_one = changed ((11, 0) ∷ (12, 1) ∷ []) fitting

old_one : List ℕ
old_one = changed ((9, 0) ∷ (10, 1) ∷ []) old

-- the settings of `fitting` in the record of a large card, where the cells above 16 are constant 0
fitting_large : List ℕ
fitting_large = changed ((113, 0) ∷ (114, 0) ∷ (126, 0) ∷ (127, 0) ∷ []) large

-- k and the length of the result, for a buffer of this length
number : ℕ → List ℕ → List ℕ
number room bytes = convert_number cell_count room bytes ∷ []

result : ℕ → List ℕ → List ℕ
result room bytes = convert_length cell_count room bytes ∷ []

-- given, expected
abbrev table : List (List ℕ × List ℕ)
table =
    -- 308 bytes to 276 and back; the constant 258 comes out as 1, and one above 65535 too
    (number 276 fitting, 0 ∷ [])
    ∷ (result 276 fitting, 276 ∷ [])
    ∷ (other_form cell_count fitting, old_one)
    ∷ (number 308 old, 0 ∷ [])
    ∷ (result 308 old, 308 ∷ [])
    ∷ (other_form cell_count old, fitting_one)
    ∷ (other_form cell_count (changed ((9, 255) ∷ []) fitting), old_one)
    -- there and back
    ∷ (other_form cell_count fitting_one, old_one)
    ∷ (other_form cell_count old_one, fitting_one)
    -- "nothing beyond the result"; "a refusal writes nothing"
    ∷ (converted_to cell_count fitting (replicate 279 7), old_one ++ (7 ∷ 7 ∷ 7 ∷ []))
    ∷ (converted_to cell_count old (replicate 310 7), fitting_one ++ (7 ∷ 7 ∷ []))
    ∷ (converted_to cell_count whole (replicate 277 7), replicate 277 7)
    ∷ (converted_to cell_count fitting (replicate 275 7), replicate 275 7)
    ∷ []

-- the numbers
abbrev numbers : List (List ℕ × List ℕ)
numbers =
    -- 14, whatever the buffer: "a length of neither kind"
    (number 0 [], 14 ∷ [])
    ∷ (number 0 (take 275 old), 14 ∷ [])
    ∷ (number 400 (old ++ (0 ∷ [])), 14 ∷ [])
    ∷ (number 400 (take 307 whole), 14 ∷ [])
    ∷ (number 0 (whole ++ (0 ∷ [])), 14 ∷ [])
    -- 1: "a buffer short for the result", before the record is looked at
    ∷ (number 275 fitting, 1 ∷ [])
    ∷ (number 307 old, 1 ∷ [])
    ∷ (number 276 old, 1 ∷ [])
    ∷ (number 275 (replicate 308 0), 1 ∷ [])
    ∷ (number 307 (changed ((3, 5) ∷ []) old), 1 ∷ [])
    ∷ (number 275 whole, 1 ∷ [])
    -- 14 and 15 as the loader: a tag, the length of a field of the other form, the clock 5, type
    -- 23, a reserved source
    ∷ (number 276 (changed ((0, 2) ∷ []) fitting), 14 ∷ [])
    ∷ (number 308 (changed ((50, 10) ∷ []) old), 14 ∷ [])
    ∷ (number 276 (changed ((58, 8) ∷ []) fitting), 14 ∷ [])
    ∷ (number 308 (changed ((3, 5) ∷ []) old), 15 ∷ [])
    ∷ (number 276 (changed ((3, 5) ∷ []) fitting), 15 ∷ [])
    ∷ (number 276 (changed ((8, 23) ∷ (11, 0) ∷ (12, 0) ∷ []) fitting), 15 ∷ [])
    ∷ (number 308 (changed ((185, 17) ∷ []) old), 15 ∷ [])
    ∷ (number 276 (changed ((3, 5) ∷ (302, 2) ∷ []) fitting), 14 ∷ [])
    -- 17: "a duration over 65535, checked after 15", in cells 9 and 10 and in one of them, by 1
    ∷ (number 276 whole, 17 ∷ [])
    ∷ (result 276 whole, 0 ∷ [])
    ∷ (number 276 (changed ((127, 1) ∷ (128, 0) ∷ (129, 0) ∷ []) fitting), 17 ∷ [])
    ∷ (number 276 (changed ((3, 5) ∷ []) whole), 15 ∷ [])
    ∷ (number 276 (changed ((0, 2) ∷ []) whole), 14 ∷ [])
    -- a lookup code over 65535 is 15 as in a load, and no constant gives 17
    ∷ (number 276 (changed ((62, 1) ∷ []) fitting), 15 ∷ [])
    ∷ (number 276 (changed ((9, 255) ∷ []) fitting), 0 ∷ [])
    ∷ []

abbrev Agree : List (List ℕ × List ℕ) → Type 0
Agree rows = every (λ (e : List ℕ × List ℕ). same_bytes e.0 e.1) rows ≡ true

examples : Agree table
unfolding fitting fitting_one old_one number result whole part old_cell old changed listed row_of permitted_base bad_clock front_driven bad_cell_type bad_connector_type
    bad_address valid_slot valid_slots valid_cell valid_connector every valid big_endian cell_field connector_field fields_from encode big_value cell_in normal_cell
    connector_in same_bytes load_number_as load_number normal_record narrow_cell too_long is_blank reads_above slots_below source_below above_small convert_number other_form
    convert_length converted_to
examples = refl

number-examples : Agree numbers
unfolding fitting fitting_one old_one number result whole part old_cell old changed listed row_of permitted_base bad_clock front_driven bad_cell_type bad_connector_type
    bad_address valid_slot valid_slots valid_cell valid_connector every valid big_endian cell_field connector_field fields_from encode big_value cell_in normal_cell
    connector_in same_bytes load_number_as load_number normal_record narrow_cell too_long is_blank reads_above slots_below source_below above_small convert_number other_form
    convert_length converted_to
number-examples = refl

-- ---- "The converter of ticket 8 takes the longer record where the small card can hold it"

-- a record of 516 bytes with other bytes at some places
above : List (ℕ × ℕ) → List ℕ
above changes = number 276 (changed changes fitting_large)

-- 516 bytes to 276, the constant 258 as 1; "its way back still gives 308 bytes"
abbrev large_forms : List (List ℕ × List ℕ)
large_forms =
    (number 276 fitting_large, 0 ∷ [])
    ∷ (other_form cell_count fitting_large, old_one)
    ∷ (converted_to cell_count fitting_large (replicate 279 7), old_one ++ (7 ∷ 7 ∷ 7 ∷ []))
    ∷ (other_form cell_count (other_form cell_count fitting_large), fitting_one)
    -- 14, whatever the buffer: another length, also that of the old form of 32 cells
    ∷ (number 0 (take 515 large), 14 ∷ [])
    ∷ (number 600 (large ++ (0 ∷ [])), 14 ∷ [])
    ∷ (number 600 old_large, 14 ∷ [])
    -- 1, before the record is looked at
    ∷ (number 275 fitting_large, 1 ∷ [])
    ∷ (number 0 (replicate 516 0), 1 ∷ [])
    ∷ (number 275 large, 1 ∷ [])
    ∷ []

-- 14 and 15 as the loader of a large card: the number of cell 17, the clock 5; slot Z of AND2,
-- which is not used, with the address of a cell above 16
abbrev large_loads : List (List ℕ × List ℕ)
large_loads =
    (above ((215, 18) ∷ []), 14 ∷ [])
    ∷ (above ((3, 5) ∷ []), 15 ∷ [])
    ∷ (above ((80, 20) ∷ []), 15 ∷ [])
    ∷ []

-- 17, "a duration over 65535", in cells 9 and 10, and in cell 32 by 1; before 18, which applies to
-- cell 32 too, and to cell 17 as AND2
abbrev large_long : List (List ℕ × List ℕ)
large_long =
    (number 276 large, 17 ∷ [])
    ∷ (above ((411, 8) ∷ (413, 1) ∷ (416, 161) ∷ (417, 192) ∷ []), 17 ∷ [])
    ∷ (number 276 (changed ((216, 5) ∷ []) large), 17 ∷ [])
    ∷ []

-- 18: "sets a cell above 16 to anything but constant 0": AND2, a one-shot that has room, constant 1
-- and constants that are loaded as 1
abbrev large_set : List (List ℕ × List ℕ)
large_set =
    (above ((216, 5) ∷ []), 18 ∷ [])
    ∷ (above ((411, 8) ∷ (414, 1) ∷ (416, 161) ∷ (417, 192) ∷ []), 18 ∷ [])
    ∷ (above ((415, 1) ∷ []), 18 ∷ [])
    ∷ (above ((412, 255) ∷ []), 18 ∷ [])
    ∷ []

-- 18, "or reads one": the level of cell 20 and the inverse of cell 32 in AND2, the rise of cell 17
-- at a clock
abbrev large_reads : List (List ℕ × List ℕ)
large_reads =
    (above ((78, 20) ∷ []), 18 ∷ [])
    ∷ (above ((78, 96) ∷ []), 18 ∷ [])
    ∷ (above ((27, 145) ∷ []), 18 ∷ [])
    -- the bases on either side, cell 16 and BNC1, in AND2 and as a source
    ∷ (above ((78, 16) ∷ (81, 0) ∷ (479, 97) ∷ []), 0 ∷ [])
    ∷ []

-- 18 too: the source of BNC1, an output, and of TTL1, an input, there as the fall of cell 32
abbrev large_sources : List (List ℕ × List ℕ)
large_sources =
    (above ((425, 17) ∷ []), 18 ∷ [])
    ∷ (above ((479, 224) ∷ []), 18 ∷ [])
    ∷ (converted_to cell_count (changed ((479, 24) ∷ []) fitting_large) (replicate 277 7), replicate 277 7)
    ∷ []

large-examples : Agree large_forms
unfolding fitting fitting_one fitting_large old_one above number result whole part old_cell old changed constant_field large old_large listed row_of permitted_base
    bad_clock front_driven bad_cell_type bad_connector_type bad_address valid_slot valid_slots valid_cell valid_connector every valid big_endian cell_field connector_field
    fields_from encode big_value cell_in normal_cell connector_in same_bytes load_number_as load_number normal_record narrow_cell too_long is_blank reads_above slots_below
    source_below above_small convert_number other_form convert_length converted_to
large-examples = refl

load-examples : Agree large_loads
unfolding fitting fitting_one fitting_large old_one above number result whole part old_cell old changed constant_field large old_large listed row_of permitted_base
    bad_clock front_driven bad_cell_type bad_connector_type bad_address valid_slot valid_slots valid_cell valid_connector every valid big_endian cell_field connector_field
    fields_from encode big_value cell_in normal_cell connector_in same_bytes load_number_as load_number normal_record narrow_cell too_long is_blank reads_above slots_below
    source_below above_small convert_number other_form convert_length converted_to
load-examples = refl

long-examples : Agree large_long
unfolding fitting fitting_one fitting_large old_one above number result whole part old_cell old changed constant_field large old_large listed row_of permitted_base
    bad_clock front_driven bad_cell_type bad_connector_type bad_address valid_slot valid_slots valid_cell valid_connector every valid big_endian cell_field connector_field
    fields_from encode big_value cell_in normal_cell connector_in same_bytes load_number_as load_number normal_record narrow_cell too_long is_blank reads_above slots_below
    source_below above_small convert_number other_form convert_length converted_to
long-examples = refl

set-examples : Agree large_set
unfolding fitting fitting_one fitting_large old_one above number result whole part old_cell old changed constant_field large old_large listed row_of permitted_base
    bad_clock front_driven bad_cell_type bad_connector_type bad_address valid_slot valid_slots valid_cell valid_connector every valid big_endian cell_field connector_field
    fields_from encode big_value cell_in normal_cell connector_in same_bytes load_number_as load_number normal_record narrow_cell too_long is_blank reads_above slots_below
    source_below above_small convert_number other_form convert_length converted_to
set-examples = refl

read-examples : Agree large_reads
unfolding fitting fitting_one fitting_large old_one above number result whole part old_cell old changed constant_field large old_large listed row_of permitted_base
    bad_clock front_driven bad_cell_type bad_connector_type bad_address valid_slot valid_slots valid_cell valid_connector every valid big_endian cell_field connector_field
    fields_from encode big_value cell_in normal_cell connector_in same_bytes load_number_as load_number normal_record narrow_cell too_long is_blank reads_above slots_below
    source_below above_small convert_number other_form convert_length converted_to
read-examples = refl

source-examples : Agree large_sources
unfolding fitting fitting_one fitting_large old_one above number result whole part old_cell old changed constant_field large old_large listed row_of permitted_base
    bad_clock front_driven bad_cell_type bad_connector_type bad_address valid_slot valid_slots valid_cell valid_connector every valid big_endian cell_field connector_field
    fields_from encode big_value cell_in normal_cell connector_in same_bytes load_number_as load_number normal_record narrow_cell too_long is_blank reads_above slots_below
    source_below above_small convert_number other_form convert_length converted_to
source-examples = refl
