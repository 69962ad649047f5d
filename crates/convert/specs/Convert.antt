-- Document 02, "Records for cards already at sea" and "Thirty-two cells": a record in another form,
-- for cards that read only the old one and back. Stated over the number n of cells of a small card.
use Rattle.std.specs.Prelude.{ℕ, ◌+◌, ◌-◌, Bool, not, ◌&&◌, ◌||◌, cond, List, eqb, ltb, leb, length, take, drop}
use Rattle.std.proofs.lemmas.List.Edits.{sets}
use Rattle.cells.specs.declared.cell.Cell.{Cell}
use Rattle.cells.specs.Table.{constant_type}
use Rattle.card.specs.declared.card.Connector.{Connector}
use Rattle.card.specs.Address.{cell_room, first_cell, among, base_of}
use Rattle.text.specs.Digits.{every}
use Rattle.saved.specs.Record.{config_width, narrow_width, record_length, encode, trigger_in, load_cells, connectors_in, width_of, load_number}

-- ---- the record that is given

-- "The converter of ticket 8 takes the longer record": the length of a large card's, and the number
-- of cells of the card that the record is of
abbrev pub large_length : ℕ
large_length = record_length cell_room config_width

abbrev pub cells_of : ℕ → List ℕ → ℕ
cells_of n bytes = cond (eqb (length bytes) large_length) cell_room n

-- the settings that a load of it gives to such a card
abbrev pub cells_held : ℕ → List ℕ → List Cell
cells_held n bytes = let m = cells_of n bytes in load_cells m (width_of m bytes) bytes

abbrev pub connectors_held : ℕ → List ℕ → List Connector
connectors_held n bytes = let m = cells_of n bytes in connectors_in m (width_of m bytes) bytes

-- ---- the tests

-- "A converter turns a 308-byte record into the 276-byte one of the same settings, and back. The
-- given record's length picks the way": the form of the result, which is always a small card's; of
-- the longer record "its way back still gives 308 bytes"
abbrev pub other_width : ℕ → List ℕ → ℕ
other_width n bytes = cond (eqb (length bytes) (record_length n narrow_width)) config_width narrow_width

-- "a length of neither kind gives 14 first", now of none of the three
abbrev pub other_length : ℕ → List ℕ → Bool
other_length n bytes =
    not (eqb (length bytes) (record_length n narrow_width))
    && (not (eqb (length bytes) (record_length n config_width)) && not (eqb (length bytes) large_length))

-- "Then a buffer short for the result gives 1"
abbrev pub short_for : (n room : ℕ) → List ℕ → Bool
short_for n room bytes = ltb room (record_length n (other_width n bytes))

-- "Then a record that fails the loader's rules is refused as the loader would": that of a card with
-- the record's number of cells
abbrev pub loader_number : ℕ → List ℕ → ℕ
loader_number n bytes = load_number (cells_of n bytes) bytes

-- "17, a duration over 65535, checked after 15": in the 276-byte record it has no room. Other
-- configurations than durations are never so large
abbrev pub largest_narrow : ℕ
largest_narrow = 65535

unfoldable pub narrow_cell : Cell → Bool
narrow_cell cell = leb cell.config largest_narrow

unfoldable pub too_long : ℕ → List ℕ → Bool
too_long n bytes = eqb (other_width n bytes) narrow_width && not (every narrow_cell (cells_held n bytes))

-- 18, "sets a cell above 16 to anything but constant 0": a cell that is just that. A constant above
-- 0 is none, also above 1
unfoldable pub is_blank : Cell → Bool
is_blank cell = eqb cell.kind constant_type && eqb cell.config 0

-- "or reads one": an address, level, inverse or edge, whose base is a cell's above n, of m
unfoldable pub reads_above : (n m : ℕ) → ℕ → Bool
reads_above n m a = among (first_cell + n) (m - n) (base_of a)

-- no slot of a cell does, where those that are not used hold 0; nor the source of a connector, of
-- an input too, since the small card would refuse it
unfoldable pub slots_below : (n m : ℕ) → Cell → Bool
slots_below n m cell = every (λ (a : ℕ). not (reads_above n m a)) cell.slots

unfoldable pub source_below : (n m : ℕ) → Connector → Bool
source_below n m connector = not (reads_above n m connector.source)

-- 18: "a record converted to 276 bytes that sets a cell above 16 to anything but constant 0 or
-- reads one, checked after 17". A cell above 16 that reads one is set itself; a record of a small
-- card has no such cells
unfoldable pub above_small : ℕ → List ℕ → Bool
above_small n bytes =
    let m = cells_of n bytes in
    not (every is_blank (drop n (cells_held n bytes)))
    || not (every (slots_below n m) (take n (cells_held n bytes)) && every (source_below n m) (connectors_held n bytes))

-- the number, 0 where there is none: the tests in this order
unfoldable pub convert_number : (n room : ℕ) → List ℕ → ℕ
convert_number n room bytes =
    cond (other_length n bytes) 14
    (cond (short_for n room bytes) 1
    (cond (eqb (loader_number n bytes) 0) (cond (too_long n bytes) 17 (cond (above_small n bytes) 18 0)) (loader_number n bytes)))

-- ---- the result

-- the settings that the record holds, of as many cells as a small card has, in the form of the
-- result; "A constant above 1 comes out as 1"
unfoldable pub other_form : ℕ → List ℕ → List ℕ
other_form n bytes = encode (other_width n bytes) (trigger_in bytes) (take n (cells_held n bytes)) (connectors_held n bytes)

-- "It returns k and the result's length, 0 when refused"
unfoldable pub convert_length : (n room : ℕ) → List ℕ → ℕ
convert_length n room bytes = cond (eqb (convert_number n room bytes) 0) (record_length n (other_width n bytes)) 0

-- the buffer afterwards: the result at its front and beyond it as it was; "a refusal writes
-- nothing"
unfoldable pub converted_to : ℕ → (bytes buffer : List ℕ) → List ℕ
converted_to n bytes buffer = cond (eqb (convert_number n (length buffer) bytes) 0) (sets buffer 0 (other_form n bytes)) buffer
