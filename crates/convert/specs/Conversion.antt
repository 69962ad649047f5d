-- What a conversion promises, of every record that converts. Of a small card's: the result has the
-- same settings, and there and back gives the same bytes. Of a large card's: the small card takes
-- the result, and holds all that the large one held.
use Rattle.std.specs.Prelude.{ℕ, ◌-◌, ◌≤◌, ◌≡◌, true, false, not, ◌||◌, List, ◌++◌, length, take, drop, replicate}
use Rattle.cells.specs.declared.cell.Cell.{Cell}
use Rattle.cells.specs.declared.table.Kept.TheVariants.{Count}
use Rattle.cells.specs.Table.{row_of}
use Rattle.card.specs.declared.card.Card.{Card}
use Rattle.card.specs.Address.{cell_room}
use Rattle.card.specs.Fresh.{fresh_cell}
use Rattle.text.specs.Digits.{every}
use Rattle.card.specs.Valid.{valid_cell, valid_card}
use Rattle.saved.specs.Record.{narrow_width, record_length, width_of, powered_up, load_number, loaded, normal_record, SmallConstants}
use Rattle.convert.specs.Convert.{large_length, cells_of, other_width, other_length, short_for, narrow_cell, is_blank, above_small, convert_number}
use Rattle.convert.specs.Convert.{other_form, convert_length, converted_to}

-- of a small card's record that a buffer of this room takes
pub record Converts (n room : ℕ) (bytes : List ℕ) : Type 0 where
  -- the result has the length of the other form, and fits
  pub sized : length (other_form n bytes) ≡ record_length n (other_width n bytes)
  pub fits : length (other_form n bytes) ≤ room
  -- it loads, and a load of it gives the same card
  pub loads : load_number n (other_form n bytes) ≡ 0
  pub same : (d : Card) → loaded n d (other_form n bytes) ≡ loaded n d bytes
  -- it converts back where the record's own length has room; "there and back gives the same bytes
  -- but for" constants above 1
  pub back : (again : ℕ) → length bytes ≤ again → convert_number n again (other_form n bytes) ≡ 0
  pub there_and_back : other_form n (other_form n bytes) ≡ normal_record n (width_of n bytes) (width_of n bytes) bytes
  pub same_bytes : SmallConstants n (width_of n bytes) bytes → other_form n (other_form n bytes) ≡ bytes

-- of a large card's record: "takes the longer record where the small card can hold it"
pub record Shrinks (n room : ℕ) (bytes : List ℕ) : Type 0 where
  -- the result is a small card's in the old form, and fits
  pub sized : length (other_form n bytes) ≡ record_length n narrow_width
  pub fits : length (other_form n bytes) ≤ room
  -- the small card c loads it, and powers up with the trigger, the first n cells and the connectors
  -- that a large card d has after a load of the record
  pub loads : load_number n (other_form n bytes) ≡ 0
  pub same : (c d : Card) → let large = loaded cell_room d bytes in
      loaded n c (other_form n bytes) ≡ powered_up n c.size large.trigger (take n large.cells ++ drop n c.cells) large.connectors
  -- the other cells of the large one are as those of a fresh card: nothing is lost
  pub rest : (d : Card) → drop n (take cell_room (loaded cell_room d bytes).cells) ≡ replicate (cell_room - n) fresh_cell

-- and of the buffer, whatever it is given: the result at its front where there is one, and nothing
-- beyond the result's length is touched
pub record Kept (n : ℕ) (bytes buffer : List ℕ) : Type 0 where
  pub result : convert_number n (length buffer) bytes ≡ 0 → take (convert_length n (length buffer) bytes) (converted_to n bytes buffer) ≡ other_form n bytes
  pub beyond : drop (convert_length n (length buffer) bytes) (converted_to n bytes buffer) ≡ drop (convert_length n (length buffer) bytes) buffer
  pub long : length (converted_to n bytes buffer) ≡ length buffer

-- on a card that has cells
pub record Conversion (n : ℕ) : Type 0 where
  pub converts : (room : ℕ) (bytes : List ℕ) → (length bytes ≡ large_length → ⊥) → convert_number n room bytes ≡ 0 → Converts n room bytes
  pub shrinks : (room : ℕ) (bytes : List ℕ) → length bytes ≡ large_length → convert_number n room bytes ≡ 0 → Shrinks n room bytes
  pub kept : (bytes buffer : List ℕ) → Kept n bytes buffer
  -- 17 is only of "a duration": no other type has so large a configuration
  pub only_durations : (cell : Cell) → valid_cell n cell ≡ true → narrow_cell cell ≡ false → (row_of cell.kind).kept ≡ Count
  -- 18 is only "where the small card" can not "hold it": another cell than its own is set, or by
  -- its own rules the settings are none that lines can set
  pub only_above : (bytes : List ℕ) → length bytes ≡ large_length → load_number cell_room bytes ≡ 0 → (d : Card) → let large = loaded cell_room d bytes in
      above_small n bytes ≡ (not (every is_blank (drop n (take cell_room large.cells))) || not (valid_card n large))
  -- every other record that loads converts: of a known length, with room for the result, there is
  -- no number but 17 and 18
  pub others : (room : ℕ) (bytes : List ℕ) → other_length n bytes ≡ false → short_for n room bytes ≡ false → load_number (cells_of n bytes) bytes ≡ 0
      → (convert_number n room bytes ≡ 17 → ⊥) → (convert_number n room bytes ≡ 18 → ⊥) → convert_number n room bytes ≡ 0
