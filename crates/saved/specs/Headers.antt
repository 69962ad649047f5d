-- Document 01, row 14 of "When the card says no", byte by byte: what a record has besides its
-- values. Nothing is written and compared here; the law is that a load gives 14 exactly where this
-- fails (proofs/Headers.antt).
use Rattle.std.specs.Prelude.{ℕ, ◌+◌, ◌*◌, ◌/◌, ◌%◌, ◌<◌, Bool, ◌&&◌, ◌||◌, List, eqb, leb, length, get_or}
use Rattle.words.specs.Listed.{listed}
use Rattle.text.specs.Digits.{every}
use Rattle.card.specs.Address.{cell_count, first_cell, first_connector, connector_count}
use Rattle.saved.specs.Record.{config_width, narrow_width, trigger_length, cell_length, connector_length, record_length}

-- each entry is a byte
abbrev pub Bytes : List ℕ → Type 0
Bytes l = (i : ℕ) → get_or l i 0 < 256

-- the test passes at every index below n
abbrev pub every_below : (ℕ → Bool) → ℕ → Bool
every_below f n = every f (listed (λ i. i) n)

-- "Fields of tag (1 byte), length (2 bytes, high first)": one starts at this place
unfoldable pub starts_at : List ℕ → (at tag size : ℕ) → Bool
starts_at bytes at tag size =
    eqb tag (get_or bytes at 0) && (eqb (size / 256) (get_or bytes (at + 1) 0) && eqb (size % 256) (get_or bytes (at + 2) 0))

-- and the number of its cell, or the address of its connector, comes next
unfoldable pub numbered_at : List ℕ → (at tag size number : ℕ) → Bool
numbered_at bytes at tag size number = starts_at bytes at tag size && eqb number (get_or bytes (at + 3) 0)

-- "tag 1 trigger (1)"
unfoldable pub trigger_headed : List ℕ → Bool
trigger_headed bytes = starts_at bytes 0 1 1

-- "tag 2 cell number, type, configuration (2, high first), slots (8 in all), sixteen in order":
-- besides the configuration there are six bytes
unfoldable pub cell_headed : (width : ℕ) (bytes : List ℕ) (i : ℕ) → Bool
cell_headed width bytes i = numbered_at bytes (trigger_length + i * cell_length width) 2 (6 + width) (i + first_cell)

-- "tag 3 connector address, type, source (3), sixteen in order"
unfoldable pub connector_headed : (n width : ℕ) (bytes : List ℕ) (k : ℕ) → Bool
connector_headed n width bytes k =
    numbered_at bytes (trigger_length + n * cell_length width + k * connector_length) 3 3 (k + first_connector)

-- what 14 asks for, by one form: "record not 276 bytes; a field's length, tag, or a cell number or
-- connector address out of order"
unfoldable pub headed : (n width : ℕ) (bytes : List ℕ) → Bool
headed n width bytes =
    eqb (length bytes) (record_length n width)
    && (trigger_headed bytes && (every_below (cell_headed width bytes) n && every_below (connector_headed n width bytes) connector_count))

-- by either form, of which the older is only that of a card of sixteen cells: "The 276-byte record
-- still loads"
unfoldable pub headed_either : ℕ → List ℕ → Bool
headed_either n bytes = (leb n cell_count && headed n narrow_width bytes) || headed n config_width bytes
