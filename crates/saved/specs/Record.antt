-- Document 01, "Saved record", and document 02, "Constants are 0 or 1" and "Long exposures": the
-- settings as bytes, and a load. Stated over the number n of cells and the width of a
-- configuration, which is the form of a record.
use Rattle.std.specs.Prelude.{ℕ, zero, suc, ◌+◌, ◌-◌, ◌*◌, ◌/◌, ◌%◌, ◌^◌, ◌<◌, ◌≤◌, ◌≡◌, refl, Bool, true, false, ◌&&◌, cond, List, [], ◌∷◌, ◌++◌, eqb, ltb, leb, length, get_or, take, drop}
use Rattle.std.proofs.lemmas.List.Edits.{sets}
use Rattle.words.specs.Listed.{listed}
use Rattle.cells.specs.declared.cell.Cell.{Cell}
use Rattle.cells.specs.State.{state_of, cell_of}
use Rattle.cells.specs.Table.{constant_type, largest_constant}
use Rattle.card.specs.declared.card.Card.{Card}
use Rattle.card.specs.declared.card.Connector.{Connector}
use Rattle.card.specs.declared.card.Connectors.{Connectors}
use Rattle.card.specs.Address.{cell_count, first_cell, first_connector, connector_count}
use Rattle.card.specs.Connectors.{each, from_each}
use Rattle.card.specs.Fresh.{clear_state, started}
use Rattle.card.specs.Valid.{valid}

-- ---- the bytes

-- "Fields of tag (1 byte), length (2 bytes, high first)"
abbrev pub field : ℕ → List ℕ → List ℕ
field tag bytes = tag ∷ length bytes / 256 ∷ length bytes % 256 ∷ bytes

-- a number in `width` bytes, "high first"
unfoldable pub big_endian : (width v : ℕ) → List ℕ
big_endian zero v = []
big_endian (suc w) v = v / 256 ^ w % 256 ∷ big_endian w v

-- "tag 1 trigger (1)"
abbrev pub trigger_field : ℕ → List ℕ
trigger_field trigger = field 1 (trigger ∷ [])

-- "tag 2 cell number, type, configuration (2, high first), slots (8 in all), sixteen in order"; now
-- "a four-byte configuration"
unfoldable pub cell_field : (width i : ℕ) → Cell → List ℕ
cell_field width i cell = field 2 ((i + first_cell) ∷ cell.kind ∷ big_endian width cell.config ++ cell.slots)

-- "tag 3 connector address, type, source (3), sixteen in order"
unfoldable pub connector_field : ℕ → Connector → List ℕ
connector_field k connector = field 3 ((k + first_connector) ∷ connector.kind ∷ connector.source ∷ [])

-- the fields of a list, counted from i
unfoldable pub fields_from : {A : Type 0} → (ℕ → A → List ℕ) → ℕ → List A → List ℕ
fields_from f i [] = []
fields_from f i (x ∷ xs) = f i x ++ fields_from f (suc i) xs

unfoldable pub encode : (width trigger : ℕ) → List Cell → List Connector → List ℕ
encode width trigger cells connectors = trigger_field trigger ++ fields_from (cell_field width) 0 cells ++ fields_from connector_field 0 connectors

-- "Cell fields get a four-byte configuration", the present form; that of the old form has two
abbrev pub config_width : ℕ
config_width = 4

abbrev pub narrow_width : ℕ
narrow_width = 2

-- the lengths of the fields, and of the record of n cells: of sixteen "so a record is 308 bytes",
-- and in the old form "276 bytes"

abbrev pub trigger_length : ℕ
trigger_length = 4

abbrev pub cell_length : ℕ → ℕ
cell_length width = 9 + width

abbrev pub connector_length : ℕ
connector_length = 6

abbrev pub record_length : (n width : ℕ) → ℕ
record_length n width = trigger_length + n * cell_length width + connector_count * connector_length

-- ---- the settings that are in some bytes, read at their places

unfoldable pub big_value : ℕ → List ℕ → ℕ
big_value acc [] = acc
big_value acc (b ∷ bs) = big_value (acc * 256 + b) bs

abbrev pub trigger_in : List ℕ → ℕ
trigger_in bytes = get_or bytes 3 0

-- a load is a power-up, so a loaded cell has no state
unfoldable pub cell_in : (width : ℕ) (bytes : List ℕ) (i : ℕ) → Cell
cell_in width bytes i =
    let at = trigger_length + i * cell_length width in
    let slots =
    get_or bytes (at + (5 + width)) 0
    ∷ get_or bytes (at + (6 + width)) 0
    ∷ get_or bytes (at + (7 + width)) 0
    ∷ get_or bytes (at + (8 + width)) 0
    ∷ [] in
    cell_of (get_or bytes (at + 4) 0) (big_value 0 (take width (drop (at + 5) bytes))) slots clear_state

unfoldable pub connector_in : (n width : ℕ) (bytes : List ℕ) (k : ℕ) → Connector
connector_in n width bytes k =
    let at = trigger_length + n * cell_length width + k * connector_length in
    record { kind = get_or bytes (at + 4) 0; source = get_or bytes (at + 5) 0 }

abbrev pub cells_in : (n width : ℕ) (bytes : List ℕ) → List Cell
cells_in n width bytes = listed (cell_in width bytes) n

-- document 02, "Constants are 0 or 1": "A stored record with a larger number still loads, as 1": a
-- cell in its normal form
abbrev pub normal_config : (kind config : ℕ) → ℕ
normal_config kind config = cond (eqb kind constant_type && ltb largest_constant config) largest_constant config

unfoldable pub normal_cell : Cell → Cell
normal_cell cell = cell_of cell.kind (normal_config cell.kind cell.config) cell.slots (state_of cell)

-- the cells that a load gives
abbrev pub load_cells : (n width : ℕ) (bytes : List ℕ) → List Cell
load_cells n width bytes = listed (λ i. normal_cell (cell_in width bytes i)) n

abbrev pub connectors_in : (n width : ℕ) (bytes : List ℕ) → List Connector
connectors_in n width bytes = listed (connector_in n width bytes) connector_count

-- ---- save and load

-- the record of a card of n cells
unfoldable pub record_of : (n width : ℕ) → Card → List ℕ
record_of n width c = encode width c.trigger (take n c.cells) (each c.connectors)

unfoldable pub same_bytes : List ℕ → List ℕ → Bool
same_bytes [] [] = true
same_bytes [] (b ∷ bs) = false
same_bytes (a ∷ s) [] = false
same_bytes (a ∷ s) (b ∷ bs) = eqb a b && same_bytes s bs

-- by one form. 14: "record not 276 bytes; a field's length, tag, or a cell number or connector
-- address out of order": the settings read out of the bytes, written again, are not these bytes;
-- byte by byte in specs/Headers. 15: "record value no line could set" and what else `valid` says,
-- of the settings in normal form: a constant's own number is no cause for it
unfoldable pub load_number_as : (n width : ℕ) (bytes : List ℕ) → ℕ
load_number_as n width bytes =
    cond (same_bytes (encode width (trigger_in bytes) (cells_in n width bytes) (connectors_in n width bytes)) bytes)
    (cond (valid n (trigger_in bytes) (load_cells n width bytes) (connectors_in n width bytes)) 0 15) 14

-- "A load is a power-up: fresh, with these settings"; "by HOME and by a load, all are" edited
abbrev pub powered_up : (n size trigger : ℕ) → List Cell → Connectors → Card
powered_up n size trigger cells connectors = started size trigger cells connectors (2 ^ n - 1)

-- the card after a load: what follows its n cells stays, and a refused load changes nothing
unfoldable pub loaded_as : (n width : ℕ) → Card → (bytes : List ℕ) → Card
loaded_as n width c bytes =
    cond (eqb (load_number_as n width bytes) 0)
    (powered_up n c.size (trigger_in bytes) (load_cells n width bytes ++ drop n c.cells) (from_each (connectors_in n width bytes))) c

-- "The 276-byte record still loads": the form that the length of a record shows. Other lengths than
-- the two are 14 in either form
abbrev pub width_of : ℕ → List ℕ → ℕ
width_of n bytes = cond (leb n cell_count && eqb (length bytes) (record_length n narrow_width)) narrow_width config_width

-- of sixteen cells as before
width-before : (bytes : List ℕ) → width_of cell_count bytes ≡ cond (eqb (length bytes) (record_length cell_count narrow_width)) narrow_width config_width
width-before bytes = refl

-- a load, its form shown by the length
unfoldable pub load_number : ℕ → List ℕ → ℕ
load_number n bytes = load_number_as n (width_of n bytes) bytes

unfoldable pub loaded : ℕ → Card → List ℕ → Card
loaded n c bytes = loaded_as n (width_of n bytes) c bytes

-- the settings that the bytes hold in the one form, constants above 1 made 1, written in the other:
-- what a save after an accepted load writes, "saved as 1 afterwards"
unfoldable pub normal_record : (n from to : ℕ) → List ℕ → List ℕ
normal_record n from to bytes = encode to (trigger_in bytes) (load_cells n from bytes) (connectors_in n from bytes)

-- no constant of the record is above 1
abbrev pub SmallConstants : (n width : ℕ) (bytes : List ℕ) → Type 0
SmallConstants n width bytes = (i : ℕ) → i < n → (cell_in width bytes i).kind ≡ constant_type → (cell_in width bytes i).config ≤ largest_constant

-- the store after a save: the record at its front and beyond it as it was; a store too short is
-- untouched
unfoldable pub saved_to : (n width : ℕ) → Card → (store : List ℕ) → List ℕ
saved_to n width c store = cond (ltb (length store) (record_length n width)) store (sets store 0 (record_of n width c))
