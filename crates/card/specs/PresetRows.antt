-- How the rows of the constant tables of presets are read, and that they say what document 01 says.
use Rattle.std.specs.Prelude.{◌≡◌, ℕ, ◌+◌, ◌*◌, ◌/◌, ◌%◌, ◌^◌, Bool, cond, List, [], ◌∷◌, ◌==◌, slice_index}
use Rattle.std.proofs.Math.Option.{Option, none, some}
use Rattle.words.specs.Bits.{bit_at}
use Rattle.words.specs.Listed.{listed}
use Rattle.cells.specs.declared.cell.Cell.{Cell}
use Rattle.card.specs.Address.{cell_count, cell_room, connector_count, first_cell, among}
use Rattle.card.specs.Presets.{whole, large_preset, preset_cell, preset_source}

-- the rows of the two tables: no preset has a number past the first, and none past the second sets
-- a cell
abbrev pub source_rows : ℕ
source_rows = 60

abbrev pub cell_rows : ℕ
cell_rows = 37

-- byte number i of a row, from the low end
unfoldable pub row_byte : (w i : ℕ) → ℕ
row_byte w i = w / 2 ^ (8 * i) % 256

-- an address, as it is or by the place further
abbrev pub offset_address : (step : Bool) (place a : ℕ) → ℕ
offset_address step place a = cond step ((a + place) % 2 ^ 8) a

-- the source of the connector at index k: the connectors are byte 4, those with the first address
-- byte 3, the addresses bytes 2 and 1
unfoldable pub source_under : (w k : ℕ) → Option ℕ
source_under w k = cond (bit_at w (32 + k)) (some (offset_address (bit_at w 0) k (cond (bit_at w (24 + k)) (row_byte w 2) (row_byte w 1)))) none

-- the cell of a row at a place: a step moves the slots X and Y
unfoldable pub wired_cell : (step : Bool) (place w : ℕ) → Cell
wired_cell step place w =
    whole (row_byte w 5) (row_byte w 4) (offset_address step place (row_byte w 3) ∷ offset_address step place (row_byte w 2) ∷ row_byte w 1 ∷ row_byte w 0 ∷ [])

-- the row sets the cell at index i
unfoldable pub covers : (w i : ℕ) → Bool
covers w i = among (row_byte w 7) (row_byte w 6) (first_cell + i)

-- the cell at index i under the two rows of a preset
unfoldable pub cell_under : (a b i : ℕ) → Option Cell
cell_under a b i = cond (covers a i) (some (wired_cell (bit_at b 48) i (cond (row_byte a 7 == first_cell + i) a b))) none

-- every row of a table says what document 01 says of its preset
unfoldable pub SourceRows : List ℕ → Type 0
SourceRows rows =
    listed (λ v. listed (source_under (slice_index rows v)) connector_count) source_rows ≡ listed (λ v. listed (preset_source cell_count v) connector_count) source_rows

-- and the row of preset 51, which only a large card has
unfoldable pub LargeRow : ℕ → Type 0
LargeRow row = listed (source_under row) connector_count ≡ listed (preset_source cell_room large_preset) connector_count

unfoldable pub CellRows : List ℕ → Type 0
CellRows rows =
    listed (λ v. listed (cell_under (slice_index rows (2 * v)) (slice_index rows (2 * v + 1))) cell_room) cell_rows
    ≡ listed (λ v. listed (preset_cell v) cell_room) cell_rows
