-- The theorems of the record in one form, over the number n of cells and the width of a configuration: its length, that a load undoes a save and a
-- save a load, and that a record holds one card's settings.
use Prim.Native.Nat.{ℕ, suc, ◌+◌, ◌*◌, ◌^◌, ◌≤◌, ◌<◌}
use mathlib.Core.Path.{◌≡◌, refl, sym, ap, ◌∙◌}
use mathlib.Core.Bool.{Bool, true, false, ◌&&◌, cond}
use mathlib.Core.List.{List, [], ◌∷◌, ◌++◌, map, append_assoc}
use native.Mathlib.Nat.{zero-add, suc-mul, le_refl, le_of_lt, lt_of_le_of_lt, mul-le-mul_right}
use native.Mathlib.Omega.{arith}
use lib.Dec.{eqb, ltb}
use lib.ListN.{length, get_or, take, drop, length-append, length-map, get_or-append, get_or-map}
use lib.Seq.{take_at, take_all, drop_at, drop-drop, drop-append-le, get_or-drop, get_or-append-add, ext_get_or}
use borrow.Author.Tests.{le-ltb, ltb-true, eqb-true}
use Rattle.words.proofs.Listed.{length-listed, listed_at, listed_same}
use Rattle.cells.specs.declared.cell.Cell.{Cell}
use Rattle.cells.specs.State.{state_of, cell_of}
use Rattle.cells.specs.Table.{largest_config, constant_type, largest_constant}
use Rattle.cells.proofs.Laws.{constant-largest}
use Rattle.words.proofs.Bools.{and_right, and_both}
use Rattle.card.specs.declared.card.Card.{Card}
use Rattle.card.specs.declared.card.Connector.{Connector}
use Rattle.card.specs.Address.{cell_room, connector_count}
use Rattle.card.specs.Connectors.{each, no_connector, from_each, well_formed}
use Rattle.card.specs.Fresh.{clear_state, no_cell}
use Rattle.card.specs.Valid.{valid_cell, valid_connector, valid, valid_card}
use Rattle.card.specs.Edits.{cleared_cell}
use Rattle.text.proofs.DigitLaws.{every-at}
use Rattle.card.proofs.Settings.{Sound, split, cell-slots, cell-config, config-most, valid-cleared, valid-first}
use Rattle.card.proofs.ConnectorLaws.{Known, each_from, from-formed, from_each_lem}
use Rattle.card.proofs.Slots.{four}
use Rattle.card.proofs.ValidLaws.{formed, kind-good, settings-valid}
use Rattle.saved.specs.Record.{big_endian, big_value, trigger_field, cell_field, connector_field, fields_from, encode, config_width, trigger_length, cell_length}
use Rattle.saved.specs.Record.{connector_length, record_length, trigger_in, cell_in, connector_in, cells_in, connectors_in, record_of, same_bytes, load_number_as}
use Rattle.saved.specs.Record.{normal_config, normal_cell, load_cells, normal_record, SmallConstants, powered_up, loaded_as}
use Rattle.saved.proofs.Fields.{fields-length, field_at, fields_map, length-big, big-read, big-under, same_refl, same-sound, same_not}

-- ---- the fields of a record

-- each cell of a list has four slots
abbrev pub FourSlots : List Cell → Type 0
FourSlots cells = (i : ℕ) → i < length cells → length (get_or cells i no_cell).slots ≡ 4

-- the lengths of the two kinds of field
pub cell-length : (width k : ℕ) (cell : Cell) → length cell.slots ≡ 4 → length (cell_field width k cell) ≡ cell_length width
unfolding cell_field
cell-length width k cell n =
    omega (arith, length-append (big_endian width cell.config) cell.slots, length-big width cell.config)

pub connector-length : (k : ℕ) (c : Connector) → length (connector_field k c) ≡ connector_length
unfolding connector_field
connector-length k c = refl

-- a cell's field lies before those of the connectors
pub cell-inside : (n width i : ℕ) → i < n → trigger_length + i * cell_length width + cell_length width ≤ trigger_length + n * cell_length width
cell-inside n width i h = omega (arith, mul-le-mul_right (cell_length width) h, suc-mul i (cell_length width))

-- the fields of the cells of any card are no more than 416 bytes
pub cells-small : (n width : ℕ) → n ≤ cell_room → width ≤ config_width → n * cell_length width ≤ 416
cells-small n width h k =
    let l : cell_length width ≤ 13 = omega arith in
    omega (arith, mul-le-mul_right (cell_length width) h)

-- the fields of all cells, and of all connectors
abbrev front : ℕ → List Cell → List ℕ
front width cells = fields_from (cell_field width) 0 cells

abbrev back : List Connector → List ℕ
back connectors = fields_from connector_field 0 connectors

connector-lengths : (connectors : List Connector) (k i : ℕ) → i < length connectors
    → length (connector_field k (get_or connectors i no_connector)) ≡ connector_length
connector-lengths connectors k i h = connector-length k (get_or connectors i no_connector)

back-length : (connectors : List Connector) → length (back connectors) ≡ length connectors * connector_length
back-length connectors = fields-length connector_field connector_length no_connector 0 connectors (connector-lengths connectors)

module _ (width trigger : ℕ) (cells : List Cell) (connectors : List Connector) (slots : FourSlots cells) where
  cell-lengths : (k i : ℕ) → i < length cells → length (cell_field width k (get_or cells i no_cell)) ≡ cell_length width
  cell-lengths k i h = cell-length width k (get_or cells i no_cell) (slots i h)

  front_length : length (front width cells) ≡ length cells * cell_length width
  front_length = fields-length (cell_field width) (cell_length width) no_cell 0 cells cell-lengths

  pub encode-length : length (encode width trigger cells connectors)
      ≡ trigger_length + length cells * cell_length width + length connectors * connector_length
  unfolding encode
  encode-length = omega (arith, length-append (front width cells) (back connectors), front_length, back-length connectors)

  -- what is at the place of a cell, and at that of a connector
  cell-place : (i : ℕ) → i < length cells
      → drop (trigger_length + i * cell_length width) (encode width trigger cells connectors)
      ≡ cell_field width i (get_or cells i no_cell) ++ (fields_from (cell_field width) (suc i) (drop (suc i) cells) ++ back connectors)
  unfolding encode
  cell-place i h =
      let w = cell_length width in
      let inside : i * w ≤ length (front width cells) = omega (arith, mul-le-mul_right w (le_of_lt h), front_length) in
      let rest = fields_from (cell_field width) (suc i) (drop (suc i) cells) in
      sym (drop-drop (i * w) trigger_length (encode width trigger cells connectors))
      ∙ drop-append-le (i * w) (front width cells) (back connectors) inside
      ∙ ap (λ (l : List ℕ). l ++ back connectors)
      (field_at (cell_field width) w no_cell 0 cells i cell-lengths h
      ∙ ap (λ (k : ℕ). cell_field width k (get_or cells i no_cell) ++ fields_from (cell_field width) (suc k) (drop (suc i) cells)) (zero-add i))
      ∙ append_assoc (cell_field width i (get_or cells i no_cell)) rest (back connectors)

  connector-place : (k : ℕ) → k < length connectors
      → drop (trigger_length + length cells * cell_length width + k * connector_length) (encode width trigger cells connectors)
      ≡ connector_field k (get_or connectors k no_connector) ++ fields_from connector_field (suc k) (drop (suc k) connectors)
  unfolding encode
  connector-place k h =
      let head = trigger_field trigger ++ front width cells in
      let long : length head ≡ trigger_length + length cells * cell_length width = omega (arith, front_length) in
      sym (drop-drop (k * connector_length) (trigger_length + length cells * cell_length width) (encode width trigger cells connectors))
      ∙ ap (drop (k * connector_length)) (drop_at head (back connectors) (trigger_length + length cells * cell_length width) long)
      ∙ field_at connector_field connector_length no_connector 0 connectors k (connector-lengths connectors) h
      ∙ ap (λ (j : ℕ). connector_field j (get_or connectors k no_connector) ++ fields_from connector_field (suc j) (drop (suc k) connectors)) (zero-add k)

-- ---- reading them back

module _ (width i : ℕ) (cell : Cell) (bytes rest : List ℕ) (at : ℕ) (there : drop at bytes ≡ cell_field width i cell ++ rest) where
  tail-there : drop (at + 5) bytes ≡ big_endian width cell.config ++ (cell.slots ++ rest)
  unfolding cell_field
  tail-there =
      sym (drop-drop 5 at bytes) ∙ ap (drop 5) there ∙ append_assoc (big_endian width cell.config) cell.slots rest

  slot-there : (j k : ℕ) → k ≡ 5 + j + width → j < length cell.slots → get_or bytes (at + k) 0 ≡ get_or cell.slots j 0
  slot-there j k e h =
      let place : at + k ≡ at + 5 + (length (big_endian width cell.config) + j) = omega (arith, length-big width cell.config) in
      ap (λ (x : ℕ). get_or bytes x 0) place
      ∙ sym (get_or-drop (at + 5) bytes (length (big_endian width cell.config) + j) 0)
      ∙ ap (λ (l : List ℕ). get_or l (length (big_endian width cell.config) + j) 0) tail-there
      ∙ get_or-append-add (big_endian width cell.config) (cell.slots ++ rest) j 0
      ∙ get_or-append cell.slots rest 0 j h

  kind-there : get_or bytes (at + 4) 0 ≡ cell.kind
  unfolding cell_field
  kind-there = sym (get_or-drop at bytes 4 0) ∙ ap (λ (l : List ℕ). get_or l 4 0) there

  bytes-there : big_value 0 (take width (drop (at + 5) bytes)) ≡ big_value 0 (big_endian width cell.config)
  bytes-there =
      ap (λ (l : List ℕ). big_value 0 (take width l)) tail-there
      ∙ ap (big_value 0) (take_at (big_endian width cell.config) (cell.slots ++ rest) width (length-big width cell.config))

  config-there : cell.config < 256 ^ width → big_value 0 (take width (drop (at + 5) bytes)) ≡ cell.config
  config-there h = bytes-there ∙ big-read width cell.config h

  config-under : big_value 0 (take width (drop (at + 5) bytes)) < 256 ^ width
  config-under = rw bytes-there (big-under width cell.config)

  slots-there : length cell.slots ≡ 4
      → get_or bytes (at + (5 + width)) 0 ∷ get_or bytes (at + (6 + width)) 0 ∷ get_or bytes (at + (7 + width)) 0 ∷ get_or bytes (at + (8 + width)) 0 ∷ []
      ≡ cell.slots
  slots-there n =
      (λ k. slot-there 0 (5 + width) (omega arith) (omega arith) k
      ∷ slot-there 1 (6 + width) (omega arith) (omega arith) k
      ∷ slot-there 2 (7 + width) (omega arith) (omega arith) k
      ∷ slot-there 3 (8 + width) (omega arith) (omega arith) k
      ∷ [])
      ∙ four cell.slots n

  cell-there : length cell.slots ≡ 4 → cell.config < 256 ^ width → at ≡ trigger_length + i * cell_length width → cell_in width bytes i ≡ cleared_cell cell
  unfolding cell_in
  cell-there n h e =
      rw (sym e) (λ k. cell_of (kind-there k) (config-there h k) (slots-there n k) clear_state)

connector-there : (n width k : ℕ) (c : Connector) (bytes rest : List ℕ)
    → drop (trigger_length + n * cell_length width + k * connector_length) bytes ≡ connector_field k c ++ rest → connector_in n width bytes k ≡ c
unfolding connector_field connector_in
connector-there n width k c bytes rest there =
    let at = trigger_length + n * cell_length width + k * connector_length in
    let kind = sym (get_or-drop at bytes 4 0) ∙ ap (λ (l : List ℕ). get_or l 4 0) there in
    let source = sym (get_or-drop at bytes 5 0) ∙ ap (λ (l : List ℕ). get_or l 5 0) there in
    λ j. record { kind = kind j; source = source j }

-- each configuration of a list of cells fits in a width
abbrev pub Fit : ℕ → List Cell → Type 0
Fit width cells = (i : ℕ) → i < length cells → (get_or cells i no_cell).config < 256 ^ width

-- the cells and the connectors that are in the bytes of a record
module _ (width : ℕ) (trigger : ℕ) (cells : List Cell) (connectors : List Connector) (slots : FourSlots cells)
    (fit : Fit width cells) where
  pub cells-read : cells_in (length cells) width (encode width trigger cells connectors) ≡ map cleared_cell cells
  cells-read =
      let bytes = encode width trigger cells connectors in
      let n : length (cells_in (length cells) width bytes) ≡ length cells = length-listed (cell_in width bytes) (length cells) in
      ext_get_or no_cell (cells_in (length cells) width bytes) (map cleared_cell cells) (n ∙ sym (length-map cells cleared_cell))
      (λ i h. let g : i < length cells = omega arith in
      listed_at (cell_in width bytes) (length cells) i no_cell g
      ∙ cell-there width i (get_or cells i no_cell) bytes _ (trigger_length + i * cell_length width)
      (cell-place width trigger cells connectors slots i g) (slots i g) (fit i g) refl
      ∙ sym (get_or-map cleared_cell cells i no_cell))

  pub connectors-read : length connectors ≡ connector_count → connectors_in (length cells) width (encode width trigger cells connectors) ≡ connectors
  connectors-read e =
      let bytes = encode width trigger cells connectors in
      let n : length (connectors_in (length cells) width bytes) ≡ connector_count = length-listed (connector_in (length cells) width bytes) connector_count in
      ext_get_or no_connector (connectors_in (length cells) width bytes) connectors (n ∙ sym e)
      (λ k h. let g : k < connector_count = omega arith in
      listed_at (connector_in (length cells) width bytes) connector_count k no_connector g
      ∙ connector-there (length cells) width k (get_or connectors k no_connector) bytes _ (connector-place width trigger cells connectors slots k (omega arith)))

-- ---- what valid settings have

module _ (n trigger : ℕ) (cells : List Cell) (connectors : List Connector) (ok : valid n trigger cells connectors ≡ true) where
  parts : Sound n trigger cells connectors
  parts = split n trigger cells connectors ok

  pub cell-count : length (take n cells) ≡ n
  cell-count = parts.cell-count

  pub connector-count : length connectors ≡ connector_count
  connector-count = parts.connector-count

  first-valid : (i : ℕ) → i < length (take n cells) → valid_cell n (get_or (take n cells) i no_cell) ≡ true
  first-valid i h = every-at (valid_cell n) (take n cells) i no_cell parts.cells-pass h

  pub four_slots : FourSlots (take n cells)
  four_slots i h = cell-slots n (get_or (take n cells) i no_cell) (first-valid i h)

  -- a width that takes the largest configuration takes them all
  pub all_fit : (width : ℕ) → largest_config < 256 ^ width → Fit width (take n cells)
  all_fit width wide i h = lt_of_le_of_lt (cell-config n (get_or (take n cells) i no_cell) (first-valid i h)) wide

-- a record says nothing of states
encode-cleared : (width trigger : ℕ) (cells : List Cell) (connectors : List Connector)
    → encode width trigger (map cleared_cell cells) connectors ≡ encode width trigger cells connectors
unfolding encode cell_field
encode-cleared width trigger cells connectors =
    ap (λ (l : List ℕ). trigger_field trigger ++ l ++ back connectors) (fields_map (cell_field width) cleared_cell (λ k x. refl) 0 cells)

-- ---- loads

-- the cells that a load gives, with others after them
cells-taken : (n width : ℕ) (bytes : List ℕ) (rest : List Cell) → take n (load_cells n width bytes ++ rest) ≡ load_cells n width bytes
cells-taken n width bytes rest = take_at (load_cells n width bytes) rest n (length-listed (λ i. normal_cell (cell_in width bytes i)) n)

pub cells-all : (n width : ℕ) (bytes : List ℕ) → take n (load_cells n width bytes) ≡ load_cells n width bytes
cells-all n width bytes = take_all n (load_cells n width bytes) (omega (arith, length-listed (λ i. normal_cell (cell_in width bytes i)) n))

-- settings whose constants are 0 or 1 are in normal form
normal-small : (cell : Cell) → (cell.kind ≡ constant_type → cell.config ≤ largest_constant) → normal_cell cell ≡ cell
unfolding normal_cell
normal-small cell small = ap with-config (go (eqb cell.kind constant_type) refl)
  where
    with-config : ℕ → Cell
    with-config v = cell_of cell.kind v cell.slots (state_of cell)

    go : (b : Bool) → eqb cell.kind constant_type ≡ b → normal_config cell.kind cell.config ≡ cell.config
    go true e = rw (e, le-ltb largest_constant cell.config (small (eqb-true cell.kind constant_type e)))
    go false e = rw e

-- a normal form is no larger
chosen-most : (b : Bool) (x y : ℕ) → (b ≡ true → x ≤ y) → cond b x y ≤ y
chosen-most true x y h = h refl
chosen-most false x y h = le_refl y

normal-most : (kind config : ℕ) → normal_config kind config ≤ config
normal-most kind config =
    chosen-most (eqb kind constant_type && ltb largest_constant config) _ config
    (λ e. omega (arith, ltb-true largest_constant config (and_right (eqb kind constant_type) (ltb largest_constant config) e)))

pub small-normal : (n width : ℕ) (bytes : List ℕ) → SmallConstants n width bytes → load_cells n width bytes ≡ cells_in n width bytes
small-normal n width bytes small =
    listed_same (λ i. normal_cell (cell_in width bytes i)) (cell_in width bytes) n (λ i h. normal-small (cell_in width bytes i) (small i h))

-- a load by the settings that are in its bytes
pub valid-from : (n width : ℕ) (bytes : List ℕ) (cells rest : List Cell) → cells ≡ load_cells n width bytes ++ rest
    → valid n (trigger_in bytes) cells (connectors_in n width bytes) ≡ valid n (trigger_in bytes) (load_cells n width bytes) (connectors_in n width bytes)
valid-from n width bytes cells rest e =
    valid-first n (trigger_in bytes) cells (load_cells n width bytes) (connectors_in n width bytes)
    (ap (take n) e ∙ cells-taken n width bytes rest ∙ sym (cells-all n width bytes))

pub loaded-from : (n width : ℕ) (d : Card) (bytes : List ℕ) (cells : List Cell) → cells ≡ load_cells n width bytes ++ drop n d.cells
    → load_number_as n width bytes ≡ 0 → loaded_as n width d bytes ≡ powered_up n d.size (trigger_in bytes) cells (from_each (connectors_in n width bytes))
unfolding loaded_as
loaded-from n width d bytes cells ec e = rw (e, ec)

-- a refused load changes nothing
pub load-refused-as : (n width : ℕ) (d : Card) (bytes : List ℕ) → eqb (load_number_as n width bytes) 0 ≡ false → loaded_as n width d bytes ≡ d
unfolding loaded_as
load-refused-as n width d bytes e = rw e

pub refused-with : (n width : ℕ) (d : Card) (bytes : List ℕ) (k : ℕ) → load_number_as n width bytes ≡ k → eqb k 0 ≡ false
    → (d ≡ loaded_as n width d bytes) × (k ≡ load_number_as n width bytes)
refused-with n width d bytes k e other = (sym (load-refused-as n width d bytes (ap (λ (k : ℕ). eqb k 0) e ∙ other)), sym e)

-- the cells that are in some bytes have four slots
in-slots : (n width : ℕ) (bytes : List ℕ) → FourSlots (cells_in n width bytes)
unfolding cell_in
in-slots n width bytes i h =
    let count = length-listed (cell_in width bytes) n in
    ap (λ (c : Cell). length c.slots) (listed_at (cell_in width bytes) n i no_cell (omega (arith, count)))

-- bytes of another length are not those of the settings in them, and are refused with 14
pub other_length_lem : (n width : ℕ) (bytes : List ℕ) → (length bytes ≡ record_length n width → ⊥)
    → same_bytes (encode width (trigger_in bytes) (cells_in n width bytes) (connectors_in n width bytes)) bytes ≡ false
other_length_lem n width bytes ne =
    let cells = cells_in n width bytes in
    let connectors = connectors_in n width bytes in
    let count = length-listed (cell_in width bytes) n in
    let long = encode-length width (trigger_in bytes) cells connectors (in-slots n width bytes) in
    let sized : length (encode width (trigger_in bytes) cells connectors) ≡ record_length n width =
    rw (count, length-listed (connector_in n width bytes) connector_count) at long in
    same_not (encode width (trigger_in bytes) cells connectors) bytes (λ e. ne (sym (ap length e) ∙ sized))

pub wrong-length : (n width : ℕ) (bytes : List ℕ) → (length bytes ≡ record_length n width → ⊥) → load_number_as n width bytes ≡ 14
unfolding load_number_as
wrong-length n width bytes ne = rw (other_length_lem n width bytes ne)

-- both tests of an accepted load hold
accepted : (s v : Bool) → ◌≡◌ {A = ℕ} (cond s (cond v 0 15) 14) 0 → (s ≡ true) × (v ≡ true)
accepted true true e = (refl, refl)
accepted true false e = absurd (omega arith)
accepted false v e = absurd (omega arith)

module _ (n width : ℕ) (bytes : List ℕ) (ok : load_number_as n width bytes ≡ 0) where
  pub tests : (same_bytes (encode width (trigger_in bytes) (cells_in n width bytes) (connectors_in n width bytes)) bytes ≡ true)
      × (valid n (trigger_in bytes) (load_cells n width bytes) (connectors_in n width bytes) ≡ true)
  unfolding load_number_as
  tests = accepted _ _ ok

  -- with no constant above 1 the normal form of a record is the record
  pub normal-same : SmallConstants n width bytes → normal_record n width width bytes ≡ bytes
  unfolding normal_record
  normal-same small =
      ap (λ (l : List Cell). encode width (trigger_in bytes) l (connectors_in n width bytes)) (small-normal n width bytes small)
      ∙ same-sound _ bytes tests.0

  -- its configurations fit in their bytes
  read_under : (i : ℕ) → i < n → (cell_in width bytes i).config < 256 ^ width
  unfolding cell_in
  read_under i h =
      let cells = cells_in n width bytes in
      let at = trigger_length + i * cell_length width in
      let inside : i < length cells = omega (arith, length-listed (cell_in width bytes) n) in
      let place = cell-place width (trigger_in bytes) cells (connectors_in n width bytes) (in-slots n width bytes) i inside in
      config-under width i (get_or cells i no_cell) bytes _ at (ap (drop at) (sym (same-sound _ bytes tests.0)) ∙ place)

  pub accepted-fit : Fit width (load_cells n width bytes)
  unfolding normal_cell
  accepted-fit i h =
      let inside : i < n = omega (arith, length-listed (λ k. normal_cell (cell_in width bytes k)) n) in
      let cell = cell_in width bytes i in
      rw (listed_at (λ k. normal_cell (cell_in width bytes k)) n i no_cell inside)
      (lt_of_le_of_lt (normal-most cell.kind cell.config) (read_under i inside))

-- the connectors of an accepted record are of known types, so that a card holds them as they are
module _ (n width : ℕ) (bytes : List ℕ) (ok : load_number_as n width bytes ≡ 0) where
  known_in : Known (connectors_in n width bytes)
  known_in k h =
      let connectors = connectors_in n width bytes in
      let s = split n (trigger_in bytes) (load_cells n width bytes) connectors (tests n width bytes ok).1 in
      kind-good n (get_or connectors k no_connector)
      (every-at (valid_connector n) connectors k no_connector s.connectors-pass (omega (arith, s.connector-count, h)))

  pub each_in : each (from_each (connectors_in n width bytes)) ≡ connectors_in n width bytes
  each_in = each_from (connectors_in n width bytes) (length-listed (connector_in n width bytes) connector_count) known_in

  pub formed-in : well_formed (from_each (connectors_in n width bytes)) ≡ true
  formed-in = from-formed (connectors_in n width bytes) (length-listed (connector_in n width bytes) connector_count) known_in

module _ (n width : ℕ) (d : Card) (bytes : List ℕ) (ok : load_number_as n width bytes ≡ 0) where
  cells : List Cell
  cells = load_cells n width bytes ++ drop n d.cells

  powered : loaded_as n width d bytes ≡ powered_up n d.size (trigger_in bytes) cells (from_each (connectors_in n width bytes))
  unfolding cells
  powered = loaded-from n width d bytes cells refl ok

  -- a card that was loaded saves, in any form, as the settings that it was loaded from, with constants above 1 made 1
  pub save-load-as : (to : ℕ) → record_of n to (loaded_as n width d bytes) ≡ normal_record n width to bytes
  unfolding record_of normal_record cells
  save-load-as to =
      ap (record_of n to) powered ∙ ap (encode to (trigger_in bytes) (take n cells)) (each_in n width bytes ok)
      ∙ ap (λ (l : List Cell). encode to (trigger_in bytes) l (connectors_in n width bytes)) (cells-taken n width bytes (drop n d.cells))

  -- its settings are valid
  pub loaded-valid-as : valid_card n (loaded_as n width d bytes) ≡ true
  unfolding valid_card cells
  loaded-valid-as =
      ap (valid_card n) powered
      ∙ and_both (well_formed (from_each (connectors_in n width bytes))) _ (formed-in n width bytes ok)
      (rw (each_in n width bytes ok) (valid-from n width bytes cells (drop n d.cells) refl ∙ (tests n width bytes ok).1))

-- ---- a save and a load

-- the record of a valid card is accepted in a form that takes its configurations, and gives its settings
module _ (n width : ℕ) (c : Card) (ok : valid_card n c ≡ true) (fit : Fit width (take n c.cells)) where
  settings : valid n c.trigger c.cells (each c.connectors) ≡ true
  settings = settings-valid n c ok

  count : length (take n c.cells) ≡ n
  count = cell-count n c.trigger c.cells (each c.connectors) settings

  slots : FourSlots (take n c.cells)
  slots = four_slots n c.trigger c.cells (each c.connectors) settings

  cells-back : cells_in n width (record_of n width c) ≡ map cleared_cell (take n c.cells)
  unfolding record_of
  cells-back = rw count at (cells-read width c.trigger (take n c.cells) (each c.connectors) slots fit)

  pub connectors-back : connectors_in n width (record_of n width c) ≡ each c.connectors
  unfolding record_of
  connectors-back =
      let others = connector-count n c.trigger c.cells (each c.connectors) settings in
      rw count at (connectors-read width c.trigger (take n c.cells) (each c.connectors) slots fit others)

  pub trigger-back : trigger_in (record_of n width c) ≡ c.trigger
  unfolding record_of encode
  trigger-back = refl

  -- its constants are 0 or 1
  small : SmallConstants n width (record_of n width c)
  small i h k =
      let cell = get_or (take n c.cells) i no_cell in
      let inside : i < length (take n c.cells) = omega (arith, count) in
      let read : cell_in width (record_of n width c) i ≡ cleared_cell cell =
      sym (listed_at (cell_in width (record_of n width c)) n i no_cell h)
      ∙ ap (λ (l : List Cell). get_or l i no_cell) cells-back ∙ get_or-map cleared_cell (take n c.cells) i no_cell in
      let most = config-most n cell (first-valid n c.trigger c.cells (each c.connectors) settings i inside) in
      let kind : cell.kind ≡ constant_type = sym (ap (λ (x : Cell). x.kind) read) ∙ k in
      rw read (rw (kind, constant-largest) at most)

  pub loads-back : load_cells n width (record_of n width c) ≡ map cleared_cell (take n c.cells)
  loads-back = small-normal n width (record_of n width c) small ∙ cells-back

  pub load-accepts-as : load_number_as n width (record_of n width c) ≡ 0
  unfolding load_number_as record_of
  load-accepts-as =
      let cells = map cleared_cell (take n c.cells) in
      let all : take n cells ≡ cells = take_all n cells (omega (arith, length-map (take n c.cells) cleared_cell, count)) in
      rw (
        trigger-back,
        cells-back,
        loads-back,
        connectors-back,
        encode-cleared width c.trigger (take n c.cells) (each c.connectors),
        same_refl (record_of n width c),
        valid-cleared n c.trigger cells c.cells (each c.connectors) all,
        settings,
      )

  pub load-save-as : (d : Card) → loaded_as n width d (record_of n width c)
      ≡ powered_up n d.size c.trigger (map cleared_cell (take n c.cells) ++ drop n d.cells) c.connectors
  load-save-as d =
      let row = ap from_each connectors-back ∙ from_each_lem c.connectors (formed n c ok) in
      loaded-from n width d (record_of n width c) (map cleared_cell (take n c.cells) ++ drop n d.cells)
      (ap (λ (l : List Cell). l ++ drop n d.cells) (sym loads-back)) load-accepts-as
      ∙ (λ k. powered_up n d.size (trigger-back k) (map cleared_cell (take n c.cells) ++ drop n d.cells) (row k))
