-- The theorems of the saved record, over the number n of cells: what a save writes, that a load undoes a save and a save a load, that a load gives a
-- valid card, and that the settings of a record stay the same where it is written in another form.
use Prim.Native.Nat.{ℕ, zero, suc, ◌^◌, ◌≤◌, ◌<◌, zero-le}
use mathlib.Core.Path.{◌≡◌, refl, sym, ap, ap₂, ◌∙◌}
use mathlib.Core.Bool.{true, false, cond, and-false}
use mathlib.Core.List.{List, [], ◌∷◌, ◌++◌, map, map-append, append-nil}
use native.Mathlib.Nat.{zero-add}
use native.Mathlib.Omega.{arith}
use lib.Dec.{eqb, leb, lit<}
use lib.ListN.{length, take, drop, length-map, drop_of_length-le}
use lib.Seq.{take_at, sets-eq}
use borrow.Author.Tests.{le-ltb, le-leb, lt-leb, eq-eqb, ne_eqb}
use Rattle.words.specs.Listed.{listed}
use Rattle.words.proofs.Listed.{front-taken}
use Rattle.cells.specs.declared.cell.Cell.{Cell}
use Rattle.cells.specs.Table.{largest_config}
use Rattle.card.specs.declared.card.Card.{Card}
use Rattle.card.specs.declared.card.Connector.{Connector}
use Rattle.card.specs.Address.{cell_count}
use Rattle.card.specs.Connectors.{each, from_each, well_formed}
use Rattle.card.specs.Valid.{valid_card}
use Rattle.card.proofs.ConnectorLaws.{length-each}
use Rattle.card.proofs.ValidLaws.{settings-valid}
use Rattle.words.proofs.Bools.{and_both}
use Rattle.card.specs.Edits.{cleared_cell}
use Rattle.saved.specs.Record.{fields_from, encode, config_width, narrow_width, record_length, trigger_in, cell_in, connector_in, connectors_in, record_of}
use Rattle.saved.specs.Record.{normal_cell, load_cells, powered_up, load_number_as, loaded_as, width_of, load_number, loaded, normal_record}
use Rattle.saved.specs.Record.{SmallConstants, saved_to}
use Rattle.saved.proofs.Forms.{FourSlots, Fit, encode-length, cell-count, four_slots, all_fit, cells-all, loaded-from}
use Rattle.saved.proofs.Forms.{load-refused-as, wrong-length, tests, normal-same, save-load-as}
use Rattle.saved.proofs.Forms.{loaded-valid-as, trigger-back, connectors-back, loads-back}
use Rattle.saved.proofs.Forms.{load-accepts-as, load-save-as, each_in, formed-in}

-- ---- saves

-- the length of a record, of a card with cells of four slots and of a valid one
pub record-length : (n width : ℕ) (c : Card) → length (take n c.cells) ≡ n → FourSlots (take n c.cells) → length
    (record_of n width c) ≡ record_length n width
unfolding record_of
record-length n width c count slots =
    rw (count, length-each c.connectors) at (encode-length width c.trigger (take n c.cells) (each c.connectors) slots)

pub valid-length : (n width : ℕ) (c : Card) → valid_card n c ≡ true → length (record_of n width c) ≡ record_length n width
valid-length n width c ok =
    let settings = settings-valid n c ok in
    record-length n width c (cell-count n c.trigger c.cells (each c.connectors) settings)
    (four_slots n c.trigger c.cells (each c.connectors) settings)

-- a store that has room holds the record at its front after a save, and beyond it what it held
pub saved-front : (n width : ℕ) (c : Card) (store : List ℕ) → valid_card n c ≡ true → record_length n width ≤ length store
    → saved_to n width c store ≡ record_of n width c ++ drop (record_length n width) store
unfolding saved_to
saved-front n width c store ok room =
    let sized = valid-length n width c ok in
    rw (le-ltb (length store) (record_length n width) room)
    (sets-eq (record_of n width c) store 0 (omega arith)
    ∙ ap (λ (k : ℕ). record_of n width c ++ drop k store) (zero-add (length (record_of n width c)) ∙ sized))

-- a store of just that length holds the record and no more
pub saved-whole : (n width : ℕ) (c : Card) (store : List ℕ) → valid_card n c ≡ true → length store ≡ record_length n width
    → saved_to n width c store ≡ record_of n width c
saved-whole n width c store ok e =
    saved-front n width c store ok (omega arith)
    ∙ ap (λ (l : List ℕ). record_of n width c ++ l) (drop_of_length-le store {i = record_length n width} (omega arith))
    ∙ append-nil (record_of n width c)

-- ---- the form that the length shows

-- four bytes are enough
pub config-fits : largest_config < 256 ^ config_width
config-fits = lit< tt

pub narrow-form : (n : ℕ) (bytes : List ℕ) → n ≤ cell_count → length bytes ≡ record_length n narrow_width → width_of n bytes ≡ narrow_width
narrow-form n bytes h e = rw (le-leb n cell_count h, eq-eqb (length bytes) (record_length n narrow_width) e)

wide_form : (n : ℕ) (bytes : List ℕ) → 0 < n → length bytes ≡ record_length n config_width → width_of n bytes ≡ config_width
wide_form n bytes some e = rw (ne_eqb (length bytes) (record_length n narrow_width) (λ same. omega arith), and-false (leb n cell_count))

-- there is no old form of more cells than it was made for
pub large-form : (n : ℕ) (bytes : List ℕ) → cell_count < n → width_of n bytes ≡ config_width
large-form n bytes h = rw (lt-leb n cell_count h)

pub no-old-form : (n : ℕ) (bytes : List ℕ) → cell_count < n → length bytes ≡ record_length n narrow_width → load_number n bytes ≡ 14
unfolding load_number
no-old-form n bytes h e = ap (λ (w : ℕ). load_number_as n w bytes) (large-form n bytes h) ∙ wrong-length n config_width bytes (λ same. omega arith)

-- a record of the present length is loaded by the present form. Without cells the two forms are one
pub number-wide : (n : ℕ) (bytes : List ℕ) → length bytes ≡ record_length n config_width → load_number n bytes ≡ load_number_as n config_width bytes
unfolding load_number load_number_as encode fields_from connector_in listed
number-wide zero bytes e = ap (λ (w : ℕ). load_number_as 0 w bytes) (narrow-form 0 bytes zero-le e)
number-wide (suc m) bytes e = ap (λ (w : ℕ). load_number_as (suc m) w bytes) (wide_form (suc m) bytes (omega arith) e)

pub loaded-wide : (n : ℕ) (d : Card) (bytes : List ℕ) → length bytes ≡ record_length n config_width → loaded n d bytes ≡ loaded_as n config_width d bytes
unfolding loaded loaded_as load_number_as encode fields_from connector_in listed
loaded-wide zero d bytes e = ap (λ (w : ℕ). loaded_as 0 w d bytes) (narrow-form 0 bytes zero-le e)
loaded-wide (suc m) d bytes e = ap (λ (w : ℕ). loaded_as (suc m) w d bytes) (wide_form (suc m) bytes (omega arith) e)

-- ---- loads

-- by its number a load powers the card up or leaves it
pub loaded-by : (n : ℕ) (d : Card) (bytes : List ℕ) → let from = width_of n bytes in
    loaded n d bytes
    ≡ cond (eqb (load_number n bytes) 0) (powered_up n d.size (trigger_in bytes) (load_cells n from bytes ++ drop n d.cells) (from_each
    (connectors_in n from bytes))) d
unfolding load_number loaded loaded_as
loaded-by n d bytes = refl

-- a refused load changes nothing
pub load-refused : (n : ℕ) (d : Card) (bytes : List ℕ) → eqb (load_number n bytes) 0 ≡ false → loaded n d bytes ≡ d
unfolding load_number loaded
load-refused n d bytes e = load-refused-as n (width_of n bytes) d bytes e

module _ (n : ℕ) (d : Card) (bytes : List ℕ) (ok : load_number n bytes ≡ 0) where
  -- an accepted one powers up with the settings that are in the bytes
  pub load-powers : let from = width_of n bytes in
      loaded n d bytes ≡ powered_up n d.size (trigger_in bytes) (load_cells n from bytes ++ drop n d.cells) (from_each (connectors_in n from bytes))
  unfolding load_number loaded
  load-powers = loaded-from n (width_of n bytes) d bytes _ refl ok

  pub loaded-valid : valid_card n (loaded n d bytes) ≡ true
  unfolding load_number loaded
  loaded-valid = loaded-valid-as n (width_of n bytes) d bytes ok

  -- and is saved as the same settings, in any form and in the present one
  pub save-in : (to : ℕ) → record_of n to (loaded n d bytes) ≡ normal_record n (width_of n bytes) to bytes
  unfolding load_number loaded
  save-in to = save-load-as n (width_of n bytes) d bytes ok to

  pub save_load : record_of n config_width (loaded n d bytes) ≡ normal_record n (width_of n bytes) config_width bytes
  save_load = save-in config_width

  -- its cells are those that are in the bytes
  pub loaded-cells : take n (loaded n d bytes).cells ≡ load_cells n (width_of n bytes) bytes
  loaded-cells =
      ap (λ (c : Card). take n c.cells) load-powers ∙ front-taken (λ i. normal_cell (cell_in (width_of n bytes) bytes i)) n d.cells

  -- as the same bytes, where they are of that form and no constant is above 1
  pub save-same : length bytes ≡ record_length n config_width → SmallConstants n config_width bytes → record_of n config_width (loaded n d bytes) ≡ bytes
  save-same long small =
      let wide : load_number_as n config_width bytes ≡ 0 = sym (number-wide n bytes long) ∙ ok in
      ap (record_of n config_width) (loaded-wide n d bytes long)
      ∙ save-load-as n config_width d bytes wide config_width
      ∙ normal-same n config_width bytes wide small

-- the record of a valid card is accepted, and gives its settings
module _ (n : ℕ) (c : Card) (ok : valid_card n c ≡ true) where
  fit : Fit config_width (take n c.cells)
  fit = all_fit n c.trigger c.cells (each c.connectors) (settings-valid n c ok) config_width config-fits

  pub load-accepts : load_number n (record_of n config_width c) ≡ 0
  load-accepts = number-wide n (record_of n config_width c) (valid-length n config_width c ok) ∙ load-accepts-as n config_width c ok fit

  pub load_save : (d : Card) → loaded n d (record_of n config_width c)
      ≡ powered_up n d.size c.trigger (map cleared_cell (take n c.cells) ++ drop n d.cells) c.connectors
  load_save d = loaded-wide n d (record_of n config_width c) (valid-length n config_width c ok) ∙ load-save-as n config_width c ok fit d

  -- the cells that a load gives have the settings of c
  pub cleared-taken : (rest : List Cell) → take n (map cleared_cell (take n c.cells) ++ rest) ≡ map cleared_cell (take n c.cells)
  cleared-taken rest =
      let count = cell-count n c.trigger c.cells (each c.connectors) (settings-valid n c ok) in
      take_at (map cleared_cell (take n c.cells)) rest n (length-map (take n c.cells) cleared_cell ∙ count)

-- valid cards with one record have the same settings
pub one-record : (n : ℕ) (c d : Card) → valid_card n c ≡ true → valid_card n d ≡ true → record_of n config_width c ≡ record_of n config_width d
    → (c.trigger ≡ d.trigger) × (map cleared_cell (take n c.cells) ≡ map cleared_cell (take n d.cells)) × (c.connectors ≡ d.connectors)
one-record n c d okc okd e =
    let same = sym (load_save n c okc c) ∙ ap (loaded n c) e ∙ load_save n d okd c in
    let rest = drop n c.cells in
    let cells = sym (cleared-taken n c okc rest) ∙ ap (λ (x : Card). take n x.cells) same ∙ cleared-taken n d okd rest in
    (ap (λ (x : Card). x.trigger) same, cells, ap (λ (x : Card). x.connectors) same)

-- ---- a record in another form

-- cells with no state
pub cleared-listed : (f : ℕ → Cell) (n : ℕ) → ((i : ℕ) → cleared_cell (f i) ≡ f i) → map cleared_cell (listed f n) ≡ listed f n
unfolding listed
cleared-listed f zero h = refl
cleared-listed f (suc n) h =
    map-append cleared_cell (listed f n) (f n ∷ []) ∙ ap₂ (λ (l : List Cell) (x : Cell). l ++ (x ∷ [])) (cleared-listed f n h) (h n)

-- one that is accepted in the form `from`, with configurations that fit in the form `to`, written in that
module _ (n from to : ℕ) (bytes : List ℕ) (ok : load_number_as n from bytes ≡ 0) (fit : Fit to (load_cells n from bytes)) where
  card : Card
  card = powered_up n n (trigger_in bytes) (load_cells n from bytes) (from_each (connectors_in n from bytes))

  card-valid : valid_card n card ≡ true
  unfolding card valid_card
  card-valid =
      and_both (well_formed (from_each (connectors_in n from bytes))) _ (formed-in n from bytes ok) (rw (each_in n from bytes ok) (tests n from bytes ok).1)

  taken : take n card.cells ≡ load_cells n from bytes
  unfolding card
  taken = cells-all n from bytes

  fits : Fit to (take n card.cells)
  fits = rw taken fit

  is-record : record_of n to card ≡ normal_record n from to bytes
  unfolding card record_of normal_record
  is-record = ap₂ (encode to (trigger_in bytes)) taken (each_in n from bytes ok)

  -- it has the length of that form, and is accepted in it
  pub rewritten-length : length (normal_record n from to bytes) ≡ record_length n to
  rewritten-length = ap length (sym is-record) ∙ valid-length n to card card-valid

  pub rewritten-accepted : load_number_as n to (normal_record n from to bytes) ≡ 0
  rewritten-accepted = ap (load_number_as n to) (sym is-record) ∙ load-accepts-as n to card card-valid fits

  -- the settings are the same
  pub rewritten-trigger : trigger_in (normal_record n from to bytes) ≡ trigger_in bytes
  unfolding card
  rewritten-trigger = ap trigger_in (sym is-record) ∙ trigger-back n to card card-valid fits

  pub rewritten-cells : load_cells n to (normal_record n from to bytes) ≡ load_cells n from bytes
  unfolding normal_cell cell_in
  rewritten-cells =
      ap (load_cells n to) (sym is-record)
      ∙ loads-back n to card card-valid fits
      ∙ ap (map cleared_cell) taken
      ∙ cleared-listed (λ i. normal_cell (cell_in from bytes i)) n (λ i. refl)

  pub rewritten-connectors : connectors_in n to (normal_record n from to bytes) ≡ connectors_in n from bytes
  unfolding card
  rewritten-connectors = ap (connectors_in n to) (sym is-record) ∙ connectors-back n to card card-valid fits ∙ each_in n from bytes ok

  -- so a load of it gives the same card, and written in any form it is the same again
  pub rewritten-loaded : (d : Card) → loaded_as n to d (normal_record n from to bytes) ≡ loaded_as n from d bytes
  rewritten-loaded d =
      loaded-from n to d (normal_record n from to bytes) (load_cells n from bytes ++ drop n d.cells)
      (ap (λ (l : List Cell). l ++ drop n d.cells) (sym rewritten-cells)) rewritten-accepted
      ∙ ap₂ (λ (t : ℕ) (k : List Connector). powered_up n d.size t (load_cells n from bytes ++ drop n d.cells)
      (from_each k)) rewritten-trigger rewritten-connectors
      ∙ sym (loaded-from n from d bytes _ refl ok)

  pub rewritten-again : (w : ℕ) → normal_record n to w (normal_record n from to bytes) ≡ normal_record n from w bytes
  unfolding normal_record
  rewritten-again w = λ k. encode w (rewritten-trigger k) (rewritten-cells k) (rewritten-connectors k)

-- what a save after a load writes, whatever the form that was loaded, is a record of the present form: it loads, and gives the same card
module _ (n : ℕ) (c d : Card) (bytes : List ℕ) (ok : load_number n bytes ≡ 0) where
  pub saved-length : length (record_of n config_width (loaded n c bytes)) ≡ record_length n config_width
  saved-length = valid-length n config_width (loaded n c bytes) (loaded-valid n c bytes ok)

  pub saved_loads : load_number n (record_of n config_width (loaded n c bytes)) ≡ 0
  saved_loads = load-accepts n (loaded n c bytes) (loaded-valid n c bytes ok)

  pub saved-loaded : loaded n d (record_of n config_width (loaded n c bytes)) ≡ loaded n d bytes
  unfolding load_number loaded
  saved-loaded =
      let from = width_of n bytes in
      let settings = (tests n from bytes ok).1 in
      let fit : Fit config_width (load_cells n from bytes) =
      rw (cells-all n from bytes) at (all_fit n (trigger_in bytes) (load_cells n from bytes) (connectors_in n from bytes) settings config_width config-fits) in
      ap (loaded n d) (save_load n c bytes ok)
      ∙ loaded-wide n d (normal_record n from config_width bytes) (rewritten-length n from config_width bytes ok fit)
      ∙ rewritten-loaded n from config_width bytes ok fit d
