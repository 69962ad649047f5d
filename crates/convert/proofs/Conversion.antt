-- The promises of a conversion, over the number n of cells.
use Rattle.std.specs.Prelude.{unwrap_or}
use Prim.Native.Nat.{ℕ, zero, suc, ◌+◌, ◌-◌, ◌^◌, ◌≤◌, ◌<◌}
use mathlib.Core.Path.{◌≡◌, refl, sym, ap, ap₂, subst, ◌∙◌}
use mathlib.Core.Bool.{Bool, true, false, not, ◌&&◌, ◌||◌, true≢false, and-false}
use mathlib.Core.List.{List, [], ◌∷◌, ◌++◌, map}
use native.Mathlib.Decide.{ℕ_discrete}
use native.Mathlib.Nat.{zero-add, lt_of_le_of_lt}
use native.Mathlib.Omega.{arith}
use lib.Dec.{eqb, leb, lit<}
use lib.ListN.{length, get_or, take, drop, replicate, length-take, length-drop, drop_of_length-le, get_or-map}
use lib.Seq.{length-sets, sets-eq, take-append_seam, take-take, drop_at, get_or-drop}
use borrow.Author.Tests.{eqb-true, eqb-false, eq-eqb, ne_eqb, not-false, ltb-false, le-ltb, leb-true, leb-false, le-leb, lt-leb}
use Rattle.words.proofs.Listed.{length-listed, listed_at}
use Rattle.cells.specs.declared.cell.Cell.{Cell}
use Rattle.cells.specs.declared.table.Row.{Row}
use Rattle.cells.specs.declared.table.Kept.{Kept as KeptState}
use Rattle.cells.specs.declared.table.Kept.TheVariants.{Stateless, Bit, Count, Counted}
use Rattle.cells.specs.State.{cell_of}
use Rattle.cells.specs.Table.{row_of, constant_type}
use Rattle.words.proofs.Bools.{or_left, or_right, and_left, and_right}
use Rattle.cells.proofs.Rows.{every-row}
use Rattle.card.specs.declared.card.Card.{Card}
use Rattle.card.specs.Address.{cell_count, cell_room}
use Rattle.card.specs.Edits.{cleared_cell}
use Rattle.card.specs.Fresh.{clear_state, no_cell, fresh_cell, fresh}
use Rattle.text.specs.Digits.{every}
use Rattle.card.specs.Valid.{valid_slot, valid_slots, valid_cell, valid_card}
use Rattle.text.proofs.DigitLaws.{every-at}
use Rattle.card.proofs.Settings.{every-listed, config-most, split}
use Rattle.card.proofs.Slots.{four}
use Rattle.card.specs.Connectors.{each}
use Rattle.card.proofs.ValidLaws.{all-four, slots-pass, settings-valid}
use Rattle.saved.specs.Record.{encode, config_width, narrow_width, record_length, trigger_in, cell_in, normal_cell, load_cells, connectors_in, record_of, powered_up}
use Rattle.saved.specs.Record.{width_of, load_number_as, loaded_as, load_number, loaded, normal_record, SmallConstants}
use Rattle.saved.proofs.Forms.{Fit, all_fit, cells-all, tests, normal-same, accepted-fit, load-accepts-as, load-save-as}
use Rattle.saved.proofs.Records.{config-fits, valid-length, narrow-form, loaded-valid, loaded-cells, cleared-listed}
use Rattle.saved.proofs.Records.{rewritten-length, rewritten-accepted, rewritten-cells, rewritten-loaded, rewritten-again}
use Rattle.convert.specs.Convert.{large_length, cells_of, cells_held, other_width, other_length, short_for, loader_number, narrow_cell, too_long, is_blank}
use Rattle.convert.specs.Convert.{largest_narrow, above_small, convert_number, other_form, convert_length, converted_to}
use Rattle.convert.specs.Conversion.{Converts, Shrinks, Kept, Conversion}
use Rattle.convert.proofs.Laws.{number_is, Passed, none-applies, converted_as, refused_as}
use Rattle.convert.proofs.Above.{above-card, held-form}

-- ---- a record of a small card

-- its settings are those of its own number of cells, and none is above them
module _ (n : ℕ) (bytes : List ℕ) (own : cells_of n bytes ≡ n) where
  other-own : other_form n bytes ≡ normal_record n (width_of n bytes) (other_width n bytes) bytes
  unfolding other_form normal_record
  other-own =
      let w = other_width n bytes in
      ap (λ (k : ℕ). encode w (trigger_in bytes) (take n (load_cells k (width_of k bytes) bytes)) (connectors_in k (width_of k bytes) bytes)) own
      ∙ ap (λ (l : List Cell). encode w (trigger_in bytes) l (connectors_in n (width_of n bytes) bytes)) (cells-all n (width_of n bytes) bytes)

  long-own : too_long n bytes ≡ (eqb (other_width n bytes) narrow_width && not (every narrow_cell (load_cells n (width_of n bytes) bytes)))
  unfolding too_long
  long-own = ap (λ (k : ℕ). eqb (other_width n bytes) narrow_width && not (every narrow_cell (load_cells k (width_of k bytes) bytes))) own

  above-own : n ≤ cell_room → load_number n bytes ≡ 0 → above_small n bytes ≡ false
  unfolding every
  above-own most ok =
      let cells = (loaded n fresh bytes).cells in
      let given : load_number (cells_of n bytes) bytes ≡ 0 = ap (λ (k : ℕ). load_number k bytes) own ∙ ok in
      above-card n bytes fresh (omega (arith, own)) (omega (arith, own)) given
      ∙ ap (λ (k : ℕ). not (every is_blank (drop n (take k (loaded k fresh bytes).cells))) || not (valid_card n (loaded k fresh bytes))) own
      ∙ ap₂ (λ (l : List Cell) (q : Bool). not (every is_blank l) || not q)
      (drop_of_length-le (take n cells) {i = n} (omega (arith, length-take n cells))) (loaded-valid n fresh bytes ok)

-- ---- the two ways

-- a record in the form `from`, which converts to the form `to`
record Way (n from to : ℕ) (bytes : List ℕ) : Type 0 where
  own : cells_of n bytes ≡ n
  from_is : width_of n bytes ≡ from
  to_is : other_width n bytes ≡ to
  long : length bytes ≡ record_length n from
  known : other_length n bytes ≡ false

small-own : (n : ℕ) (bytes : List ℕ) → (length bytes ≡ large_length → ⊥) → cells_of n bytes ≡ n
small-own n bytes other = rw (ne_eqb (length bytes) large_length other)

up : (n : ℕ) (bytes : List ℕ) → n ≤ cell_count → length bytes ≡ record_length n narrow_width → Way n narrow_width config_width bytes
up n bytes few e =
    let narrow = eq-eqb (length bytes) (record_length n narrow_width) e in
    record {
      own = small-own n bytes (λ same. omega arith);
      from_is = rw (le-leb n cell_count few, narrow);
      to_is = rw narrow;
      long = e;
      known = rw narrow;
    }

down : (n : ℕ) (bytes : List ℕ) → 0 < n → n ≤ cell_count → length bytes ≡ record_length n config_width → Way n config_width narrow_width bytes
down n bytes some few e =
    let wide = ne_eqb (length bytes) (record_length n narrow_width) (λ same. omega arith) in
    record {
      own = small-own n bytes (λ same. omega arith);
      from_is = rw (wide, and-false (leb n cell_count));
      to_is = rw wide;
      long = e;
      known = rw (wide, eq-eqb (length bytes) (record_length n config_width) e);
    }

-- ---- what has room in two bytes

narrow-fit : (l : List Cell) → every narrow_cell l ≡ true → Fit narrow_width l
unfolding narrow_cell
narrow-fit l ok i h = lt_of_le_of_lt (leb-true (get_or l i no_cell).config largest_narrow (every-at narrow_cell l i no_cell ok h)) (lit< tt)

fit-narrow : (n width : ℕ) (bytes : List ℕ) → Fit narrow_width (load_cells n width bytes) → every narrow_cell (load_cells n width bytes) ≡ true
unfolding narrow_cell
fit-narrow n width bytes fit =
    let f : ℕ → Cell = λ i. normal_cell (cell_in width bytes i) in
    every-listed narrow_cell f n
    (λ i h. let at : get_or (load_cells n width bytes) i no_cell ≡ f i = listed_at f n i no_cell h in
    let under : (f i).config < 256 ^ narrow_width = rw at at (fit i (omega (arith, length-listed f n))) in
    le-leb (f i).config largest_narrow (omega arith))

-- ---- a conversion by its way

module _ (n room from to : ℕ) (bytes : List ℕ) (few : n ≤ cell_count) (way : Way n from to bytes)
    (turn : (l : List ℕ) → length l ≡ record_length n to → Way n to from l) (enough : short_for n room bytes ≡ false) (ok : load_number n bytes ≡ 0)
    (fit : Fit to (load_cells n from bytes))
    (short : eqb from narrow_width ≡ true → every narrow_cell (load_cells n from bytes) ≡ true) where
  number : load_number_as n from bytes ≡ 0
  unfolding load_number
  number = ap (λ (w : ℕ). load_number_as n w bytes) (sym way.from_is) ∙ ok

  result : List ℕ
  result = normal_record n from to bytes

  result-is : other_form n bytes ≡ result
  unfolding result
  result-is = other-own n bytes way.own ∙ (λ k. normal_record n (way.from_is k) (way.to_is k) bytes)

  result-long : length result ≡ record_length n to
  unfolding result
  result-long = rewritten-length n from to bytes number fit

  back-way : Way n to from result
  back-way = turn result result-long

  result-loads : load_number n result ≡ 0
  unfolding result load_number
  result-loads = ap (λ (w : ℕ). load_number_as n w result) back-way.from_is ∙ rewritten-accepted n from to bytes number fit

  result-same : (d : Card) → loaded n d result ≡ loaded n d bytes
  unfolding result loaded
  result-same d =
      ap (λ (w : ℕ). loaded_as n w d result) back-way.from_is
      ∙ rewritten-loaded n from to bytes number fit d
      ∙ ap (λ (w : ℕ). loaded_as n w d bytes) (sym way.from_is)

  -- back: no duration is too long, since it had its place before
  result-narrow : too_long n result ≡ false
  unfolding result
  result-narrow =
      long-own n result back-way.own
      ∙ (λ k. eqb (back-way.to_is k) narrow_width && not (every narrow_cell (load_cells n (back-way.from_is k) result)))
      ∙ ap (λ (l : List Cell). eqb from narrow_width && not (every narrow_cell l)) (rewritten-cells n from to bytes number fit)
      ∙ go (eqb from narrow_width) refl
    where
      go : (b : Bool) → eqb from narrow_width ≡ b → (b && not (every narrow_cell (load_cells n from bytes))) ≡ false
      go true e = rw (short e)
      go false e = refl

  result-back : (again : ℕ) → length bytes ≤ again → convert_number n again result ≡ 0
  result-back again room =
      let size = ap (record_length n) back-way.to_is in
      let wide : record_length n (other_width n result) ≤ again = omega (arith, way.long, size) in
      number_is n again result false false false false 0 back-way.known (le-ltb again (record_length n (other_width n result)) wide)
      (ap (λ (k : ℕ). load_number k result) back-way.own ∙ result-loads) result-narrow (above-own n result back-way.own (omega arith) result-loads)

  again-is : other_form n result ≡ normal_record n from from bytes
  unfolding result
  again-is =
      other-own n result back-way.own
      ∙ (λ k. normal_record n (back-way.from_is k) (back-way.to_is k) result)
      ∙ rewritten-again n from to bytes number fit from

  there_back : other_form n result ≡ normal_record n (width_of n bytes) (width_of n bytes) bytes
  there_back = again-is ∙ sym (λ k. normal_record n (way.from_is k) (way.from_is k) bytes)

  by_way : Converts n room bytes
  by_way =
      let size = ap length result-is ∙ result-long in
      record {
        sized = size ∙ ap (record_length n) (sym way.to_is);
        fits = omega (arith, size, ap (record_length n) way.to_is, ltb-false room (record_length n (other_width n bytes)) enough);
        loads = ap (load_number n) result-is ∙ result-loads;
        same = λ d. ap (loaded n d) result-is ∙ result-same d;
        back = λ again h. ap (convert_number n again) result-is ∙ result-back again h;
        there_and_back = ap (other_form n) result-is ∙ there_back;
        same_bytes = λ small. ap (other_form n) result-is ∙ again-is
            ∙ normal-same n from bytes number (subst (λ (w : ℕ). SmallConstants n w bytes) way.from_is small);
      }

module _ (n room : ℕ) (bytes : List ℕ) (enough : short_for n room bytes ≡ false) (ok : load_number n bytes ≡ 0) where
  number_in : (width : ℕ) → width_of n bytes ≡ width → load_number_as n width bytes ≡ 0
  unfolding load_number
  number_in width e = ap (λ (w : ℕ). load_number_as n w bytes) (sym e) ∙ ok

  converts-up : 0 < n → n ≤ cell_count → length bytes ≡ record_length n narrow_width → Converts n room bytes
  converts-up some few e =
      let way = up n bytes few e in
      let number = number_in narrow_width way.from_is in
      let cells = load_cells n narrow_width bytes in
      let settings = (tests n narrow_width bytes number).1 in
      let fit : Fit config_width cells =
      rw (cells-all n narrow_width bytes) at (all_fit n (trigger_in bytes) cells (connectors_in n narrow_width bytes) settings config_width config-fits) in
      by_way n room narrow_width config_width bytes few way (λ l long. down n l some few long) enough ok fit
      (λ same. fit-narrow n narrow_width bytes (accepted-fit n narrow_width bytes number))

  converts-down : 0 < n → n ≤ cell_count → length bytes ≡ record_length n config_width → too_long n bytes ≡ false → Converts n room bytes
  converts-down some few e short =
      let way = down n bytes some few e in
      let cells = load_cells n config_width bytes in
      let told : not (every narrow_cell cells) ≡ false = rw (way.to_is, way.from_is) at (sym (long-own n bytes way.own) ∙ short) in
      by_way n room config_width narrow_width bytes few way (λ l long. up n l few long) enough ok
      (narrow-fit cells (not-false (every narrow_cell cells) told)) (λ same. absurd (true≢false (sym same)))

-- ---- a record of a large card

every_take : {A : Type 0} (f : A → Bool) (n : ℕ) (l : List A) → every f l ≡ true → every f (take n l) ≡ true
unfolding every
every_take f zero l e = refl
every_take f (suc n) [] e = refl
every_take f (suc n) (x ∷ xs) e = rw (and_left (f x) (every f xs) e) (every_take f n xs (and_right (f x) (every f xs) e))

all-fresh : (l : List Cell) → ((i : ℕ) → i < length l → get_or l i no_cell ≡ fresh_cell) → l ≡ replicate (length l) fresh_cell
all-fresh [] same = refl
all-fresh (x ∷ xs) same = ap₂ (λ (c : Cell) (l : List Cell). c ∷ l) (same 0 (omega arith)) (all-fresh xs (λ i h. same (suc i) (omega arith)))

map-take : {A B : Type 0} (f : A → B) (n : ℕ) (l : List A) → map f (take n l) ≡ take n (map f l)
map-take f zero l = refl
map-take f (suc n) [] = refl
map-take {B = B} f (suc n) (x ∷ xs) = ap (λ (r : List B). f x ∷ r) (map-take f n xs)

-- a constant's slots are 0
constant-slots : (n : ℕ) (s : List ℕ) → valid_slots n (row_of constant_type) s ≡ true → s ≡ replicate 4 0
unfolding valid_slots valid_slot row_of
constant-slots n s ok =
    let pass = all-four _ _ _ _ (and_right (eqb (length s) 4) _ ok) in
    let x = eqb-true (get_or s 0 0) 0 pass.0 in
    let y = eqb-true (get_or s 1 0) 0 pass.1 in
    let z = eqb-true (get_or s 2 0) 0 pass.2 in
    let f = eqb-true (get_or s 3 0) 0 pass.3 in
    sym (four s (eqb-true (length s) 4 (and_left (eqb (length s) 4) _ ok))) ∙ (λ i. x i ∷ y i ∷ z i ∷ f i ∷ [])

-- so a valid cell that is constant 0 is as a fresh one
blank-fresh : (n : ℕ) (cell : Cell) → valid_cell n cell ≡ true → is_blank cell ≡ true → cleared_cell cell ≡ fresh_cell
unfolding is_blank
blank-fresh n cell ok blank =
    let kind = eqb-true cell.kind constant_type (and_left (eqb cell.kind constant_type) (eqb cell.config 0) blank) in
    let config = eqb-true cell.config 0 (and_right (eqb cell.kind constant_type) (eqb cell.config 0) blank) in
    let slots = constant-slots n cell.slots (ap (λ (k : ℕ). valid_slots n (row_of k) cell.slots) (sym kind) ∙ slots-pass n cell ok) in
    λ i. cell_of (kind i) (config i) (slots i) clear_state

module _ (n room : ℕ) (bytes : List ℕ) (few : n ≤ cell_count) (large : length bytes ≡ large_length) where
  large-own : cells_of n bytes ≡ cell_room
  large-own = rw (eq-eqb (length bytes) large_length large)

  large-to : other_width n bytes ≡ narrow_width
  large-to = rw (ne_eqb (length bytes) (record_length n narrow_width) (λ same. omega arith))

  only_above : load_number cell_room bytes ≡ 0 → (d : Card)
      → above_small n bytes ≡ (not (every is_blank (drop n (take cell_room (loaded cell_room d bytes).cells))) || not (valid_card n (loaded cell_room d bytes)))
  only_above ok d =
      above-card n bytes d (omega (arith, large-own)) (omega (arith, large-own)) (ap (λ (k : ℕ). load_number k bytes) large-own ∙ ok)
      ∙ ap (λ (k : ℕ). not (every is_blank (drop n (take k (loaded k d bytes).cells))) || not (valid_card n (loaded k d bytes))) large-own

  module _ (enough : short_for n room bytes ≡ false) (ok : load_number cell_room bytes ≡ 0) (short : too_long n bytes ≡ false) (below : above_small n bytes ≡ false)
      (d : Card) where
    card : Card
    card = loaded cell_room d bytes

    holds : valid_card n card ≡ true
    unfolding card
    holds = not-false _ (or_right (not (every is_blank (drop n (take cell_room card.cells)))) (not (valid_card n card)) (sym (only_above ok d) ∙ below))

    blank : every is_blank (drop n (take cell_room card.cells)) ≡ true
    unfolding card
    blank = not-false _ (or_left (not (every is_blank (drop n (take cell_room card.cells)))) (not (valid_card n card)) (sym (only_above ok d) ∙ below))

    cells_are : take cell_room card.cells ≡ load_cells cell_room (width_of cell_room bytes) bytes
    unfolding card
    cells_are = loaded-cells cell_room d bytes ok

    small-fit : Fit narrow_width (take n card.cells)
    unfolding too_long
    small-fit =
        let held = cells_held n bytes in
        let told : not (every narrow_cell held) ≡ false = ap (λ (w : ℕ). eqb w narrow_width && not (every narrow_cell held)) (sym large-to) ∙ short in
        let same : take n held ≡ take n card.cells =
        ap (λ (k : ℕ). take n (load_cells k (width_of k bytes) bytes)) large-own ∙ ap (take n) (sym cells_are)
        ∙ take-take n cell_room card.cells (omega arith) in
        subst (Fit narrow_width) same (narrow-fit (take n held) (every_take narrow_cell n held (not-false _ told)))

    is-record : other_form n bytes ≡ record_of n narrow_width card
    unfolding card
    is-record =
        let given = ap (λ (k : ℕ). load_number k bytes) large-own ∙ ok in
        sym (held-form n bytes d (omega (arith, large-own)) (omega (arith, large-own)) given narrow_width (sym large-to))
        ∙ ap (λ (k : ℕ). record_of n narrow_width (loaded k d bytes)) large-own

    shrunk-length : length (other_form n bytes) ≡ record_length n narrow_width
    shrunk-length = ap length is-record ∙ valid-length n narrow_width card holds

    shrunk-form : width_of n (other_form n bytes) ≡ narrow_width
    shrunk-form = narrow-form n (other_form n bytes) few shrunk-length

    shrunk-loads : load_number n (other_form n bytes) ≡ 0
    unfolding load_number
    shrunk-loads =
        ap (λ (w : ℕ). load_number_as n w (other_form n bytes)) shrunk-form
        ∙ ap (load_number_as n narrow_width) is-record
        ∙ load-accepts-as n narrow_width card holds small-fit

    -- loaded cells have no state
    all-clear : map cleared_cell (take cell_room card.cells) ≡ take cell_room card.cells
    unfolding normal_cell cell_in
    all-clear =
        ap (map cleared_cell) cells_are
        ∙ cleared-listed (λ i. normal_cell (cell_in (width_of cell_room bytes) bytes i)) cell_room (λ i. refl)
        ∙ sym cells_are

    first-clear : map cleared_cell (take n card.cells) ≡ take n card.cells
    first-clear =
        let first = take-take n cell_room card.cells (omega arith) in
        ap (map cleared_cell) (sym first) ∙ map-take cleared_cell n (take cell_room card.cells) ∙ ap (take n) all-clear ∙ first

    shrunk-same : (c : Card) → loaded n c (other_form n bytes)
        ≡ powered_up n c.size card.trigger (take n card.cells ++ drop n c.cells) card.connectors
    unfolding loaded
    shrunk-same c =
        ap (λ (w : ℕ). loaded_as n w c (other_form n bytes)) shrunk-form
        ∙ ap (loaded_as n narrow_width c) is-record
        ∙ load-save-as n narrow_width card holds small-fit c
        ∙ ap (λ (l : List Cell). powered_up n c.size card.trigger (l ++ drop n c.cells) card.connectors) first-clear

    -- what is above n is constant 0, as the test found
    rest_at : (i : ℕ) → i < length (drop n (take cell_room card.cells)) → get_or (drop n (take cell_room card.cells)) i no_cell ≡ fresh_cell
    unfolding card valid_card
    rest_at i h =
        let cells = take cell_room card.cells in
        let there = get_or-drop n cells i no_cell in
        let pass = (split cell_room card.trigger card.cells (each card.connectors) (settings-valid cell_room card
        (loaded-valid cell_room d bytes ok))).cells-pass in
        let ok_at = every-at (valid_cell cell_room) cells (n + i) no_cell pass (omega (arith, length-drop n cells)) in
        let blank-at = ap is_blank (sym there) ∙ every-at is_blank (drop n cells) i no_cell blank h in
        let clear_at = sym (get_or-map cleared_cell cells (n + i) no_cell) ∙ ap (λ (l : List Cell). get_or l (n + i) no_cell) all-clear in
        there ∙ sym clear_at ∙ blank-fresh cell_room (get_or cells (n + i) no_cell) ok_at blank-at

    shrunk-rest : drop n (take cell_room card.cells) ≡ replicate (cell_room - n) fresh_cell
    shrunk-rest =
        let cells = take cell_room card.cells in
        let count = ap length cells_are ∙ length-listed (λ i. normal_cell (cell_in (width_of cell_room bytes) bytes i)) cell_room in
        all-fresh (drop n cells) rest_at ∙ ap (λ (k : ℕ). replicate k fresh_cell) (length-drop n cells ∙ ap (λ (k : ℕ). k - n) count)

-- ---- the theorem

-- the tests that a record has passed
passed : (n room : ℕ) (bytes : List ℕ) → convert_number n room bytes ≡ 0
    → Passed (other_length n bytes) (short_for n room bytes) (loader_number n bytes) (too_long n bytes) (above_small n bytes)
unfolding convert_number
passed n room bytes e =
    none-applies (other_length n bytes) (short_for n room bytes) (too_long n bytes) (above_small n bytes) (loader_number n bytes) e

module _ (n : ℕ) (some : 0 < n) (few : n ≤ cell_count) (room : ℕ) (bytes : List ℕ) where
  converts : (length bytes ≡ large_length → ⊥) → convert_number n room bytes ≡ 0 → Converts n room bytes
  converts small e = go (eqb (length bytes) (record_length n narrow_width)) (eqb (length bytes) (record_length n config_width)) refl refl
    where
      t : Passed (other_length n bytes) (short_for n room bytes) (loader_number n bytes) (too_long n bytes) (above_small n bytes)
      t = passed n room bytes e

      ok : load_number n bytes ≡ 0
      ok = ap (λ (k : ℕ). load_number k bytes) (sym (small-own n bytes small)) ∙ t.loads

      go : (narrow wide : Bool) → eqb (length bytes) (record_length n narrow_width) ≡ narrow → eqb (length bytes) (record_length n config_width) ≡ wide
          → Converts n room bytes
      go true wide en ew = converts-up n room bytes t.roomy ok some few (eqb-true (length bytes) (record_length n narrow_width) en)
      go false true en ew = converts-down n room bytes t.roomy ok some few (eqb-true (length bytes) (record_length n config_width) ew) t.short
      go false false en ew = absurd (true≢false (rw (en, ew, ne_eqb (length bytes) large_length small) at t.known))

  shrinks : length bytes ≡ large_length → convert_number n room bytes ≡ 0 → Shrinks n room bytes
  unfolding card
  shrinks large e =
      let t = passed n room bytes e in
      let ok : load_number cell_room bytes ≡ 0 = ap (λ (k : ℕ). load_number k bytes) (sym (large-own n room bytes few large)) ∙ t.loads in
      let size = shrunk-length n room bytes few large t.roomy ok t.short t.below fresh in
      record {
        sized = size;
        fits = omega (arith, size, ap (record_length n) (large-to n room bytes few large), ltb-false room (record_length n (other_width n bytes)) t.roomy);
        loads = shrunk-loads n room bytes few large t.roomy ok t.short t.below fresh;
        same = λ c d. shrunk-same n room bytes few large t.roomy ok t.short t.below d c;
        rest = λ d. shrunk-rest n room bytes few large t.roomy ok t.short t.below d;
      }

  -- of either
  pub fitting : convert_number n room bytes ≡ 0 → (length (other_form n bytes) ≡ record_length n (other_width n bytes)) × (length (other_form n bytes) ≤ room)
  fitting e = go (ℕ_discrete (length bytes) large_length)
    where
      go : Dec (length bytes ≡ large_length) → (length (other_form n bytes) ≡ record_length n (other_width n bytes)) × (length (other_form n bytes) ≤ room)
      go (yes large) =
          let r = shrinks large e in
          (r.sized ∙ ap (record_length n) (sym (large-to n room bytes few large)), r.fits)
      go (no small) =
          let r = converts small e in
          (r.sized, r.fits)

kept : (n : ℕ) → 0 < n → n ≤ cell_count → (bytes buffer : List ℕ) → Kept n bytes buffer
kept n some few bytes buffer = go (eqb (convert_number n (length buffer) bytes) 0) refl
  where
    go : (b : Bool) → eqb (convert_number n (length buffer) bytes) 0 ≡ b → Kept n bytes buffer
    go true e =
        let ok = eqb-true (convert_number n (length buffer) bytes) 0 e in
        let c = fitting n some few (length buffer) bytes ok in
        let is = converted_as n bytes buffer ok in
        let r = other_form n bytes in
        let len : convert_length n (length buffer) bytes ≡ length r = sym is.0 ∙ sym c.0 in
        let stored : converted_to n bytes buffer ≡ r ++ drop (length r) buffer =
        sym is.1 ∙ sets-eq r buffer 0 (rw (zero-add (length r)) c.1) ∙ ap (λ (k : ℕ). r ++ drop k buffer) (zero-add (length r)) in
        record {
          result = λ same. ap₂ take len stored ∙ take-append_seam r (drop (length r) buffer);
          beyond = ap₂ drop len stored ∙ drop_at r (drop (length r) buffer) (length r) refl ∙ ap (λ (k : ℕ). drop k buffer) (sym len);
          long = ap length (sym is.1) ∙ length-sets buffer 0 r;
        }
    go false e =
        let is = refused_as n (convert_number n (length buffer) bytes) bytes buffer refl e in
        record {
          result = λ same. absurd (eqb-false (convert_number n (length buffer) bytes) 0 e same);
          beyond = ap (drop (convert_length n (length buffer) bytes)) (sym is.2);
          long = ap length (sym is.2);
        }

timer : KeptState → Bool
timer Stateless = false
timer Bit = false
timer Count = true
timer Counted = false

only-timer : (k : KeptState) → timer k ≡ true → k ≡ Count
unfolding timer
only-timer Stateless e = absurd (true≢false (sym e))
only-timer Bit e = absurd (true≢false (sym e))
only-timer Count e = refl
only-timer Counted e = absurd (true≢false (sym e))

only_durations : (n : ℕ) (cell : Cell) → valid_cell n cell ≡ true → narrow_cell cell ≡ false → (row_of cell.kind).kept ≡ Count
unfolding narrow_cell timer
only_durations n cell ok long =
    let over : largest_narrow < cell.config = leb-false cell.config largest_narrow long in
    let row = row_of cell.kind in
    let large : leb (unwrap_or row.largest 0) largest_narrow ≡ false = lt-leb (unwrap_or row.largest 0) largest_narrow (omega (arith, config-most n cell ok)) in
    let test = every-row (λ (r : Row). leb (unwrap_or r.largest 0) largest_narrow || timer r.kept) refl cell.kind in
    only-timer row.kept (rw large at test)

-- by the tests that are left once the loader has none
others : (n room : ℕ) (bytes : List ℕ) → other_length n bytes ≡ false → short_for n room bytes ≡ false → loader_number n bytes ≡ 0
    → (convert_number n room bytes ≡ 17 → ⊥) → (convert_number n room bytes ≡ 18 → ⊥) → convert_number n room bytes ≡ 0
others n room bytes known roomy loads not17 not18 = go (too_long n bytes) (above_small n bytes) refl refl
  where
    go : (t a : Bool) → too_long n bytes ≡ t → above_small n bytes ≡ a → convert_number n room bytes ≡ 0
    go true a et ea = absurd (not17 (number_is n room bytes false false true a 0 known roomy loads et ea))
    go false true et ea = absurd (not18 (number_is n room bytes false false false true 0 known roomy loads et ea))
    go false false et ea = number_is n room bytes false false false false 0 known roomy loads et ea

-- of cards for which there is an old form
pub conversion : (n : ℕ) → 0 < n → n ≤ cell_count → Conversion n
conversion n some few =
    record {
      converts = converts n some few;
      shrinks = shrinks n some few;
      kept = kept n some few;
      only_durations = only_durations n;
      only_above = λ bytes large ok d. only_above n 0 bytes few large ok d;
      others = others n;
    }
