-- Laws of 18: of the settings of m cells a card of n, no more, can hold those that set and read no cell above n.
use Rattle.std.specs.Prelude.{unwrap_or}
use Prim.Native.Nat.{ℕ, zero, suc, ◌+◌, ◌-◌, ◌≤◌, ◌<◌, zero-le}
use mathlib.Core.Path.{◌≡◌, refl, sym, ap, ap₂, ◌∙◌}
use mathlib.Core.Bool.{Bool, true, false, not, ◌&&◌, ◌||◌, and-true, and-false, and_assoc}
use mathlib.Core.List.{List, [], ◌∷◌}
use native.Mathlib.Decide.{dec_lt}
use native.Mathlib.Nat.{zero-add, suc-add}
use native.Mathlib.Omega.{arith}
use lib.Dec.{leb, ltb, eqb}
use lib.ListN.{length, get_or, take, drop}
use lib.Seq.{take_all, take-take, length-take-le}
use borrow.Author.Tests.{eqb-true, eq-eqb, ne_eqb, not-true, not-false}
use Rattle.cells.specs.declared.cell.Cell.{Cell}
use Rattle.cells.specs.Table.{row_of}
use Rattle.words.proofs.Bools.{or_left, or_right, and_left, and_right}
use Rattle.card.specs.declared.card.Card.{Card}
use Rattle.card.specs.declared.card.Connector.{Connector}
use Rattle.card.specs.Address.{cell_room, connector_count, first_cell, first_connector, among, base_of, is_edge}
use Rattle.card.specs.Fresh.{no_cell}
use Rattle.card.specs.Valid.{permitted_base, bad_cell_type, bad_address, valid_slot, valid_slots}
use Rattle.text.specs.Digits.{every}
use Rattle.card.specs.Valid.{valid_cell, valid_connector, valid, valid_card}
use Rattle.card.specs.Valid.{largest_address}
use Rattle.card.proofs.Places.{among_in, among_below, among-above}
use Rattle.card.proofs.Settings.{first-at, first-pass, taken-room, split, cell-slots}
use Rattle.card.proofs.Slots.{four}
use Rattle.card.specs.Connectors.{each}
use Rattle.card.proofs.ValidLaws.{all-four, slots-pass, source-good, kind-good, formed, settings-valid}
use Rattle.saved.proofs.Forms.{each_in}
use Rattle.saved.specs.Record.{encode, record_of, width_of, load_number, loaded}
use Rattle.saved.proofs.Records.{load-powers, loaded-valid, loaded-cells}
use Rattle.convert.specs.Convert.{cells_of, cells_held, connectors_held, other_width, is_blank, reads_above, slots_below, source_below, above_small}
use Rattle.convert.specs.Convert.{other_form}

-- ---- tests

not-not : (b : Bool) → not (not b) ≡ b
not-not true = refl
not-not false = refl

-- two tests that agree wherever a third one holds
every-agree : {A : Type 0} (f g h : A → Bool) → ((x : A) → f x ≡ true → g x ≡ h x) → (l : List A) → every f l ≡ true → every g l ≡ every h l
unfolding every
every-agree f g h same [] e = refl
every-agree f g h same (x ∷ xs) e =
    ap₂ (λ (a b : Bool). a && b) (same x (and_left (f x) (every f xs) e)) (every-agree f g h same xs (and_right (f x) (every f xs) e))

-- the first entries after some others
drop-take : {A : Type 0} (k j : ℕ) (l : List A) → drop k (take (k + j) l) ≡ take j (drop k l)
drop-take zero j l = ap (λ (i : ℕ). take i l) (zero-add j)
drop-take (suc k) j [] = ap (λ (i : ℕ). drop (suc k) (take i [])) (suc-add k j) ∙ sym (take_all j [] zero-le)
drop-take (suc k) j (x ∷ xs) = ap (λ (i : ℕ). drop (suc k) (take i (x ∷ xs))) (suc-add k j) ∙ drop-take k j xs

pub drop-taken : {A : Type 0} (k m : ℕ) (l : List A) → k ≤ m → drop k (take m l) ≡ take (m - k) (drop k l)
drop-taken k m l h =
    let sum : m ≡ k + (m - k) = omega arith in
    ap (λ (i : ℕ). drop k (take i l)) sum ∙ drop-take k (m - k) l

module _ (e x y z w : Bool) where
  as_before : x ≡ y → z ≡ false → (e || (x || w)) ≡ ((e || (y || w)) && not z)
  as_before same none =
      ap (λ (q : Bool). e || (q || w)) same ∙ sym (ap (λ (q : Bool). (e || (y || w)) && not q) none ∙ and-true (e || (y || w)))

  no_more : e ≡ false → x ≡ false → w ≡ false → z ≡ true → (e || (x || w)) ≡ ((e || (y || w)) && not z)
  no_more none neither nor one =
      (λ i. none i || (neither i || nor i)) ∙ sym (ap (λ (q : Bool). (e || (y || w)) && not q) one ∙ and-false (e || (y || w)))

-- ---- addresses

module _ (n m : ℕ) (few : n ≤ m) (most : m ≤ cell_room) where
  -- the bases of n cells are those of m without the cells above n
  base-below : (b : ℕ) → permitted_base n b ≡ (permitted_base m b && not (among (first_cell + n) (m - n) b))
  unfolding permitted_base
  base-below b = go (dec_lt n b) (dec_lt m b) (dec_lt 0 b)
    where
      x : Bool
      x = among first_cell n b

      y : Bool
      y = among first_cell m b

      z : Bool
      z = among (first_cell + n) (m - n) b

      w : Bool
      w = among first_connector connector_count b

      go : Dec (n < b) → Dec (m < b) → Dec (0 < b) → (eqb b 0 || (x || w)) ≡ ((eqb b 0 || (y || w)) && not z)
      go (no h) _ (yes k) =
          as_before (eqb b 0) x y z w (among_in first_cell n b (omega arith) (omega arith) ∙ sym (among_in first_cell m b (omega arith) (omega arith)))
          (among_below (first_cell + n) (m - n) b (omega arith))
      go (no h) _ (no k) =
          as_before (eqb b 0) x y z w (among_below first_cell n b (omega arith) ∙ sym (among_below first_cell m b (omega arith)))
          (among_below (first_cell + n) (m - n) b (omega arith))
      go (yes h) (no k) _ =
          no_more (eqb b 0) x y z w (ne_eqb b 0 (λ e. omega arith)) (among-above first_cell n b (omega arith))
          (among_below first_connector connector_count b (omega arith)) (among_in (first_cell + n) (m - n) b (omega arith) (omega arith))
      go (yes h) (yes k) _ =
          as_before (eqb b 0) x y z w (among-above first_cell n b (omega arith) ∙ sym (among-above first_cell m b (omega arith)))
          (among-above (first_cell + n) (m - n) b (omega arith))

  address_below : (a : ℕ) → bad_address m a ≡ false → bad_address n a ≡ reads_above n m a
  unfolding bad_address reads_above
  address_below a good =
      let b : ℕ = base_of a in
      let z : Bool = among (first_cell + n) (m - n) b in
      let there = not-false (permitted_base m b) (or_right (ltb largest_address a) (not (permitted_base m b)) good) in
      let below : permitted_base n b ≡ not z = base-below b ∙ ap (λ (q : Bool). q && not z) there in
      (λ i. or_left (ltb largest_address a) (not (permitted_base m b)) good i || not (below i)) ∙ not-not z

  -- ---- cells and connectors

  slot-below : (used edge : Bool) (a : ℕ) → valid_slot m used edge a ≡ true → valid_slot n used edge a ≡ not (reads_above n m a)
  unfolding valid_slot reads_above
  slot-below true edge a ok =
      let rest : Bool = not edge || is_edge a in
      let good = not-true (bad_address m a) (and_left (not (bad_address m a)) rest ok) in
      (λ i. not (address_below a good i) && and_right (not (bad_address m a)) rest ok i) ∙ and-true (not (reads_above n m a))
  slot-below false edge a ok = ok ∙ sym (ap (λ (k : ℕ). not (reads_above n m k)) (eqb-true a 0 ok) ∙ ap not none)
    where
      none : reads_above n m 0 ≡ false
      none = among_below (first_cell + n) (m - n) 0 (omega arith)

  cell_below : (cell : Cell) → valid_cell m cell ≡ true → valid_cell n cell ≡ slots_below n m cell
  unfolding valid_cell valid_slots slots_below every
  cell_below cell ok =
      let row = row_of cell.kind in
      let s = cell.slots in
      let q : ℕ → Bool = λ i. not (reads_above n m (get_or s i 0)) in
      let head = and_left (not (bad_cell_type cell.kind) && leb cell.config (unwrap_or row.largest 0)) (valid_slots m row s) ok in
      let pass = all-four _ _ _ _ (and_right (eqb (length s) 4) _ (slots-pass m cell ok)) in
      let x = slot-below row.used.x row.edge.x (get_or s 0 0) pass.0 in
      let y = slot-below row.used.y row.edge.y (get_or s 1 0) pass.1 in
      let z = slot-below row.used.z row.edge.z (get_or s 2 0) pass.2 in
      let f = slot-below row.used.f row.edge.f (get_or s 3 0) pass.3 in
      (λ i. head i && (eq-eqb (length s) 4 (cell-slots m cell ok) i && ((x i && y i) && (z i && f i))))
      ∙ and_assoc (q 0) (q 1) (q 2 && q 3)
      ∙ ap (λ (t : Bool). q 0 && (q 1 && (q 2 && t))) (sym (and-true (q 3)))
      ∙ ap (every (λ (a : ℕ). not (reads_above n m a))) (four s (cell-slots m cell ok))

  connector-below : (k : Connector) → valid_connector m k ≡ true → valid_connector n k ≡ source_below n m k
  unfolding valid_connector source_below
  connector-below k ok = λ i. not (kind-good m k ok i) && not (address_below k.source (source-good m k ok) i)

  -- ---- settings

  valid-below : (trigger : ℕ) (cells : List Cell) (connectors : List Connector) → valid m trigger cells connectors ≡ true
      → valid n trigger cells connectors ≡ (every (slots_below n m) (take n cells) && every (source_below n m) connectors)
  unfolding valid
  valid-below trigger cells connectors ok =
      let s = split m trigger cells connectors ok in
      let room = taken-room m cells s.cell-count in
      let first = first-pass (valid_cell m) n cells no_cell (omega arith)
      (λ i h. first-at (valid_cell m) m cells i no_cell s.cells-pass s.cell-count (omega arith)) in
      let count = eq-eqb (length (take n cells)) n (length-take-le n cells (omega arith)) in
      let others = eq-eqb (length connectors) connector_count s.connector-count in
      let pass = every-agree (valid_cell m) (valid_cell n) (slots_below n m) cell_below (take n cells) first in
      let too = every-agree (valid_connector m) (valid_connector n) (source_below n m) connector-below connectors s.connectors-pass in
      λ i. ((not (s.clock i) && not (s.front i)) && (count i && others i)) && (pass i && too i)

-- ---- 18

module _ (n : ℕ) (bytes : List ℕ) (d : Card) (few : n ≤ cells_of n bytes) (most : cells_of n bytes ≤ cell_room) (ok : load_number (cells_of n bytes) bytes ≡ 0) where
  m : ℕ
  m = cells_of n bytes

  c : Card
  c = loaded (cells_of n bytes) d bytes

  -- the first n of the cells that the record holds
  pub held_first : take n (loaded (cells_of n bytes) d bytes).cells ≡ take n (cells_held n bytes)
  held_first =
      sym (take-take n (cells_of n bytes) (loaded (cells_of n bytes) d bytes).cells few) ∙ ap (take n) (loaded-cells (cells_of n bytes) d bytes ok)

  pub held-connectors : each (loaded (cells_of n bytes) d bytes).connectors ≡ connectors_held n bytes
  unfolding load_number
  held-connectors =
      ap (λ (x : Card). each x.connectors) (load-powers (cells_of n bytes) d bytes ok)
      ∙ each_in (cells_of n bytes) (width_of (cells_of n bytes) bytes) bytes ok

  -- "where the small card can hold it"
  pub above-is : let l = loaded (cells_of n bytes) d bytes in
      above_small n bytes
      ≡ (not (every is_blank (drop n (take (cells_of n bytes) l.cells))) || not (valid n l.trigger l.cells (each l.connectors)))
  unfolding m c above_small
  above-is =
      let pass = settings-valid m c (loaded-valid m d bytes ok) in
      let below = valid-below n m few most c.trigger c.cells (each c.connectors) pass in
      let reads =
      ap₂ (λ (l : List Cell) (k : List Connector). every (slots_below n m) l && every (source_below n m) k) held_first held-connectors in
      ap₂ (λ (l : List Cell) (q : Bool). not (every is_blank (drop n l)) || not q) (sym (loaded-cells m d bytes ok)) (sym (below ∙ reads))

  -- said of the card
  pub above-card : above_small n bytes
      ≡ (not (every is_blank (drop n (take (cells_of n bytes) (loaded (cells_of n bytes) d bytes).cells)))
      || not (valid_card n (loaded (cells_of n bytes) d bytes)))
  unfolding m c valid_card
  above-card =
      let v = valid n c.trigger c.cells (each c.connectors) in
      let whole = ap (λ (b : Bool). b && v) (formed m c (loaded-valid m d bytes ok)) in
      above-is ∙ ap (λ (q : Bool). not (every is_blank (drop n (take m c.cells))) || not q) (sym whole)

  -- what a save of that card in the form of the result writes
  pub held-form : (width : ℕ) → width ≡ other_width n bytes → record_of n width (loaded (cells_of n bytes) d bytes) ≡ other_form n bytes
  unfolding record_of other_form
  held-form width e =
      let trigger = ap (λ (x : Card). x.trigger) (load-powers (cells_of n bytes) d bytes ok) in
      λ i. encode (e i) (trigger i) (held_first i) (held-connectors i)
