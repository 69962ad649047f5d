-- Laws of settings: a test of every entry of a list, as a loop makes it, at one entry, and after a change; and what valid settings are.
use Rattle.std.specs.Prelude.{unwrap_or}
use Rattle.std.specs.List.{list_all}
use Rattle.std.proofs.Common.{◌≡◌, ℕ, zero, suc, ◌+◌, ◌<◌, ◌≤◌, Bool, true, false, not, ◌&&◌, eqb, leb, List, [], ◌∷◌, ◌++◌, map, length, get_or, take, set, replicate, sym, refl, ap, ◌∙◌, ap₂, zero-le, le_trans, le_of_suc-le-suc, not-suc-le-zero, lt-suc_self, add-one, arith, get_or-take, take-suc, eq-eqb, eqb-true, leb-true}
use mathlib.Core.Bool.{and-true}
use lib.ListN.{length-map}
use borrow.Author.Tests.{not-true}
use Rattle.words.specs.Listed.{listed}
use Rattle.text.proofs.DigitLaws.{every_append, every-at}
use Rattle.cells.specs.declared.cell.Cell.{Cell}
use Rattle.cells.specs.declared.table.Row.{Row}
use Rattle.cells.specs.Table.{largest_config, row_of}
use Rattle.cells.proofs.Rows.{every-row}
use Rattle.words.proofs.Bools.{and_left, and_right}
use Rattle.card.specs.declared.card.Connector.{Connector}
use Rattle.card.specs.Address.{connector_count}
use Rattle.card.specs.Connectors.{no_connector}
use Rattle.card.specs.Edits.{cleared_cell}
use Rattle.text.specs.Digits.{every}
use Rattle.card.specs.Valid.{bad_clock, bad_cell_type, front_driven, valid_slots, valid_cell, valid_connector, valid}

module _ {A : Type 0} (f : A → Bool) where
  pub every-snoc : (l : List A) (x : A) → every f (l ++ (x ∷ [])) ≡ (every f l && f x)
  unfolding every
  every-snoc l x = every_append f l (x ∷ []) ∙ ap (λ (b : Bool). every f l && b) (and-true (f x))

  -- a loop tests the entries in order: after i turns the first i, of count
  abbrev pub Tested : (count : ℕ) → List A → Bool → ℕ → Type 0
  Tested count l ok i = (i ≤ count) × (ok ≡ every f (take i l))

  pub tested-next : (count i : ℕ) (l : List A) (d : A) (ok v : Bool) → Tested count l ok i → i < count → i < length l → v ≡ f (get_or l i d)
      → Tested count l (ok && v) (i + 1)
  tested-next count i l d ok v so_far h inside e = (
    omega arith,
    ap₂ (λ (x y : Bool). x && y) so_far.1 e ∙ sym (rw (add-one i, take-suc l i d inside) (every-snoc (take i l) (get_or l i d))),
  )

  -- entries changed in nothing that the test looks at
  pub every_map : (g : A → A) → ((x : A) → f (g x) ≡ f x) → (l : List A) → every f (map g l) ≡ every f l
  unfolding every
  every_map g same [] = refl
  every_map g same (x ∷ xs) = rw (same x, every_map g same xs)

  -- one entry replaced by another that passes
  pub every_set : (l : List A) (i : ℕ) (x : A) → every f l ≡ true → f x ≡ true → every f (set l i x) ≡ true
  unfolding every
  every_set [] i x e h = refl
  every_set (y ∷ ys) zero x e h = rw h (and_right (f y) (every f ys) e)
  every_set (y ∷ ys) (suc i) x e h = rw (and_left (f y) (every f ys) e) (every_set ys i x (and_right (f y) (every f ys) e) h)

  -- the first n entries pass where each of them does
  pub first-at : (n : ℕ) (l : List A) (i : ℕ) (d : A) → every f (take n l) ≡ true → length (take n l) ≡ n → i < n → f (get_or l i d) ≡ true
  first-at n l i d e long h = ap f (sym (get_or-take n l i d h)) ∙ every-at f (take n l) i d e (rw long h)

  pub first-pass : (n : ℕ) (l : List A) (d : A) → n ≤ length l → ((i : ℕ) → i < n → f (get_or l i d) ≡ true) → every f (take n l) ≡ true
  unfolding every
  first-pass zero l d room h = refl
  first-pass (suc n) [] d room h = absurd (not-suc-le-zero room)
  first-pass (suc n) (x ∷ xs) d room h = rw (h 0 (omega arith)) (first-pass n xs d (le_of_suc-le-suc room) (λ i k. h (suc i) (omega arith)))

  -- a list of one entry
  pub every-replicate : (n : ℕ) (x : A) → f x ≡ true → every f (replicate n x) ≡ true
  unfolding every
  every-replicate zero x h = refl
  every-replicate (suc n) x h = rw (h, every-replicate n x h)

  -- a list given entry by entry
  pub every-listed : (g : ℕ → A) (n : ℕ) → ((i : ℕ) → i < n → f (g i) ≡ true) → every f (listed g n) ≡ true
  unfolding every listed
  every-listed g zero h = refl
  every-listed g (suc n) h =
      every-snoc (listed g n) (g n) ∙ rw (every-listed g n (λ i k. h i (omega arith)), h n (lt-suc_self n))

-- a list of which n entries can be taken has n
pub taken-room : {A : Type 0} (n : ℕ) (l : List A) → length (take n l) ≡ n → n ≤ length l
taken-room zero l e = zero-le
taken-room (suc n) [] e = absurd (omega arith)
taken-room (suc n) (x ∷ xs) e =
    let rest = taken-room n xs (omega arith) in
    omega arith

-- ---- what valid settings are

-- the six tests of `valid`, by name
pub record Sound (n trigger : ℕ) (cells : List Cell) (connectors : List Connector) : Type 0 where
  pub clock : bad_clock trigger ≡ false
  pub front : front_driven trigger (get_or connectors 0 no_connector).kind ≡ false
  pub cell-count : length (take n cells) ≡ n
  pub connector-count : length connectors ≡ connector_count
  pub cells-pass : every (valid_cell n) (take n cells) ≡ true
  pub connectors-pass : every (valid_connector n) connectors ≡ true

module _ (n trigger : ℕ) (cells : List Cell) (connectors : List Connector) where
  pub split : valid n trigger cells connectors ≡ true → Sound n trigger cells connectors
  unfolding valid
  split ok =
      let clock = not (bad_clock trigger) in
      let front = not (front_driven trigger (get_or connectors 0 no_connector).kind) in
      let count = eqb (length (take n cells)) n in
      let others = eqb (length connectors) connector_count in
      let pass = every (valid_cell n) (take n cells) in
      let too = every (valid_connector n) connectors in
      let first = and_left ((clock && front) && (count && others)) (pass && too) ok in
      let last = and_right ((clock && front) && (count && others)) (pass && too) ok in
      let numbers = and_left (clock && front) (count && others) first in
      let counts = and_right (clock && front) (count && others) first in
      record {
        clock = not-true _ (and_left clock front numbers);
        front = not-true _ (and_right clock front numbers);
        cell-count = eqb-true (length (take n cells)) n (and_left count others counts);
        connector-count = eqb-true (length connectors) connector_count (and_right count others counts);
        cells-pass = and_left pass too last;
        connectors-pass = and_right pass too last;
      }

  pub join : Sound n trigger cells connectors → valid n trigger cells connectors ≡ true
  unfolding valid
  join s =
      rw (
        s.clock,
        s.front,
        eq-eqb (length (take n cells)) n s.cell-count,
        eq-eqb (length connectors) connector_count s.connector-count,
        s.cells-pass,
        s.connectors-pass,
      )

-- a test of every entry, by the library's word for it
pub every-all : {A : Type 0} (f : A → Bool) (xs : List A) → list_all f xs ≡ every f xs
unfolding every
every-all f [] = refl
every-all f (x ∷ xs) = ap (λ (b : Bool). f x && b) (every-all f xs)

-- ---- what valid settings have

-- no type allows more than the largest configuration
pub largest-fits : (kind : ℕ) → unwrap_or (row_of kind).largest 0 ≤ largest_config
largest-fits kind =
    leb-true (unwrap_or (row_of kind).largest 0) largest_config (every-row (λ (r : Row). leb (unwrap_or r.largest 0) largest_config) refl kind)

module _ (n : ℕ) (cell : Cell) (ok : valid_cell n cell ≡ true) where
  pub cell-slots : length cell.slots ≡ 4
  unfolding valid_cell valid_slots
  cell-slots =
      eqb-true (length cell.slots) 4
      (and_left (eqb (length cell.slots) 4) _
      (and_right (not (bad_cell_type cell.kind) && leb cell.config (unwrap_or (row_of cell.kind).largest 0)) (valid_slots n (row_of cell.kind) cell.slots) ok))

  pub config-most : cell.config ≤ unwrap_or (row_of cell.kind).largest 0
  unfolding valid_cell
  config-most =
      let limit = leb cell.config (unwrap_or (row_of cell.kind).largest 0) in
      let known = not (bad_cell_type cell.kind) in
      leb-true cell.config (unwrap_or (row_of cell.kind).largest 0)
      (and_right known limit (and_left (known && limit) (valid_slots n (row_of cell.kind) cell.slots) ok))

  pub cell-config : cell.config ≤ largest_config
  cell-config = le_trans config-most (largest-fits cell.kind)

-- validity says nothing of states
pub valid-cleared : (n trigger : ℕ) (cells before : List Cell) (connectors : List Connector) → take n cells ≡ map cleared_cell (take n before)
    → valid n trigger cells connectors ≡ valid n trigger before connectors
unfolding valid valid_cell
valid-cleared n trigger cells before connectors e =
    rw (e, length-map (take n before) cleared_cell, every_map (valid_cell n) cleared_cell (λ x. refl) (take n before))

-- nor of the cells after the first n
pub valid-first : (n trigger : ℕ) (cells others : List Cell) (connectors : List Connector) → take n cells ≡ take n others
    → valid n trigger cells connectors ≡ valid n trigger others connectors
unfolding valid
valid-first n trigger cells others connectors e = rw e
