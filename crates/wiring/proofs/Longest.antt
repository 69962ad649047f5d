-- The text of a card that lines can set is no longer than the longest: a bound for each part, over the lists of cells and connectors.
use Rattle.std.specs.Prelude.{is_some}
use Prim.Native.Nat.{ℕ, suc, ◌+◌, ◌^◌, ◌≤◌, ◌<◌}
use mathlib.Core.Path.{◌≡◌, refl, sym, ap, ◌∙◌}
use mathlib.Core.Bool.{Bool, true, false}
use mathlib.Core.List.{List, [], ◌∷◌, ◌++◌}
use native.Mathlib.Omega.{arith}
use lib.Dec.{lit≤}
use lib.ListN.{length, get_or, take, length-append}
use borrow.Author.Tests.{le-ltb}
use Rattle.text.specs.Decimal.{decimal}
use Rattle.text.proofs.DecimalLaws.{decimal-length}
use Rattle.cells.specs.declared.cell.Cell.{Cell}
use Rattle.cells.specs.Table.{row_of, any_slot}
use Rattle.words.proofs.Bools.{and_left, and_right}
use Rattle.card.specs.Connectors.{each}
use Rattle.card.specs.declared.card.Card.{Card}
use Rattle.card.specs.declared.card.Connector.{Connector}
use Rattle.card.specs.Address.{connector_count, first_cell, first_connector}
use Rattle.text.specs.Digits.{every}
use Rattle.card.specs.Valid.{valid_cell, valid_connector, valid_card}
use Rattle.card.proofs.Bounds.{clock-most, kind-most, connector-kind-most}
use Rattle.card.proofs.Settings.{split, cell-config}
use Rattle.card.proofs.ValidLaws.{kind-known, kind-good, source-good, settings-valid}
use Rattle.card.proofs.WriteLaws.{slots-each, slot-most, address-most}
use Rattle.grammar.specs.declared.grammar.Command.{Command}
use Rattle.grammar.specs.declared.grammar.Slot.TheVariants.{X, Y, Z, F}
use Rattle.grammar.specs.Grammar.{M-E=, PM-E=}
use Rattle.wiring.specs.Wiring.{cell_commands, connector_commands, commands_from}
use Rattle.wiring.specs.Parts.{commands_text, lines_text, part, slots_text}
use Rattle.wiring.specs.Print.{wiring_text}
use Rattle.wiring.specs.Longest.{type_digits, config_digits, address_digits, one_digit, ccb_line, cell_lines, connector_lines, places, longest, Longest}
use Rattle.wiring.proofs.PartLaws.{LF, cca, pair, no-slots, slot-parts, cell_parts, connector-parts, commands-append, wiring-parts}

-- ---- parts

-- a number of k digits at most, after its word
part-most : (given : Bool) (w : List ℕ) (v : ℕ) (e : List ℕ) (k : ℕ) → 1 ≤ k → v < 10 ^ k → length (part given w v e) ≤ length w + (k + length e)
unfolding part
part-most true w v e k low h =
    let few = decimal-length v k low h in
    let long = length-append w (decimal v ++ e) in
    let more = length-append (decimal v) e in
    omega arith
part-most false w v e k low h = omega arith

part-size : (w : List ℕ) (v : ℕ) (e : List ℕ) → length (part true w v e) ≡ length w + (length (decimal v) + length e)
unfolding part
part-size w v e = length-append w (decimal v ++ e) ∙ ap (λ (k : ℕ). length w + k) (length-append (decimal v) e)

-- ---- a cell

module _ (n : ℕ) (cell : Cell) (ok : valid_cell n cell ≡ true) where
  slots-most : length (slots_text cell) ≤ ccb_line
  slots-most = go (any_slot (row_of cell.kind).used) refl
    where
      go : (b : Bool) → any_slot (row_of cell.kind).used ≡ b → length (slots_text cell) ≤ ccb_line
      go false e = rw (sym (no-slots cell (row_of cell.kind).used refl e)) (lit≤ tt)
      go true e =
          let u = (row_of cell.kind).used in
          let g = (row_of cell.kind).edge in
          let s = cell.slots in
          let each = slots-each n cell ok in
          let mx = slot-most n u.x g.x (get_or s 0 0) each.0 in
          let my = slot-most n u.y g.y (get_or s 1 0) each.1 in
          let mz = slot-most n u.z g.z (get_or s 2 0) each.2 in
          let mf = slot-most n u.f g.f (get_or s 3 0) each.3 in
          let x = part-most u.x (pair X) (get_or s 0 0) [] address_digits (lit≤ tt) (omega arith) in
          let y = part-most u.y (pair Y) (get_or s 1 0) [] address_digits (lit≤ tt) (omega arith) in
          let z = part-most u.z (pair Z) (get_or s 2 0) [] address_digits (lit≤ tt) (omega arith) in
          let f = part-most u.f (pair F) (get_or s 3 0) [] address_digits (lit≤ tt) (omega arith) in
          let text = slot-parts cell u refl (get_or s 0 0) (get_or s 1 0) (get_or s 2 0) (get_or s 3 0) refl refl refl refl e in
          rw (sym text) (simp length-append (omega arith))

  cell-most : (i : ℕ) → length (commands_text (cell_commands i cell)) ≤ (4 + (length (decimal (first_cell + i)) + 1)) + cell_lines
  cell-most i =
      let kind = kind-most cell.kind (kind-known n cell ok) in
      let config = cell-config n cell ok in
      let x = part-size M-E= (first_cell + i) LF in
      let y = part-most true (cca Y) cell.kind LF type_digits (lit≤ tt) (omega arith) in
      let z = part-most (is_some (row_of cell.kind).largest) (cca Z) cell.config LF config_digits (lit≤ tt) (omega arith) in
      let slots = slots-most in
      rw (sym (cell_parts cell i)) (simp length-append (omega arith))

-- ---- a connector

connector-most : (n k : ℕ) (c : Connector) → valid_connector n c ≡ true
    → length (commands_text (connector_commands k c)) ≤ (4 + (length (decimal (first_connector + k)) + 1)) + connector_lines
connector-most n k c ok =
    let kind = connector-kind-most c.kind (kind-good n c ok) in
    let source = address-most n c.source (source-good n c ok) in
    let x = part-size M-E= (first_connector + k) LF in
    let y = part-most true (cca Y) c.kind LF one_digit (lit≤ tt) (omega arith) in
    let z = part-most true (cca Z) c.source LF address_digits (lit≤ tt) (omega arith) in
    rw (sym (connector-parts k c)) (simp length-append (omega arith))

-- ---- lists

module _ {A : Type 0} (f : ℕ → A → List Command) (ok : A → Bool) (first each : ℕ)
    (most : (i : ℕ) (x : A) → ok x ≡ true → length (commands_text (f i x)) ≤ (4 + (length (decimal (first + i)) + 1)) + each) where
  list-most : (i : ℕ) (l : List A) → every ok l ≡ true → length (commands_text (commands_from f i l)) ≤ places first each i (length l)
  unfolding every commands_from places commands_text lines_text
  list-most i [] pass = lit≤ tt
  list-most i (x ∷ xs) pass =
      let here = most i x (and_left (ok x) (every ok xs) pass) in
      let rest = list-most (suc i) xs (and_right (ok x) (every ok xs) pass) in
      let long =
      ap length (commands-append (f i x) (commands_from f (suc i) xs)) ∙ length-append (commands_text (f i x)) (commands_text (commands_from f (suc i) xs)) in
      omega (arith, here, rest, long)

-- ---- a card

module _ (n : ℕ) (c : Card) (ok : valid_card n c ≡ true) where
  text-most : length (wiring_text n c) ≤ longest n
  unfolding longest
  text-most =
      let s = split n c.trigger c.cells (each c.connectors) (settings-valid n c ok) in
      let cells = list-most cell_commands (valid_cell n) first_cell cell_lines (λ i x pass. cell-most n x pass i) 0 (take n c.cells) s.cells-pass in
      let connectors = list-most connector_commands (valid_connector n) first_connector connector_lines (connector-most n) 0 (each c.connectors)
      s.connectors-pass in
      let front : length (commands_text (commands_from cell_commands 0 (take n c.cells))) ≤ places first_cell cell_lines 0 n = rw s.cell-count at cells in
      let back : length (commands_text (commands_from connector_commands 0 (each c.connectors))) ≤ places first_connector connector_lines 0 connector_count
      = rw s.connector-count at connectors in
      let clock = clock-most c.trigger s.clock in
      let last = part-most true PM-E= c.trigger LF one_digit (lit≤ tt) (omega arith) in
      rw (sym (wiring-parts n c)) (simp length-append (omega (arith, front, back, last)))

pub longest-text : (n : ℕ) → Longest n
longest-text n =
    record {
      most = text-most n;
      enough = λ c size ok room. rw (le-ltb size (length (wiring_text n c)) (omega (arith, text-most n c ok, room)));
    }
