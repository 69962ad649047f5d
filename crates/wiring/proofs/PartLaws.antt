-- Laws of a wiring written part by part: the parts of a line, of the slots, of a cell and of a connector make the texts of the definition, and a loop
-- over a list writes the texts of its commands.
use Rattle.std.specs.Prelude.{is_some}
use Prim.Native.Nat.{ℕ, suc, ◌+◌, ◌*◌, ◌≤◌, ◌<◌, zero-le}
use mathlib.Core.Path.{◌≡◌, refl, sym, ap, ap₂, ◌∙◌}
use mathlib.Core.Bool.{Bool, true, false}
use mathlib.Core.List.{List, [], ◌∷◌, ◌++◌, append_assoc, append-nil}
use native.Mathlib.Nat.{add-zero, add-mul}
use native.Mathlib.Numerals.{add-one}
use native.Mathlib.Omega.{arith}
use lib.ListN.{length, get_or, take}
use lib.Seq.{sets, take-suc, length-take-le}
use Rattle.text.specs.Decimal.{decimal}
pub use Rattle.text.proofs.Stores.{Placed, placed-then, placed-as}
use Rattle.cells.specs.declared.cell.Cell.{Cell}
use Rattle.cells.specs.declared.table.Slots.{Slots}
use Rattle.cells.specs.Table.{row_of, any_slot}
use Rattle.card.specs.Connectors.{each}
use Rattle.card.specs.declared.card.Card.{Card}
use Rattle.card.specs.declared.card.Connector.{Connector}
use Rattle.card.specs.Address.{first_cell, first_connector}
use Rattle.grammar.specs.declared.grammar.Command.{Command}
use Rattle.grammar.specs.declared.grammar.Command.TheVariants.{Trigger, SetConfig, SetSlots}
use Rattle.grammar.specs.declared.grammar.Slot.{Slot}
use Rattle.grammar.specs.declared.grammar.Slot.TheVariants.{X, Y, Z, F}
use Rattle.grammar.specs.Grammar.{blank, equals, CCA, CCB, M-E=, PM-E=}
use Rattle.wiring.specs.Wiring.{only, slot_in, pairs_in, cell_commands, connector_commands, commands_from, wiring}
use Rattle.grammar.specs.Texts.{letter_of, card_line, given_pair, given_pairs, pairs_text, command_text}
use Rattle.wiring.specs.Parts.{line_feed, lines_text, commands_text, part, slots_text}
use Rattle.wiring.specs.Print.{wiring_text}

-- ---- the parts of a line

-- the ending of a line
abbrev pub LF : List ℕ
LF = line_feed ∷ []

-- `36CCA p=`
abbrev pub cca : Slot → List ℕ
cca s = card_line (CCA ++ letter_of s ∷ equals ∷ [])

-- a blank and `p=`
abbrev pub pair : Slot → List ℕ
pair s = blank ∷ letter_of s ∷ equals ∷ []

pub commands-append : (a b : List Command) → commands_text (a ++ b) ≡ commands_text a ++ commands_text b
unfolding commands_text lines_text
commands-append [] b = refl
commands-append (c ∷ cs) b =
    ap (λ (r : List ℕ). command_text c ++ (line_feed ∷ r)) (commands-append cs b)
    ∙ sym (append_assoc (command_text c) (line_feed ∷ commands_text cs) (commands_text b))

config-part : (test : Bool) (v : ℕ) → commands_text (only test (SetConfig v)) ≡ part test (cca Z) v LF
unfolding commands_text lines_text command_text part
config-part true v = refl
config-part false v = refl

trigger-part : (v : ℕ) → commands_text (Trigger v ∷ []) ≡ part true PM-E= v LF
unfolding commands_text lines_text command_text part
trigger-part v = refl

pairs-append : (a b : List (Slot × ℕ)) → pairs_text (a ++ b) ≡ pairs_text a ++ pairs_text b
unfolding pairs_text
pairs-append [] b = refl
pairs-append (q ∷ qs) b =
    ap (λ (r : List ℕ). pair q.0 ++ (decimal q.1 ++ r)) (pairs-append qs b)
    ∙ ap (λ (r : List ℕ). pair q.0 ++ r) (sym (append_assoc (decimal q.1) (pairs_text qs) (pairs_text b)))

pair-part : (used : Bool) (s : Slot) (v : ℕ) → pairs_text (given_pair s (slot_in used v)) ≡ part used (pair s) v []
unfolding pairs_text part
pair-part true s v = refl
pair-part false s v = refl

-- a word, four parts and an ending
six-parts : (w x y z f e : List ℕ) → ((((w ++ x) ++ y) ++ z) ++ f) ++ e ≡ w ++ ((x ++ (y ++ (z ++ f))) ++ e)
six-parts w x y z f e = simp append_assoc

-- ---- a cell

module _ (cell : Cell) where
  -- the line of the slots, where there are any; the code holds the set of those that are used, and the addresses
  module _ (used : Slots) (known : used ≡ (row_of cell.kind).used) where
    pub no-slots : any_slot used ≡ false → [] ≡ slots_text cell
    unfolding slots_text commands_text lines_text
    no-slots e = rw (sym (ap any_slot known) ∙ e)

    pub slot-parts : (x y z f : ℕ) → x ≡ get_or cell.slots 0 0 → y ≡ get_or cell.slots 1 0 → z ≡ get_or cell.slots 2 0 → f ≡ get_or cell.slots 3 0
        → any_slot used ≡ true
        → ((((card_line CCB ++ part used.x (pair X) x []) ++ part used.y (pair Y) y []) ++ part used.z (pair Z) z [])
        ++ part used.f (pair F) f [])
        ++ LF
        ≡ slots_text cell
    unfolding slots_text commands_text lines_text command_text
    slot-parts x y z f ex ey ez ef e =
        let p = pairs_in cell in
        let g = (row_of cell.kind).used in
        let s = cell.slots in
        let all : pairs_text (given_pairs p)
        ≡ part g.x (pair X) (get_or s 0 0) [] ++ (part g.y (pair Y) (get_or s 1 0) [] ++ (part g.z (pair Z) (get_or s 2 0) [] ++ part g.f (pair F) (get_or s 3 0) [])) =
        pairs-append (given_pair X p.x) _ ∙ ap₂ ◌++◌ (pair-part g.x X _)
        (pairs-append (given_pair Y p.y) _ ∙ ap₂ ◌++◌ (pair-part g.y Y _)
        (pairs-append (given_pair Z p.z) _ ∙ ap₂ ◌++◌ (pair-part g.z Z _) (pair-part g.f F _))) in
        let one : List ℕ → List ℕ = λ pairs. card_line CCB ++ (pairs ++ LF) in
        rw (ex, ey, ez, ef, known, sym (ap any_slot known) ∙ e) (
        six-parts (card_line CCB) (part g.x (pair X) (get_or s 0 0) []) (part g.y (pair Y) (get_or s 1 0) []) (part g.z (pair Z) (get_or s 2 0) [])
        (part g.f (pair F) (get_or s 3 0) []) LF
        ∙ ap one (sym all)
        )

  optional-parts : commands_text
      (only (is_some (row_of cell.kind).largest) (SetConfig cell.config) ++ only (any_slot (row_of cell.kind).used) (SetSlots (pairs_in cell)))
      ≡ part (is_some (row_of cell.kind).largest) (cca Z) cell.config LF ++ slots_text cell
  unfolding slots_text
  optional-parts =
      commands-append (only (is_some (row_of cell.kind).largest) (SetConfig cell.config)) _
      ∙ ap (λ (t : List ℕ). t ++ slots_text cell) (config-part (is_some (row_of cell.kind).largest) cell.config)

  pub cell_parts : (i : ℕ)
      → ((part true M-E= (first_cell + i) LF ++ part true (cca Y) cell.kind LF) ++ part (is_some (row_of cell.kind).largest) (cca Z) cell.config LF)
      ++ slots_text cell
      ≡ commands_text (cell_commands i cell)
  unfolding part cell_commands commands_text lines_text command_text
  cell_parts i =
      let text : List ℕ → List ℕ = λ rest. (M-E= ++ decimal (first_cell + i)) ++ (line_feed ∷ ((cca Y ++ decimal cell.kind) ++ (line_feed ∷ rest))) in
      simp append_assoc (ap text (sym optional-parts))

-- ---- a connector

pub connector-parts : (k : ℕ) (c : Connector)
    → (part true M-E= (first_connector + k) LF ++ part true (cca Y) c.kind LF) ++ part true (cca Z) c.source LF ≡ commands_text (connector_commands k c)
unfolding part connector_commands commands_text lines_text command_text
connector-parts k c = simp append_assoc

-- ---- a list of cells or connectors

module _ {A : Type 0} (f : ℕ → A → List Command) where
  commands-snoc : (s : ℕ) (l : List A) (x : A) → commands_from f s (l ++ (x ∷ [])) ≡ commands_from f s l ++ f (s + length l) x
  unfolding commands_from
  commands-snoc s [] x = append-nil (f s x) ∙ ap (λ (k : ℕ). f k x) (sym (add-zero s))
  commands-snoc s (y ∷ ys) x =
      let e : suc s + length ys ≡ s + suc (length ys) = omega arith in
      ap (λ (r : List Command). f s y ++ r) (commands-snoc (suc s) ys x ∙ ap (λ (k : ℕ). commands_from f (suc s) ys ++ f k x) e)
      ∙ sym (append_assoc (f s y) (commands_from f (suc s) ys) (f (s + suc (length ys)) x))

  -- the commands of the first i entries, and those of the next one
  commands-next : (l : List A) (i : ℕ) (d : A) → i < length l
      → commands_from f 0 (take i l) ++ f i (get_or l i d) ≡ commands_from f 0 (take (i + 1) l)
  commands-next l i d h =
      let n : 0 + length (take i l) ≡ i = omega (arith, length-take-le i l (omega arith)) in
      sym (rw (add-one i, take-suc l i d h)
      (commands-snoc 0 (take i l) (get_or l i d) ∙ ap (λ (k : ℕ). commands_from f 0 (take i l) ++ f k (get_or l i d)) n))

  -- a loop writes the lines of a list from p on, at most so many bytes for an entry: after i turns those of the first i entries, of count
  pub record Written (p most count : ℕ) (l : List A) (out₀ out : List ℕ) (at i : ℕ) : Type 0 where
    pub turns : i ≤ count
    pub placed : Placed out₀ p out (commands_text (commands_from f 0 (take i l))) at
    pub within : at ≤ p + i * most

  module _ {p most count : ℕ} {l : List A} {out₀ : List ℕ} where
    pub written_none : Written p most count l out₀ out₀ p 0
    unfolding commands_text lines_text commands_from
    written_none = record { turns = zero-le; placed = record { bytes = refl; at-end = sym (add-zero p) }; within = omega arith }

    pub written_next : {out after : List ℕ} {at end i : ℕ} (d : A) → Written p most count l out₀ out at i → i < count → i < length l
        → after ≡ sets out at (commands_text (f i (get_or l i d))) → end ≡ at + length (commands_text (f i (get_or l i d))) → end ≤ at + most
        → Written p most count l out₀ after end (i + 1)
    written_next {i = i} d w more inside stored next few =
        let text = commands-append (commands_from f 0 (take i l)) (f i (get_or l i d)) in
        record {
          turns = omega arith;
          placed = placed-as (sym text ∙ ap commands_text (commands-next l i d inside)) (placed-then w.placed (commands_text (f i (get_or l i d))) stored next);
          within = omega (arith, w.within, add-mul i 1 most);
        }

-- ---- a card

pub wiring-parts : (n : ℕ) (c : Card)
    → (commands_text (commands_from cell_commands 0 (take n c.cells)) ++ commands_text (commands_from connector_commands 0 (each c.connectors)))
    ++ part true PM-E= c.trigger LF
    ≡ wiring_text n c
unfolding wiring_text wiring
wiring-parts n c =
    let cells = commands_from cell_commands 0 (take n c.cells) in
    let connectors = commands_from connector_commands 0 (each c.connectors) in
    append_assoc (commands_text cells) (commands_text connectors) (part true PM-E= c.trigger LF)
    ∙ ap (λ (t : List ℕ). commands_text cells ++ (commands_text connectors ++ t)) (sym (trigger-part c.trigger))
    ∙ ap (λ (t : List ℕ). commands_text cells ++ t) (sym (commands-append connectors (Trigger c.trigger ∷ [])))
    ∙ sym (commands-append cells (connectors ++ (Trigger c.trigger ∷ [])))
