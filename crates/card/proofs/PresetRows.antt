-- The constant tables of presets against document 01's: a test over a whole table gives each row, and past the table nothing is set.
use Rattle.std.proofs.Common.{◌≡◌, ℕ, ◌+◌, ◌<◌, ◌≤◌, Bool, true, false, cond, ◌&&◌, ◌||◌, eqb, ltb, List, [], ◌∷◌, get_or, sym, refl, ap, ◌∙◌, zero-le, arith, ltb-true, le-ltb, eq-eqb, ne_eqb}
use mathlib.Core.Bool.{false≢true, and-false}
use mathlib.Core.Option.{none, some}
use native.Mathlib.Decide.{ℕ_discrete}
use Rattle.words.specs.Bits.{bit_at}
use Rattle.words.specs.Listed.{listed}
use Rattle.words.proofs.Listed.{listed_at}
use Rattle.words.proofs.Bools.{and_left, and_right}
use Rattle.card.specs.Address.{cell_count, cell_room, cells_for, first_cell}
use Rattle.card.specs.Presets.{Entry, preset_table, is_large, large_preset, find, has, cells_of, setting_of, offered, preset_cell, preset_source}
use Rattle.card.specs.PresetRows.{source_rows, cell_rows, row_byte, source_under, covers, cell_under}
use Rattle.text.specs.Digits.{every}

-- two lists given entry by entry are the same, and so is each entry
pub listed-agree : {A : Type 0} (f g : ℕ → A) (n i : ℕ) → listed f n ≡ listed g n → i < n → f i ≡ g i
listed-agree f g n i e h = sym (listed_at f n i (f i) h) ∙ ap (λ (l : List _). get_or l i (f i)) e ∙ listed_at g n i (f i) h

-- a table that is read place by place: where all of it reads as it should, so does each row at each place
pub row_at : {B : Type 0} (read should : ℕ → ℕ → B) (rows places : ℕ)
    → listed (λ v. listed (read v) places) rows ≡ listed (λ v. listed (should v) places) rows
    → (v : ℕ) → v < rows → (i : ℕ) → i < places → read v i ≡ should v i
row_at read should rows places e v h i k =
    listed-agree (read v) (should v) places i (listed-agree (λ v. listed (read v) places) (λ v. listed (should v) places) rows v e h) k

-- ---- past the tables

-- no preset has a later number
numbered : Entry → Bool
numbered e = ltb e.0 source_rows

all-numbered : every numbered preset_table ≡ true
unfolding every numbered preset_table listed
all-numbered = refl

none-at : (l : List Entry) → every numbered l ≡ true → (v : ℕ) → source_rows ≤ v → find v l ≡ none
unfolding every numbered
none-at [] t v h = refl
none-at (e ∷ es) t v h =
    let l : e.0 < source_rows = ltb-true e.0 source_rows (and_left _ _ t) in
    let ne : v ≡ e.0 → ⊥ = λ q. omega arith in
    rw (ne_eqb v e.0 ne) (none-at es (and_right (numbered e) _ t) v h)

pub past-table : (v : ℕ) → source_rows ≤ v → setting_of v ≡ none
unfolding setting_of
past-table v h = none-at preset_table all-numbered v h

pub past-source : (v k : ℕ) → source_rows ≤ v → preset_source cell_count v k ≡ none
unfolding preset_source
past-source v k h = rw (past-table v h)

pub past-offered : (v : ℕ) → source_rows ≤ v → offered cell_count v ≡ false
unfolding offered
past-offered v h = rw (past-table v h)

-- a number that is not the preset of a large card alone is offered, and sources, as on a small one
pub small-offered : (n v : ℕ) → is_large n v ≡ false → offered n v ≡ offered cell_count v
unfolding offered
small-offered n v e = rw e

pub small-source : (n v k : ℕ) → is_large n v ≡ false → preset_source n v k ≡ preset_source cell_count v k
unfolding preset_source
small-source n v k e = rw e

pub large-source : (n v k : ℕ) → is_large n v ≡ true → preset_source n v k ≡ preset_source cell_room large_preset k
unfolding preset_source
large-source n v k e = rw e

pub large-told : (size v : ℕ) → is_large (cells_for size) v ≡ (eqb size cell_room && eqb v large_preset)
unfolding cells_for
large-told size v = go (eqb size cell_room)
  where
    go : (b : Bool) → is_large (cond b cell_room cell_count) v ≡ (b && eqb v large_preset)
    go true = refl
    go false = refl

-- a later preset sets no cell
is_empty : {A : Type 0} → List A → Bool
is_empty [] = true
is_empty (x ∷ xs) = false

cellless : Entry → Bool
cellless e = ltb e.0 cell_rows || is_empty e.1.cells

all-cellless : every cellless preset_table ≡ true
unfolding every cellless is_empty preset_table listed
all-cellless = refl

empty : {A : Type 0} (l : List A) → is_empty l ≡ true → l ≡ []
unfolding is_empty
empty [] t = refl
empty (x ∷ xs) t = absurd (false≢true t)

no_cells : (l : List Entry) → every cellless l ≡ true → (v : ℕ) → cell_rows ≤ v → cells_of (find v l) ≡ []
unfolding every cellless
no_cells [] t v h = refl
no_cells (e ∷ es) t v h = go (no_cells es (and_right (cellless e) _ t) v h) (ℕ_discrete v e.0)
  where
    go : cells_of (find v es) ≡ [] → Dec (v ≡ e.0) → cells_of (cond (eqb v e.0) (some e.1) (find v es)) ≡ []
    go later (yes q) =
        let past : cell_rows ≤ e.0 = omega arith in
        rw (eq-eqb v e.0 q) (empty e.1.cells (rw (le-ltb e.0 cell_rows past) at (and_left (cellless e) (every cellless es) t)))
    go later (no ne) = rw (ne_eqb v e.0 ne) later

pub past-cell : (v i : ℕ) → cell_rows ≤ v → preset_cell v i ≡ none
unfolding preset_cell setting_of
past-cell v i h = rw (no_cells preset_table all-cellless v h)

-- rows of zeros set nothing
pub zero_row : (i : ℕ) → cell_under 0 0 i ≡ none
unfolding covers row_byte cell_under
zero_row i = rw (le-ltb (first_cell + i) 0 zero-le, and-false)

-- ---- which cells and connectors a row sets

has-cond : {A : Type 0} (b : Bool) (a : A) → has (cond b (some a) none) ≡ b
has-cond true a = refl
has-cond false a = refl

pub has-source : (w k : ℕ) → has (source_under w k) ≡ bit_at w (32 + k)
unfolding source_under
has-source w k = has-cond (bit_at w (32 + k)) _

pub has-cell : (a b i : ℕ) → has (cell_under a b i) ≡ covers a i
unfolding cell_under
has-cell a b i = has-cond (covers a i) _
