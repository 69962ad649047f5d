-- An accepted preset keeps a card valid: what it sets is valid, by one test over the whole table, and stays so where there are more cells.
use Rattle.std.specs.Prelude.{unwrap_or}
use Rattle.std.proofs.Common.{◌≡◌, ℕ, ◌+◌, ◌<◌, ◌≤◌, Bool, true, false, cond, not, ◌&&◌, ◌||◌, eqb, ltb, leb, List, [], ◌∷◌, ◌++◌, length, get_or, drop, refl, ap, arith, length-take-le, eq-eqb, le-leb, leb-true}
use mathlib.Core.Bool.{or-true}
use mathlib.Core.Option
use mathlib.Core.Option.{Option, none, some}
use borrow.Author.Tests.{not-true, not-false}
use Rattle.words.specs.Listed.{listed}
use Rattle.words.proofs.Listed.{length-listed, listed_at, front_at, front_length}
use Rattle.cells.specs.declared.cell.Cell.{Cell}
use Rattle.cells.specs.Table.{row_of}
use Rattle.words.proofs.Bools.{or_left, or_right, and_left, and_right, and_both}
use Rattle.card.specs.declared.card.Card.{Card}
use Rattle.card.specs.declared.card.Connector.{Connector}
use Rattle.card.specs.Address.{cell_count, cell_room, connector_count, first_cell, first_connector, among, base_of, edge_address}
use Rattle.card.specs.Connectors.{connector_at, no_connector, from_each, well_formed}
use Rattle.card.specs.Fresh.{no_cell}
use Rattle.card.specs.Valid.{largest_address, front_trigger, permitted_base, bad_cell_type, bad_connector_type, bad_address, front_driven}
use Rattle.text.specs.Digits.{every}
use Rattle.card.specs.Valid.{valid_slot, valid_slots, valid_cell, valid_connector, valid_card}
use Rattle.card.specs.Presets.{Setting, Entry, preset_table, is_large, large_preset, large_sources, find, has}
use Rattle.card.specs.Presets.{cells_of, sources_of, setting_of, preset_cell, preset_source, sets_front, sourced}
use Rattle.card.specs.Presets.{cell_with_preset, connector_with_preset, preset}
use Rattle.card.proofs.ConnectorLaws.{Known, each_from, from-formed}
use Rattle.card.proofs.PresetRows
use Rattle.card.proofs.PresetRows.{large-source}
use Rattle.card.proofs.Places.{among_in, among-bounds}
use Rattle.card.proofs.Settings.{every-listed, first-pass, taken-room, cell-slots, config-most, join}
use Rattle.card.proofs.ValidLaws.{kind-known, kind-good, sound, cell_at, connector-at, front-free}
use Rattle.card.proofs.WriteLaws.{slots-each}

-- a test of what is at a number, if anything is
passes : {A : Type 0} → (A → Bool) → Option A → Bool
passes f none = true
passes f (some a) = f a

-- what every entry passes, what is found passes
found-passes : {A : Type 0} (f : A → Bool) (l : List (ℕ × A)) → every (λ (e : ℕ × A). f e.1) l ≡ true → (k : ℕ) → passes f (find k l) ≡ true
unfolding every passes
found-passes f [] t k = refl
found-passes f (e ∷ es) t k = go (eqb k e.0) (found-passes f es (and_right (f e.1) _ t) k)
  where
    go : (b : Bool) → passes f (find k es) ≡ true → passes f (cond b (some e.1) (find k es)) ≡ true
    go true later = and_left (f e.1) _ t
    go false later = later

-- the cells that a preset sets are valid, and its sources permitted
abbrev good_source : ℕ → Bool
good_source a = not (bad_address cell_count a)

good_setting : Setting → Bool
good_setting s = every (λ (e : ℕ × Cell). valid_cell cell_count e.1) s.cells && every (λ (e : ℕ × ℕ). good_source e.1) s.sources

-- a test over the whole table
all-good : every (λ (e : Entry). good_setting e.1) preset_table ≡ true
unfolding every good_setting preset_table listed valid_cell valid_slots valid_slot bad_cell_type bad_address permitted_base row_of
all-good = refl

good-cells : (o : Option Setting) → passes good_setting o ≡ true → every (λ (e : ℕ × Cell). valid_cell cell_count e.1) (cells_of o) ≡ true
unfolding every passes good_setting
good-cells none t = refl
good-cells (some s) t = and_left _ (every (λ (e : ℕ × ℕ). good_source e.1) s.sources) t

good-sources : (o : Option Setting) → passes good_setting o ≡ true → every (λ (e : ℕ × ℕ). good_source e.1) (sources_of o) ≡ true
unfolding every passes good_setting
good-sources none t = refl
good-sources (some s) t = and_right (every (λ (e : ℕ × Cell). valid_cell cell_count e.1) s.cells) _ t

preset-cell : (v i : ℕ) → passes (valid_cell cell_count) (preset_cell v i) ≡ true
unfolding preset_cell setting_of
preset-cell v i =
    found-passes (valid_cell cell_count) (cells_of (setting_of v)) (good-cells (setting_of v) (found-passes good_setting preset_table all-good v)) (first_cell + i)

small-source : (v k : ℕ) → passes good_source (preset_source cell_count v k) ≡ true
unfolding preset_source setting_of
small-source v k =
    found-passes good_source (sources_of (setting_of v)) (good-sources (setting_of v) (found-passes good_setting preset_table all-good v)) (1 + k)

-- what the preset of a large card sources is permitted there
large-passes : (k : ℕ) → passes (λ (a : ℕ). not (bad_address cell_room a)) (preset_source cell_room large_preset k) ≡ true
unfolding preset_source every listed bad_address permitted_base
large-passes k = found-passes (λ (a : ℕ). not (bad_address cell_room a)) large_sources refl (1 + k)

passes-more : {A : Type 0} (f g : A → Bool) → ((a : A) → f a ≡ true → g a ≡ true) → (o : Option A) → passes f o ≡ true → passes g o ≡ true
unfolding passes
passes-more f g more none t = refl
passes-more f g more (some a) t = more a t

-- ---- among more cells

or-more : (z a b k : Bool) → (a ≡ true → b ≡ true) → (z || (a || k)) ≡ true → (z || (b || k)) ≡ true
or-more true a b k more e = refl
or-more false true b k more e = rw (more refl)
or-more false false b k more e = rw (e, or-true b)

-- what is permitted among m cells is permitted among n, which are no fewer
module _ (m n : ℕ) (more : m ≤ n) where
  base_more : (b : ℕ) → permitted_base m b ≡ true → permitted_base n b ≡ true
  unfolding permitted_base
  base_more b e = or-more (eqb b 0) _ (among first_cell n b) (among first_connector connector_count b) wider e
    where
      wider : among first_cell m b ≡ true → among first_cell n b ≡ true
      wider e =
          let h = among-bounds first_cell m b e in
          among_in first_cell n b h.0 (omega arith)

  address_more : (a : ℕ) → bad_address m a ≡ false → bad_address n a ≡ false
  unfolding bad_address
  address_more a e =
      let base = not-false _ (or_right (ltb largest_address a) (not (permitted_base m (base_of a))) e) in
      rw (or_left (ltb largest_address a) (not (permitted_base m (base_of a))) e, base_more (base_of a) base)

  source_more : (o : Option ℕ) → passes (λ (a : ℕ). not (bad_address m a)) o ≡ true → passes (λ (a : ℕ). not (bad_address n a)) o ≡ true
  source_more o t =
      passes-more (λ (a : ℕ). not (bad_address m a)) (λ (a : ℕ). not (bad_address n a)) (λ a g. ap not (address_more a (not-true _ g))) o t

module _ (n : ℕ) (more : cell_count ≤ n) where
  preset-source : (v k : ℕ) → passes (λ (a : ℕ). not (bad_address n a)) (preset_source n v k) ≡ true
  preset-source v k = go (is_large n v) refl
    where
      go : (b : Bool) → is_large n v ≡ b → passes (λ (a : ℕ). not (bad_address n a)) (preset_source n v k) ≡ true
      go true e = rw (large-source n v k e) (source_more cell_room n (leb-true cell_room n (and_left (leb cell_room n) _ e)) _ (large-passes k))
      go false e = rw (PresetRows.small-source n v k e) (source_more cell_count n more _ (small-source v k))

  slot-more : (used edge : Bool) (a : ℕ) → valid_slot cell_count used edge a ≡ true → valid_slot n used edge a ≡ true
  unfolding valid_slot
  slot-more true edge a e =
      let good = not-true _ (and_left (not (bad_address cell_count a)) (not edge || leb edge_address a) e) in
      rw (address_more cell_count n more a good) (and_right (not (bad_address cell_count a)) (not edge || leb edge_address a) e)
  slot-more false edge a e = e

  cell-more : (cell : Cell) → valid_cell cell_count cell ≡ true → valid_cell n cell ≡ true
  unfolding valid_cell valid_slots
  cell-more cell ok =
      let r = row_of cell.kind in
      let s = cell.slots in
      let each = slots-each cell_count cell ok in
      rw (
        kind-known cell_count cell ok,
        le-leb cell.config (unwrap_or r.largest 0) (config-most cell_count cell ok),
        eq-eqb (length s) 4 (cell-slots cell_count cell ok),
        slot-more r.used.x r.edge.x (get_or s 0 0) each.0,
        slot-more r.used.y r.edge.y (get_or s 1 0) each.1,
        slot-more r.used.z r.edge.z (get_or s 2 0) each.2,
        slot-more r.used.f r.edge.f (get_or s 3 0) each.3,
      )

  -- ---- the card

  either-cell : (o : Option Cell) (old : Cell) → passes (valid_cell cell_count) o ≡ true → valid_cell n old ≡ true → valid_cell n (Option.get_or o old) ≡ true
  unfolding passes
  either-cell none old p q = q
  either-cell (some cell) old p q = cell-more cell p

  either-connector : (o : Option ℕ) (old : Connector) → passes (λ (a : ℕ). not (bad_address n a)) o ≡ true → valid_connector n old ≡ true
      → valid_connector n (sourced o old) ≡ true
  unfolding passes valid_connector bad_connector_type
  either-connector none old p q = q
  either-connector (some a) old p q = rw (not-true (bad_address n a) p)

  either-front : (trigger : ℕ) (o : Option ℕ) (old : Connector) → (has o && eqb trigger front_trigger) ≡ false → front_driven trigger old.kind ≡ false
      → front_driven trigger (sourced o old).kind ≡ false
  unfolding front_driven
  either-front trigger none old p q = q
  either-front trigger (some a) old p q = rw p

  pub valid-preset : (c : Card) → valid_card n c ≡ true → (v : ℕ) → (sets_front n v && eqb c.trigger front_trigger) ≡ false
      → valid_card n (preset n c v) ≡ true
  unfolding preset valid_card sets_front
  valid-preset c ok v free =
      let cells = listed (cell_with_preset c v) n ++ drop n c.cells in
      let s = sound n c ok in
      let had = taken-room n c.cells s.cell-count in
      let long : n ≤ length cells = omega (arith, had, front_length (cell_with_preset c v) n c.cells had) in
      and_both (well_formed (from_each connectors)) _ (from-formed connectors count known)
      (rw (each_from connectors count known)
      (join n c.trigger cells connectors
      (record {
        clock = s.clock;
        front =
            rw (listed_at (connector_with_preset n c v) connector_count 0 no_connector (omega arith))
            (either-front c.trigger (preset_source n v 0) (connector_at c.connectors 0) free (front-free n c ok));
        cell-count = length-take-le n cells long;
        connector-count = count;
        cells-pass =
            first-pass (valid_cell n) n cells no_cell long
            (λ i h. rw (front_at (cell_with_preset c v) n c.cells i no_cell h)
            (either-cell (preset_cell v i) (get_or c.cells i no_cell) (preset-cell v i) (cell_at n c ok i h)));
        connectors-pass = every-listed (valid_connector n) (connector_with_preset n c v) connector_count pass;
      })))
    where
      connectors : List Connector
      connectors = listed (connector_with_preset n c v) connector_count

      count : length connectors ≡ connector_count
      count = length-listed (connector_with_preset n c v) connector_count

      pass : (k : ℕ) → k < connector_count → valid_connector n (connector_with_preset n c v k) ≡ true
      pass k h = either-connector (preset_source n v k) (connector_at c.connectors k) (preset-source v k) (connector-at n c ok k h)

      known : Known connectors
      known k h = rw (listed_at (connector_with_preset n c v) connector_count k no_connector h) (kind-good n (connector_with_preset n c v k) (pass k h))
