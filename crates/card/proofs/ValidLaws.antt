-- A fresh card is valid, and every accepted edit keeps a card valid: one law for each. Of presets, see PresetValid.
use Rattle.std.specs.Prelude.{Option, None, Some, unwrap_or}
use Rattle.std.proofs.Common.{◌≡◌, ℕ, ◌+◌, ◌-◌, ◌%◌, ◌<◌, ◌≤◌, Bool, true, false, cond, not, ◌&&◌, ◌||◌, eqb, ltb, leb, List, [], ◌∷◌, ◌++◌, map, length, get_or, take, drop, set, replicate, sym, refl, ap, ◌∙◌, true≢false, zero-le, arith, length-set, length-take-le, get_or-set_other, get_or-take, get_or-set_same, take_at, ltb-false, ltb-true, le-ltb, eq-eqb, ne_eqb, le-leb}
use mathlib.Core.Bool.{and-false}
use native.Mathlib.Decide.{ℕ_discrete}
use lib.ListN.{length-map, length-replicate, get_or-append, get_or-map}
use borrow.Author.Tests.{not-true}
use Rattle.cells.specs.declared.table.Slots.{Slots}
use Rattle.cells.specs.declared.table.Row.{Row}
use Rattle.cells.specs.declared.cell.Cell.{Cell}
use Rattle.cells.specs.Table.{row_of}
use Rattle.words.specs.Bits.{bit_at, word_of}
use Rattle.words.specs.Listed.{listed}
use Rattle.words.proofs.Bools.{or_left, or_right, and_left, and_right, and_both}
use Rattle.cells.proofs.Rows.{every-row}
use Rattle.card.specs.declared.card.Card.{Card}
use Rattle.card.specs.declared.card.Connector.{Connector}
use Rattle.card.specs.declared.card.Connectors.{Connectors}
use Rattle.card.specs.Address.{cell_room, connector_count, first_cell, first_connector}
use Rattle.card.specs.Connectors.{input, kind_at, source_at, connector_at, with_kind, with_source, each, no_connector, from_each, well_formed}
use Rattle.card.specs.Fresh.{no_cell, fresh_cell, fresh_connectors, fresh_of}
use Rattle.card.specs.Valid.{front_trigger, permitted_base, bad_clock, bad_cell_type, bad_connector_type, bad_config, unused_slot, bad_address, front_driven}
use Rattle.text.specs.Digits.{every}
use Rattle.card.specs.Valid.{over, valid_slot, valid_slots, valid_cell, valid_connector, valid, valid_settings, valid_card}
use Rattle.card.specs.Edits.{is_at_cell, is_at_connector, with_cell, with_connectors, cleared_cell, cleared_cells, blank_slots, stored_address, wired_slot}
use Rattle.card.specs.Edits.{current_cell}
use Rattle.card.specs.Edits.{put_cell, put_connectors, move, set_trigger, home, typed, set_type, configured, set_config, stated, set_state}
use Rattle.card.specs.Edits.{wired, set_slots, set_connector_type, set_source}
use Rattle.text.proofs.DigitLaws.{every-at}
use Rattle.card.proofs.Settings.{every_set, every-replicate, first-at, first-pass, taken-room, Sound, split, join, valid-cleared}
use Rattle.card.proofs.ConnectorLaws.{length-each, each_at, each-kind, kind-formed, each-source, source-formed, type-known}
use Rattle.card.proofs.Places.{among-bounds}

-- ---- a cell by itself

-- a cell with nothing set is valid
fresh-cell : (n : ℕ) → valid_cell n fresh_cell ≡ true
unfolding valid_cell valid_slots valid_slot bad_cell_type row_of
fresh-cell n = refl

-- so is the blank cell of each type, by a test over the whole table
blank-slots : (n kind : ℕ) → valid_slots n (row_of kind) (blank_slots (row_of kind).edge) ≡ true
unfolding valid_slots valid_slot bad_address permitted_base
blank-slots n kind = every-row (λ (r : Row). valid_slots n r (blank_slots r.edge)) refl kind

-- a number that is not over a range
over-most : (l : Option ℕ) (v : ℕ) → over l v ≡ false → v ≤ unwrap_or l 0
over-most None v e = absurd (true≢false e)
over-most (Some largest) v e = ltb-false largest v e

typed-valid : (n kind : ℕ) → bad_cell_type kind ≡ false → valid_cell n (typed kind) ≡ true
unfolding valid_cell typed
typed-valid n kind known = rw (known, le-leb 0 (unwrap_or (row_of kind).largest 0) zero-le) (blank-slots n kind)

module _ (n : ℕ) (cell : Cell) (ok : valid_cell n cell ≡ true) where
  -- its slots pass
  pub slots-pass : valid_slots n (row_of cell.kind) cell.slots ≡ true
  unfolding valid_cell
  slots-pass = and_right (not (bad_cell_type cell.kind) && leb cell.config (unwrap_or (row_of cell.kind).largest 0)) _ ok

  pub kind-known : bad_cell_type cell.kind ≡ false
  unfolding valid_cell
  kind-known = not-true _ (and_left _ (leb cell.config (unwrap_or (row_of cell.kind).largest 0)) (and_left _ (valid_slots n (row_of cell.kind) cell.slots) ok))

  -- a permitted configuration
  configured-valid : (v : ℕ) → bad_config cell.kind v ≡ false → valid_cell n (configured cell v) ≡ true
  unfolding valid_cell bad_config configured
  configured-valid v fits =
      let most = over-most (row_of cell.kind).largest v fits in
      rw (kind-known, le-leb v (unwrap_or (row_of cell.kind).largest 0) most) slots-pass

-- ---- a slot

-- an edge slot given below 128 stores an address of the same base
stored-address : (n v : ℕ) → v < 128 → bad_address n v ≡ false → bad_address n (v + 128) ≡ false
unfolding bad_address
stored-address n v h good =
    let fits : v + 128 ≤ 255 = omega arith in
    let base : (v + 128) % 64 ≡ v % 64 = omega arith in
    rw (le-ltb 255 (v + 128) fits, base) (or_right (ltb 255 v) _ good)

module _ (n v : ℕ) (good : bad_address n v ≡ false) where
  edge-slot : (b : Bool) → ltb v 128 ≡ b → valid_slot n true true (cond b (v + 128) v) ≡ true
  unfolding valid_slot
  edge-slot true e = rw (stored-address n v (ltb-true v 128 e) good) (le-leb _ (v + 128) (omega arith))
  edge-slot false e =
      let high : 128 ≤ v = ltb-false v 128 e in
      rw good (le-leb _ v (omega arith))

  -- a used slot takes any permitted address
  stored-valid : (edge : Bool) → valid_slot n true edge (stored_address edge v) ≡ true
  unfolding valid_slot
  stored-valid true = edge-slot (ltb v 128) refl
  stored-valid false = rw good

wired-slot : (n : ℕ) (given used edge : Bool) (v old : ℕ) → valid_slot n used edge old ≡ true → (given && not used) ≡ false
    → (given && bad_address n v) ≡ false → valid_slot n used edge (wired_slot given edge v old) ≡ true
wired-slot n true true edge v old was u good = stored-valid n v good edge
wired-slot n true false edge v old was u good = absurd (true≢false u)
wired-slot n false used edge v old was u good = was

-- four tests that all hold, and four of which none does
pub all-four : (a b c d : Bool) → ((a && b) && (c && d)) ≡ true → (a ≡ true) × (b ≡ true) × (c ≡ true) × (d ≡ true)
all-four a b c d h =
    let ab = and_left (a && b) (c && d) h in
    let cd = and_right (a && b) (c && d) h in
    (and_left a b ab, and_right a b ab, and_left c d cd, and_right c d cd)

pub none-four : (a b c d : Bool) → ((a || b) || (c || d)) ≡ false → (a ≡ false) × (b ≡ false) × (c ≡ false) × (d ≡ false)
none-four a b c d h =
    let ab = or_left (a || b) (c || d) h in
    let cd = or_right (a || b) (c || d) h in
    (or_left a b ab, or_right a b ab, or_left c d cd, or_right c d cd)

-- an address that is given is bad
abbrev pub bad_given : ℕ → Slots → (x y z f : ℕ) → Bool
bad_given n given x y z f =
    ((given.x && bad_address n x) || (given.y && bad_address n y)) || ((given.z && bad_address n z) || (given.f && bad_address n f))

-- the four slots of a valid cell, wired
wired-valid : (n : ℕ) (cell : Cell) (given : Slots) (x y z f : ℕ) → valid_cell n cell ≡ true → unused_slot cell.kind given ≡ false
    → bad_given n given x y z f ≡ false → valid_cell n (wired cell given (x ∷ y ∷ z ∷ f ∷ [])) ≡ true
unfolding valid_cell valid_slots unused_slot wired
wired-valid n cell given x y z f ok unused good =
    let row = row_of cell.kind in
    let s = cell.slots in
    let head = and_left (not (bad_cell_type cell.kind) && leb cell.config (unwrap_or row.largest 0)) (valid_slots n row s) ok in
    let was = all-four _ _ _ _ (and_right (eqb (length s) 4) _ (slots-pass n cell ok)) in
    let u = none-four _ _ _ _ unused in
    let g = none-four _ _ _ _ good in
    rw (
      head,
      wired-slot n given.x row.used.x row.edge.x x (get_or s 0 0) was.0 u.0 g.0,
      wired-slot n given.y row.used.y row.edge.y y (get_or s 1 0) was.1 u.1 g.1,
      wired-slot n given.z row.used.z row.edge.z z (get_or s 2 0) was.2 u.2 g.2,
      wired-slot n given.f row.used.f row.edge.f f (get_or s 3 0) was.3 u.3 g.3,
    )

-- ---- a connector by itself

module _ (n : ℕ) where
  -- a permitted type and a permitted source
  connector-valid : (kind source : ℕ) → bad_connector_type kind ≡ false → bad_address n source ≡ false
      → valid_connector n (record { kind = kind; source = source }) ≡ true
  unfolding valid_connector
  connector-valid kind source known good = rw (known, good)

  pub source-good : (connector : Connector) → valid_connector n connector ≡ true → bad_address n connector.source ≡ false
  unfolding valid_connector
  source-good connector pass = not-true _ (and_right (not (bad_connector_type connector.kind)) _ pass)

  pub kind-good : (connector : Connector) → valid_connector n connector ≡ true → bad_connector_type connector.kind ≡ false
  unfolding valid_connector
  kind-good connector pass = not-true _ (and_left _ (not (bad_address n connector.source)) pass)

-- ---- the edits

module _ (n : ℕ) (c : Card) (ok : valid_card n c ≡ true) where
  -- the connectors are as lines leave them
  pub formed : well_formed c.connectors ≡ true
  unfolding valid_card
  formed = and_left (well_formed c.connectors) (valid n c.trigger c.cells (each c.connectors)) ok

  pub settings-valid : valid n c.trigger c.cells (each c.connectors) ≡ true
  unfolding valid_card
  settings-valid = and_right (well_formed c.connectors) (valid n c.trigger c.cells (each c.connectors)) ok

  pub sound : Sound n c.trigger c.cells (each c.connectors)
  sound = split n c.trigger c.cells (each c.connectors) settings-valid

  -- there are n cells
  room : n ≤ length c.cells
  room = taken-room n c.cells sound.cell-count

  -- with other cells, of which the first n are valid
  pub first-cells : (cells : List Cell) → n ≤ length cells → ((i : ℕ) → i < n → valid_cell n (get_or cells i no_cell) ≡ true)
      → valid_settings n c.trigger cells c.connectors ≡ true
  first-cells cells long pass =
      and_both (well_formed c.connectors) _ formed
      (join n c.trigger cells (each c.connectors)
      (record {
        clock = sound.clock;
        front = sound.front;
        cell-count = length-take-le n cells long;
        connector-count = sound.connector-count;
        cells-pass = first-pass (valid_cell n) n cells no_cell long pass;
        connectors-pass = sound.connectors-pass;
      }))

  -- with another trigger, and connectors of which the one at k is another
  other-connector : (trigger k : ℕ) (d : Connectors) (connector : Connector) → well_formed d ≡ true → each d ≡ set (each c.connectors) k connector
      → bad_clock trigger ≡ false → valid_connector n connector ≡ true → front_driven trigger (get_or (each d) 0 no_connector).kind ≡ false
      → valid_settings n trigger c.cells d ≡ true
  other-connector trigger k d connector whole same clock pass front =
      and_both (well_formed d) _ whole
      (join n trigger c.cells (each d)
      (record {
        clock = clock;
        front = front;
        cell-count = sound.cell-count;
        connector-count = length-each d;
        cells-pass = sound.cells-pass;
        connectors-pass = rw same (every_set (valid_connector n) (each c.connectors) k connector sound.connectors-pass pass);
      }))

  -- at each place
  pub cell_at : (i : ℕ) → i < n → valid_cell n (get_or c.cells i no_cell) ≡ true
  cell_at i h = first-at (valid_cell n) n c.cells i no_cell sound.cells-pass sound.cell-count h

  pub connector-at : (k : ℕ) → k < connector_count → valid_connector n (connector_at c.connectors k) ≡ true
  connector-at k h =
      rw (each_at c.connectors k h) at
      (every-at (valid_connector n) (each c.connectors) k no_connector sound.connectors-pass (omega (arith, length-each c.connectors)))

  -- BNC1 is no output while it brings the trigger
  pub front-free : front_driven c.trigger (kind_at c.connectors 0) ≡ false
  front-free = rw (each_at c.connectors 0 (omega arith)) at sound.front

  -- the cell at the pointer
  current-valid : valid_cell n (current_cell n c) ≡ true
  unfolding current_cell
  current-valid = go (is_at_cell n c) refl
    where
      go : (b : Bool) → is_at_cell n c ≡ b → valid_cell n (cond b (get_or c.cells (c.pointer - first_cell) no_cell) fresh_cell) ≡ true
      go true e =
          let h = among-bounds first_cell n c.pointer e in
          cell_at (c.pointer - first_cell) (omega arith)
      go false e = fresh-cell n

  put-valid : (cell : Cell) → valid_cell n cell ≡ true → valid_card n (put_cell n c cell) ≡ true
  unfolding put_cell valid_card
  put-valid cell pass = go (is_at_cell n c)
    where
      k : ℕ
      k = c.pointer - first_cell

      each : (i : ℕ) → i < n → Dec (i ≡ k) → valid_cell n (get_or (set c.cells k cell) i no_cell) ≡ true
      each i h (yes e) =
          let long = room in
          rw (e, get_or-set_same c.cells k cell no_cell (omega arith)) pass
      each i h (no e) = rw (get_or-set_other c.cells k i cell no_cell e) (cell_at i h)

      go : (b : Bool) → valid_card n (cond b (with_cell c (c.pointer - first_cell) cell) c) ≡ true
      go true = first-cells (set c.cells k cell) (omega (arith, room, length-set c.cells k cell)) (λ i h. each i h (ℕ_discrete i k))
      go false = ok

  pub valid-move : (p : ℕ) → valid_card n (move c p) ≡ true
  unfolding move valid_card
  valid-move p = ok

  pub valid-trigger : (t : ℕ) → bad_clock t ≡ false → valid_card n (set_trigger c t) ≡ true
  unfolding set_trigger valid_card front_driven bad_connector_type
  valid-trigger t clock = go (eqb t front_trigger) refl
    where
      d : Connectors
      d = c.connectors

      quiet : Connector
      quiet = record { kind = input; source = source_at d 0 }

      same : each (with_kind d 0 input) ≡ set (each d) 0 quiet
      same = each-kind d formed 0 (omega arith) input refl

      go : (b : Bool) → eqb t front_trigger ≡ b → valid_settings n t c.cells (cond b (with_kind d 0 input) d) ≡ true
      go true e =
          other-connector t 0 (with_kind d 0 input) quiet (kind-formed d formed 0 (omega arith) input refl) same clock
          (connector-valid n input _ refl (source-good n (connector_at d 0) (connector-at 0 (omega arith))))
          (rw (same, get_or-set_same (each d) 0 quiet no_connector (omega (arith, length-each d))) (and-false (eqb t front_trigger)))
      go false e =
          and_both (well_formed d) _ formed
          (join n t c.cells (each d)
          (record {
            clock = clock;
            front = rw e;
            cell-count = sound.cell-count;
            connector-count = sound.connector-count;
            cells-pass = sound.cells-pass;
            connectors-pass = sound.connectors-pass;
          }))

  pub valid-home : valid_card n (home n c) ≡ true
  unfolding home valid_card
  valid-home =
      let long = length-map (take n c.cells) cleared_cell ∙ sound.cell-count in
      and_both (well_formed c.connectors) _ formed
      (valid-cleared n c.trigger (cleared_cells n c.cells) c.cells (each c.connectors) (take_at (map cleared_cell (take n c.cells)) _ n long)
      ∙ settings-valid)

  -- "`HOME E` or `! E` clears all states": every one of the n cells, with its settings as they were
  pub home-clears : (i : ℕ) → i < n → get_or (home n c).cells i no_cell ≡ cleared_cell (get_or c.cells i no_cell)
  unfolding home
  home-clears i h =
      let cleared = map cleared_cell (take n c.cells) in
      let long : length cleared ≡ n = length-map (take n c.cells) cleared_cell ∙ sound.cell-count in
      get_or-append cleared (drop n c.cells) no_cell i (rw long h) ∙ get_or-map cleared_cell (take n c.cells) i no_cell
      ∙ ap cleared_cell (get_or-take n c.cells i no_cell h)

  pub valid-type : (v : ℕ) → bad_cell_type v ≡ false → valid_card n (set_type n c v) ≡ true
  unfolding set_type
  valid-type v known = put-valid (typed v) (typed-valid n v known)

  pub valid-config : (v : ℕ) → bad_config (current_cell n c).kind v ≡ false → valid_card n (set_config n c v) ≡ true
  unfolding set_config
  valid-config v fits = put-valid (configured (current_cell n c) v) (configured-valid n (current_cell n c) current-valid v fits)

  pub valid-state : (v : ℕ) → valid_card n (set_state n c v) ≡ true
  unfolding set_state stated valid_cell
  valid-state v = put-valid (stated (current_cell n c) v) current-valid

  pub valid-slots : (given : Slots) (x y z f : ℕ) → unused_slot (current_cell n c).kind given ≡ false → bad_given n given x y z f ≡ false
      → valid_card n (set_slots n c given (x ∷ y ∷ z ∷ f ∷ [])) ≡ true
  unfolding set_slots
  valid-slots given x y z f unused good =
      put-valid (wired (current_cell n c) given (x ∷ y ∷ z ∷ f ∷ [])) (wired-valid n (current_cell n c) given x y z f current-valid unused good)

  -- the place of the connector at the pointer
  abbrev here : ℕ
  here = c.pointer - first_connector

  -- what a change of the connector there has to make of it
  abbrev Made : Connectors → Connector → Type 0
  Made d connector = (well_formed d ≡ true) × (each d ≡ set (each c.connectors) here connector) × (valid_connector n connector ≡ true)

  -- BNC1 after it, or another, was replaced
  front-after : (k : ℕ) (connector : Connector) → Dec (k ≡ 0) → (k ≡ 0 → front_driven c.trigger connector.kind ≡ false)
      → front_driven c.trigger (get_or (set (each c.connectors) k connector) 0 no_connector).kind ≡ false
  front-after k connector (yes e) free =
      rw (e, get_or-set_same (each c.connectors) 0 connector no_connector (omega (arith, length-each c.connectors))) (free e)
  front-after k connector (no e) free = rw (get_or-set_other (each c.connectors) k 0 connector no_connector (λ q. e (sym q))) sound.front

  put-connectors-valid : (d : Connectors) (connector : Connector) → (here < connector_count → Made d connector)
      → (eqb c.pointer first_connector && front_driven c.trigger connector.kind) ≡ false → valid_card n (put_connectors c d) ≡ true
  unfolding put_connectors valid_card
  put-connectors-valid d connector made free = go (is_at_connector c) refl
    where
      go : (b : Bool) → is_at_connector c ≡ b → valid_card n (cond b (with_connectors c d) c) ≡ true
      go true e =
          let h = among-bounds first_connector connector_count c.pointer e in
          let m = made (omega arith) in
          other-connector c.trigger here d connector m.0 m.1 sound.clock m.2
          (rw m.1 (front-after here connector (ℕ_discrete here 0)
          (λ q. let p : c.pointer ≡ first_connector = omega arith in rw (eq-eqb c.pointer first_connector p) at free)))
      go false e = ok

  pub valid-connector-type : (v : ℕ) → bad_connector_type v ≡ false → (eqb c.pointer first_connector && front_driven c.trigger v) ≡ false
      → valid_card n (set_connector_type c v) ≡ true
  unfolding set_connector_type
  valid-connector-type v known free =
      let d = c.connectors in
      put-connectors-valid (with_kind d here v) (record { kind = v; source = source_at d here })
      (λ h. (
        kind-formed d formed here h v known,
        each-kind d formed here h v known,
        connector-valid n v _ known (source-good n (connector_at d here) (connector-at here h)),
      ))
      free

  -- the type that the connector at the pointer has drives no trigger
  current-free : (eqb c.pointer first_connector && front_driven c.trigger (kind_at c.connectors here)) ≡ false
  current-free = go (ℕ_discrete c.pointer first_connector)
    where
      go : Dec (c.pointer ≡ first_connector) → (eqb c.pointer first_connector && front_driven c.trigger (kind_at c.connectors here)) ≡ false
      go (yes e) = rw e front-free
      go (no e) = rw (ne_eqb c.pointer first_connector e)

  pub valid-source : (v : ℕ) → bad_address n v ≡ false → valid_card n (set_source c v) ≡ true
  unfolding set_source
  valid-source v good =
      let d = c.connectors in
      put-connectors-valid (with_source d here v) (record { kind = kind_at d here; source = v })
      (λ h. (source-formed d formed here h v, each-source d formed here h v, connector-valid n _ v (type-known d here) good)) current-free

-- ---- a fresh card

pub fresh-valid : (n : ℕ) → valid_card n (fresh_of n) ≡ true
unfolding valid_card well_formed each from_each kind_at source_at bit_at word_of listed bad_clock front_driven every valid_connector bad_connector_type bad_address
    permitted_base
fresh-valid n =
    let room = replicate (cell_room - n) fresh_cell in
    let all : take n (replicate n fresh_cell ++ room) ≡ replicate n fresh_cell = take_at (replicate n fresh_cell) room n (length-replicate n fresh_cell) in
    and_both (well_formed fresh_connectors) _ refl
    (join n 0 (replicate n fresh_cell ++ room) (each fresh_connectors)
    (record {
      clock = refl;
      front = refl;
      cell-count = rw all (length-replicate n fresh_cell);
      connector-count = refl;
      cells-pass = rw all (every-replicate (valid_cell n) n fresh_cell (fresh-cell n));
      connectors-pass = refl;
    }))
