-- Laws of writes: a valid cell is what lines make of its settings; and what a write at a place leaves of the card's settings.
use Rattle.std.proofs.Common.{◌≡◌, ℕ, ◌+◌, ◌-◌, ◌<◌, ◌≤◌, Bool, true, false, cond, not, ◌&&◌, ◌||◌, eqb, ltb, List, [], ◌∷◌, length, get_or, set, sym, refl, ap, ◌∙◌, arith, get_or-set_same, set-set, ltb-false, le-ltb, eqb-true, leb-true}
use Rattle.std.specs.Prelude.{Option, None, Some, is_some, unwrap_or}
use mathlib.Core.Bool.{or-true, false≢true}
use lib.Seq.{set-get_or}
use borrow.Author.Tests.{eqb-false, not-true}
use Rattle.cells.specs.declared.table.Slots.{Slots}
use Rattle.cells.specs.declared.table.Row.{Row}
use Rattle.cells.specs.declared.table.Kept.{Kept}
use Rattle.cells.specs.declared.table.Kept.TheVariants.{Stateless, Bit, Count, Counted}
use Rattle.cells.specs.declared.cell.Cell.{Cell}
use Rattle.cells.specs.Table.{row_of}
use Rattle.words.proofs.Bools.{or_left, or_right, and_left, and_right}
use Rattle.cells.proofs.Rows.{every-row}
use Rattle.card.specs.declared.card.Card.{Card}
use Rattle.card.specs.declared.card.Connector.{Connector}
use Rattle.card.specs.declared.card.Connectors.{Connectors}
use Rattle.card.specs.Address.{first_cell, first_connector, connector_count, among, edge_address}
use Rattle.card.specs.Connectors.{input, open_drain_type, push_pull_type, is_output, kind_at, source_at, connector_at, with_kind, with_source, each, no_connector}
use Rattle.card.specs.Connectors.{well_formed}
use Rattle.cells.specs.State.{cell_of}
use Rattle.card.specs.Fresh.{clear_state, no_cell}
use Rattle.card.specs.Valid.{largest_address, front_trigger, front_driven, bad_place, bad_connector_type, bad_config, unused_slot, bad_address, valid_slot}
use Rattle.card.specs.Valid.{over, valid_slots, valid_cell}
use Rattle.card.specs.Edits.{is_at_cell, is_at_connector, blank_slot, cleared_cell, stored_address, wired_slot, configured_state, current_cell}
use Rattle.card.specs.Edits.{put_cell, put_connectors, move, set_trigger, typed, set_type, configured, set_config, wired, set_slots, set_connector_type}
use Rattle.card.specs.Edits.{set_source}
use Rattle.card.specs.Written.{configured_as, written}
use Rattle.card.proofs.ConnectorLaws.{length-each, each_at, each-kind, kind-formed, each-source, source-formed, type-known, each-unique}
use Rattle.card.proofs.Slots.{four}
use Rattle.card.proofs.Settings.{cell-slots, config-most, Sound}
use Rattle.card.proofs.ValidLaws.{slots-pass, all-four, none-four, bad_given}
use Rattle.card.proofs.Places.{among_in, among-above}

-- ---- a valid cell is what lines make of its settings

-- a permitted address is stored as it is given
stored-as : (n : ℕ) (edge : Bool) (a : ℕ) → valid_slot n true edge a ≡ true → stored_address edge a ≡ a
unfolding valid_slot
stored-as n true a ok =
    let high : edge_address ≤ a = leb-true _ a (and_right (not (bad_address n a)) _ ok) in
    rw (le-ltb a edge_address high)
stored-as n false a ok = refl

-- a slot of a blank cell, written where it is used
written-slot : (n : ℕ) (used edge : Bool) (a : ℕ) → (used || not edge) ≡ true → valid_slot n used edge a ≡ true
    → wired_slot used edge a (blank_slot edge) ≡ a
unfolding valid_slot
written-slot n true edge a within ok = stored-as n edge a ok
written-slot n false true a within ok = absurd (false≢true within)
written-slot n false false a within ok = sym (eqb-true a 0 ok)

-- what no refusal of a write minds: the address of a used slot; another holds 0
slot-permitted : (n : ℕ) (used edge : Bool) (a : ℕ) → valid_slot n used edge a ≡ true → (used && bad_address n a) ≡ false
unfolding valid_slot
slot-permitted n true edge a ok = not-true _ (and_left _ _ ok)
slot-permitted n false edge a ok = refl

pub slot-unused : (n : ℕ) (edge : Bool) (a : ℕ) → valid_slot n false edge a ≡ true → a ≡ 0
unfolding valid_slot
slot-unused n edge a ok = eqb-true a 0 ok

pub address-most : (n a : ℕ) → bad_address n a ≡ false → a ≤ largest_address
unfolding bad_address
address-most n a good = ltb-false largest_address a (or_left (ltb largest_address a) _ good)

pub slot-most : (n : ℕ) (used edge : Bool) (a : ℕ) → valid_slot n used edge a ≡ true → a ≤ largest_address
slot-most n true edge a ok = address-most n a (slot-permitted n true edge a ok)
slot-most n false edge a ok =
    let none = slot-unused n edge a ok in
    omega arith

-- "edge slots" are used slots, in every row
edges-used : (kind : ℕ) → (let r = row_of kind in ((r.used.x || not r.edge.x) && (r.used.y || not r.edge.y))
    && ((r.used.z || not r.edge.z) && (r.used.f || not r.edge.f))) ≡ true
edges-used =
    every-row (λ (r : Row). ((r.used.x || not r.edge.x) && (r.used.y || not r.edge.y))
    && ((r.used.z || not r.edge.z) && (r.used.f || not r.edge.f))) refl

-- the slots that a type uses may be given
pub used-given : (kind : ℕ) → unused_slot kind (row_of kind).used ≡ false
unfolding unused_slot
used-given kind = go (row_of kind).used.x (row_of kind).used.y (row_of kind).used.z (row_of kind).used.f
  where
    never : (b : Bool) → (b && not b) ≡ false
    never true = refl
    never false = refl

    go : (x y z f : Bool) → (((x && not x) || (y && not y)) || ((z && not z) || (f && not f))) ≡ false
    go x y z f = rw (never x, never y, never z, never f)

-- a number within a range
within-over : (l : Option ℕ) (v : ℕ) → is_some l ≡ true → v ≤ unwrap_or l 0 → over l v ≡ false
within-over None v e h = absurd (false≢true e)
within-over (Some largest) v e h = le-ltb largest v h

clear_stays : (kept : Kept) → configured_state kept clear_state ≡ clear_state
unfolding configured_state
clear_stays Stateless = refl
clear_stays Bit = refl
clear_stays Count = refl
clear_stays Counted = refl

module _ (n : ℕ) (cell : Cell) (ok : valid_cell n cell ≡ true) where
  pub config-permitted : is_some (row_of cell.kind).largest ≡ true → bad_config cell.kind cell.config ≡ false
  unfolding bad_config
  config-permitted e = within-over (row_of cell.kind).largest cell.config e (config-most n cell ok)

  -- the type and the configuration
  pub configured-is : configured_as cell ≡ cell_of cell.kind cell.config (typed cell.kind).slots clear_state
  unfolding configured_as configured typed
  configured-is = go (row_of cell.kind).largest (config-most n cell ok)
    where
      blank : ℕ → Cell
      blank v = cell_of cell.kind v (typed cell.kind).slots clear_state

      go : (l : Option ℕ) → cell.config ≤ unwrap_or l 0
          → cond (is_some l) (configured (typed cell.kind) cell.config) (typed cell.kind) ≡ blank cell.config
      go (Some largest) h = λ i. cell_of cell.kind cell.config (typed cell.kind).slots (clear_stays (row_of cell.kind).kept i)
      go None h =
          let zero : 0 ≡ cell.config = omega arith in
          ap blank zero

  -- the four slots pass
  pub slots-each : let r = row_of cell.kind in let s = cell.slots in
      (valid_slot n r.used.x r.edge.x (get_or s 0 0) ≡ true) × (valid_slot n r.used.y r.edge.y (get_or s 1 0) ≡ true)
      × (valid_slot n r.used.z r.edge.z (get_or s 2 0) ≡ true) × (valid_slot n r.used.f r.edge.f (get_or s 3 0) ≡ true)
  unfolding valid_slots
  slots-each = all-four _ _ _ _ (and_right (eqb (length cell.slots) 4) _ (slots-pass n cell ok))

  pub slots-permitted : let u = (row_of cell.kind).used in let s = cell.slots in
      bad_given n u (get_or s 0 0) (get_or s 1 0) (get_or s 2 0) (get_or s 3 0) ≡ false
  slots-permitted =
      let r = row_of cell.kind in
      let each = slots-each in
      rw (
        slot-permitted n r.used.x r.edge.x _ each.0,
        slot-permitted n r.used.y r.edge.y _ each.1,
        slot-permitted n r.used.z r.edge.z _ each.2,
        slot-permitted n r.used.f r.edge.f _ each.3,
      )

  -- "record value no line could set": every valid cell can be set, state cleared
  pub written_is : written cell ≡ cleared_cell cell
  unfolding written wired typed
  written_is =
      let r = row_of cell.kind in
      let s = cell.slots in
      let edges = all-four _ _ _ _ (edges-used cell.kind) in
      let each = slots-each in
      let x = written-slot n r.used.x r.edge.x (get_or s 0 0) edges.0 each.0 in
      let y = written-slot n r.used.y r.edge.y (get_or s 1 0) edges.1 each.1 in
      let z = written-slot n r.used.z r.edge.z (get_or s 2 0) edges.2 each.2 in
      let f = written-slot n r.used.f r.edge.f (get_or s 3 0) edges.3 each.3 in
      ap (λ (c : Cell). wired c r.used s) configured-is
      ∙ (λ i. cell_of cell.kind cell.config (x i ∷ y i ∷ z i ∷ f i ∷ []) clear_state)
      ∙ ap (λ (l : List ℕ). cell_of cell.kind cell.config l clear_state) (four s (cell-slots n cell ok))

  -- a type that uses no slot has none to write
  pub unslotted : let u = (row_of cell.kind).used in ((u.x || u.y) || (u.z || u.f)) ≡ false → configured_as cell ≡ written cell
  unfolding written wired typed
  unslotted none =
      let used = (row_of cell.kind).used in
      let u = none-four used.x used.y used.z used.f none in
      configured-is ∙ sym (ap (λ (c : Cell). wired c used cell.slots) configured-is ∙ rw (u.0, u.1, u.2, u.3))

-- ---- a write at a place

-- 5, "pointer place": the places of cells and connectors are none
pub cell-place : (n i : ℕ) → i < n → bad_place n (first_cell + i) ≡ false
unfolding bad_place
cell-place n i h = rw (among_in first_cell n (first_cell + i) (omega arith) (omega arith))

pub connector-place : (n k : ℕ) → k < connector_count → bad_place n (first_connector + k) ≡ false
unfolding bad_place
connector-place n k h =
    rw (among_in first_connector connector_count (first_connector + k) (omega arith) (omega arith), or-true (among first_cell n (first_connector + k)))

-- the card d has the settings of c with the cell at index i replaced, and the pointer there
pub record CellWritten (c : Card) (i : ℕ) (cell : Cell) (d : Card) : Type 0 where
  pub pointer : d.pointer ≡ first_cell + i
  pub trigger : d.trigger ≡ c.trigger
  pub cells : d.cells ≡ set c.cells i cell
  pub connectors : d.connectors ≡ c.connectors

module _ (n : ℕ) (c : Card) (i : ℕ) (within : i < n) where
  pub at-cell : (d : Card) → d.pointer ≡ first_cell + i → is_at_cell n d ≡ true
  at-cell d p = rw p (among_in first_cell n (first_cell + i) (omega arith) (omega arith))

  -- the cell at the pointer replaced once more
  put_written : (old cell : Cell) (d : Card) → CellWritten c i old d → CellWritten c i cell (put_cell n d cell)
  unfolding put_cell
  put_written old cell d w =
      let here = at-cell d w.pointer in
      let index : d.pointer - first_cell ≡ i = omega (arith, w.pointer) in
      record {
        pointer = rw here w.pointer;
        trigger = rw here w.trigger;
        cells = rw (here, index, w.cells) (set-set c.cells i old cell);
        connectors = rw here w.connectors;
      }

  -- the pointer moved
  pub move-written : CellWritten c i (get_or c.cells i no_cell) (move c (first_cell + i))
  unfolding move
  move-written = record { pointer = refl; trigger = refl; cells = sym (set-get_or c.cells i no_cell); connectors = refl }

  pub type-written : (old : Cell) (v : ℕ) (d : Card) → CellWritten c i old d → CellWritten c i (typed v) (set_type n d v)
  unfolding set_type
  type-written old v d w = put_written old (typed v) d w

  module _ (there : i < length c.cells) (cell : Cell) (d : Card) (w : CellWritten c i cell d) where
    pub current-written : current_cell n d ≡ cell
    unfolding current_cell
    current-written =
        let here = at-cell d w.pointer in
        let index : d.pointer - first_cell ≡ i = omega (arith, w.pointer) in
        rw (here, index, w.cells) (get_or-set_same c.cells i cell no_cell there)

    pub config-written : (v : ℕ) → CellWritten c i (configured cell v) (set_config n d v)
    unfolding set_config
    config-written v = rw current-written (put_written cell (configured cell v) d w)

    pub slots-written : (given : Slots) (v : List ℕ) → CellWritten c i (wired cell given v) (set_slots n d given v)
    unfolding set_slots
    slots-written given v = rw current-written (put_written cell (wired cell given v) d w)

-- the same of the connector at index k
pub record ConnectorWritten (c : Card) (k : ℕ) (connector : Connector) (d : Card) : Type 0 where
  pub pointer : d.pointer ≡ first_connector + k
  pub trigger : d.trigger ≡ c.trigger
  pub cells : d.cells ≡ c.cells
  pub formed : well_formed d.connectors ≡ true
  pub connectors : each d.connectors ≡ set (each c.connectors) k connector

module _ (c : Card) (k : ℕ) (within : k < connector_count) where
  at-connector : (d : Card) → d.pointer ≡ first_connector + k → is_at_connector d ≡ true
  at-connector d p = rw p (among_in first_connector connector_count (first_connector + k) (omega arith) (omega arith))

  -- the places of cells end before
  pub beside-cells : (n : ℕ) → first_cell + n ≤ first_connector → (d : Card) → d.pointer ≡ first_connector + k → is_at_cell n d ≡ false
  beside-cells n apart d p = rw p (among-above first_cell n (first_connector + k) (omega arith))

  pub move-connector-written : well_formed c.connectors ≡ true → ConnectorWritten c k (connector_at c.connectors k) (move c (first_connector + k))
  unfolding move
  move-connector-written ok =
      let d = c.connectors in
      record {
        pointer = refl;
        trigger = refl;
        cells = refl;
        formed = ok;
        connectors = sym (ap (set (each d) k) (sym (each_at d k within)) ∙ set-get_or (each d) k no_connector);
      }

  module _ (connector : Connector) (d : Card) (w : ConnectorWritten c k connector d) where
    -- the connector there
    there : connector_at d.connectors k ≡ connector
    there =
        sym (each_at d.connectors k within) ∙ ap (λ (l : List Connector). get_or l k no_connector) w.connectors
        ∙ get_or-set_same (each c.connectors) k connector no_connector (omega (arith, length-each c.connectors))

    -- replaced once more
    put-written-again : (row : Connectors) (other : Connector) → well_formed row ≡ true → each row ≡ set (each d.connectors) k other
        → ConnectorWritten c k other (put_connectors d row)
    unfolding put_connectors
    put-written-again row other ok same =
        let here = at-connector d w.pointer in
        record {
          pointer = rw here w.pointer;
          trigger = rw here w.trigger;
          cells = rw here w.cells;
          formed = rw here ok;
          connectors =
              rw here
              (same ∙ ap (λ (l : List Connector). set l k other) w.connectors ∙ set-set (each c.connectors) k connector other);
        }

    pub connector-type-written : (v : ℕ) → bad_connector_type v ≡ false
        → ConnectorWritten c k (record { kind = v; source = connector.source }) (set_connector_type d v)
    unfolding set_connector_type
    connector-type-written v known =
        let index : d.pointer - first_connector ≡ k = omega (arith, w.pointer) in
        let source = ap (λ (x : Connector). x.source) there in
        rw index
        (put-written-again (with_kind d.connectors k v) (record { kind = v; source = connector.source })
        (kind-formed d.connectors w.formed k within v known)
        (each-kind d.connectors w.formed k within v known
        ∙ (λ i. set (each d.connectors) k (record { kind = v; source = source i }))))

    pub source-written : (v : ℕ) → ConnectorWritten c k (record { kind = connector.kind; source = v }) (set_source d v)
    unfolding set_source
    source-written v =
        let index : d.pointer - first_connector ≡ k = omega (arith, w.pointer) in
        let kind = ap (λ (x : Connector). x.kind) there in
        rw index
        (put-written-again (with_source d.connectors k v) (record { kind = connector.kind; source = v })
        (source-formed d.connectors w.formed k within v)
        (each-source d.connectors w.formed k within v
        ∙ (λ i. set (each d.connectors) k (record { kind = kind i; source = v }))))

-- ---- the trigger

-- a connector of a known type that is no output is an input
input-kind : (kind : ℕ) → bad_connector_type kind ≡ false → is_output kind ≡ false → input ≡ kind
unfolding bad_connector_type
input-kind kind known quiet =
    let most : kind ≤ push_pull_type = ltb-false push_pull_type kind known in
    let low = eqb-false kind open_drain_type (or_left (eqb kind open_drain_type) (eqb kind push_pull_type) quiet) in
    let high = eqb-false kind push_pull_type (or_right (eqb kind open_drain_type) (eqb kind push_pull_type) quiet) in
    omega arith

-- "4 also makes BNC1 an input": under a trigger of valid settings it is one already
pub trigger-leaves : (n trigger : ℕ) (cells : List Cell) (c : Card) → well_formed c.connectors ≡ true → Sound n trigger cells (each c.connectors)
    → (set_trigger c trigger).connectors ≡ c.connectors
unfolding set_trigger front_driven bad_connector_type
trigger-leaves n trigger cells c ok s = go (eqb trigger front_trigger) refl
  where
    d : Connectors
    d = c.connectors

    front : get_or (each d) 0 no_connector ≡ connector_at d 0
    front = each_at d 0 (omega arith)

    go : (b : Bool) → eqb trigger front_trigger ≡ b → cond b (with_kind d 0 input) d ≡ d
    go true e =
        let same : input ≡ kind_at d 0 = input-kind (kind_at d 0) (type-known d 0) (rw (front, e) at s.front) in
        each-unique (with_kind d 0 input) d (kind-formed d ok 0 (omega arith) input refl) ok
        (each-kind d ok 0 (omega arith) input refl ∙ (λ i. set (each d) 0 (record { kind = same i; source = source_at d 0 }))
        ∙ ap (set (each d) 0) (sym front) ∙ set-get_or (each d) 0 no_connector)
    go false e = refl
