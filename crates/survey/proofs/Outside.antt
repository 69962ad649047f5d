-- Nothing outside a set that holds what depends on a line sees the line: readings, connectors, and the turns of cells in one tick.
use Prim.Native.Nat.{ℕ, zero, suc, ◌+◌, ◌-◌, ◌<◌}
use mathlib.Core.Path.{◌≡◌, refl, sym, ap, ap₂, ◌∙◌}
use mathlib.Core.Bool.{Bool, true, false, ◌&&◌, ◌||◌, cond, true≢false}
use native.Mathlib.Nat.{not-suc-le-zero}
use native.Mathlib.Omega.{arith}
use lib.Dec.{eqb, ltb}
use lib.ListN.{get_or}
use borrow.Author.Tests.{ltb-true}
use Rattle.words.specs.Bits.{bit_at}
use Rattle.words.proofs.Laws.{bit-built}
use Rattle.cells.specs.declared.cell.Cell.{Cell}
use Rattle.cells.specs.State.{state_of}
use Rattle.cells.specs.Table.{slots, row_of, masked}
use Rattle.words.proofs.Bools.{or_left, or_right}
use Rattle.cells.proofs.Used.{SameUsed, work-used, wakes-used}
use Rattle.card.specs.declared.card.Card.{Card}
use Rattle.card.specs.declared.card.Memory.{Memory}
use Rattle.card.specs.declared.card.Connectors.{Connectors}
use Rattle.card.specs.Address.{connector_count, first_cell, first_connector, among, base_of, is_inverted, is_edge, on_backplane}
use Rattle.card.specs.Tally.{tally_of}
use Rattle.ticks.specs.Rest.{total_of}
use Rattle.card.specs.Connectors.{push_pull_type, is_output, kind_at, source_at, connector_at}
use Rattle.card.proofs.ConnectorLaws.{kind-push}
use Rattle.card.proofs.Places.{among-bounds}
use Rattle.ticks.specs.declared.view.Input.{Input}
use Rattle.ticks.specs.declared.view.Wires.{Wires}
use Rattle.ticks.specs.Reading.{level_at, reads_levels, reads, slots_read, mixed, view}
use Rattle.ticks.specs.Levels.{effective_at, effective_sample, level_bit, driven_at, driven_word, levels_from, lines_of}
use Rattle.ticks.specs.Tick.{sees_now, saw_last, saw_earlier, read_now, read_last, named, Turn, turn_to, slept_turn, turn_at, outputs_below, turn_of, lines}
use Rattle.ticks.specs.Runs.{cell_at}
use Rattle.ticks.proofs.Sleep.{output-bit}
use Rattle.survey.specs.Survey.{slots_in, reads_set, driven_from, Holds}
use Rattle.survey.specs.Unreached.{SameBut, CellsOutside, LinesOutside}

-- ---- readings

-- two views agree at every base outside the set
abbrev pub Views : (ℕ → Bool) → (f g : ℕ → Bool) → Type 0
Views set f g = (b : ℕ) → set b ≡ false → f b ≡ g b

-- an address whose base is outside reads the same
reads-outside : (set now before now' before' : ℕ → Bool) → Views set now now' → Views set before before' → (a : ℕ) → set (base_of a) ≡ false
    → reads now before a ≡ reads now' before' a
unfolding reads
reads-outside set now before now' before' p q a out =
    ap₂ (λ (x y : Bool). cond (eqb a 192) true (reads_levels (is_inverted a) (is_edge a) x y)) (p (base_of a) out) (q (base_of a) out)

slot-outside : (u i r s : Bool) → (u && i) ≡ false → (i ≡ false → r ≡ s) → (u && r) ≡ (u && s)
slot-outside false i r s e h = refl
slot-outside true i r s e h = h e

-- so does a cell that reads nothing of the set, in its used slots
pub slots-outside : (set now before now' before' : ℕ → Bool) → Views set now now' → Views set before before' → (cell : Cell) → reads_set set cell ≡ false
    → SameUsed cell.kind (slots_read now before cell.slots) (slots_read now' before' cell.slots)
unfolding slots_read reads_set
slots-outside set now before now' before' p q cell out =
    let u = (row_of cell.kind).used in
    let s = cell.slots in
    let m = masked u (slots_in set s) in
    let xy = or_left (m.x || m.y) (m.z || m.f) out in
    let zf = or_right (m.x || m.y) (m.z || m.f) out in
    let at : (a : ℕ) → set (base_of a) ≡ false → reads now before a ≡ reads now' before' a = reads-outside set now before now' before' p q in
    λ k. slots (slot-outside u.x _ _ _ (or_left m.x m.y xy) (at (get_or s 0 0)) k)
    (slot-outside u.y _ _ _ (or_right m.x m.y xy) (at (get_or s 1 0)) k)
    (slot-outside u.z _ _ _ (or_left m.z m.f zf) (at (get_or s 2 0)) k)
    (slot-outside u.f _ _ _ (or_right m.z m.f zf) (at (get_or s 3 0)) k)

-- ---- what a reader sees

-- cells below i by one pair of words, the others by another
pub view-outside : (n i : ℕ) (set : ℕ → Bool) (below others levels below' others' levels' : ℕ)
    → ((j : ℕ) → j < i → j < n → set (first_cell + j) ≡ false → bit_at below j ≡ bit_at below' j)
    → CellsOutside n set others others' → LinesOutside set levels levels'
    → Views set (view n i below others levels) (view n i below' others' levels')
unfolding view level_at mixed
view-outside n i set below others levels below' others' levels' hb ho hl b out = go (among first_cell n b) refl
  where
    line : (q : Bool) → among first_connector connector_count b ≡ q
        → cond q (bit_at levels (b - first_connector)) false ≡ cond q (bit_at levels' (b - first_connector)) false
    line false e = refl
    line true e =
        let h = among-bounds first_connector connector_count b e in
        let at : first_connector + (b - first_connector) ≡ b = omega (arith, h) in
        hl (b - first_connector) (omega (arith, h)) (ap set at ∙ out)

    cell : (q : Bool) → ltb (b - first_cell) i ≡ q → b - first_cell < n → set (first_cell + (b - first_cell)) ≡ false
        → cond q (bit_at below (b - first_cell)) (bit_at others (b - first_cell)) ≡ cond q (bit_at below' (b - first_cell)) (bit_at others' (b - first_cell))
    cell true e h o = hb (b - first_cell) (ltb-true (b - first_cell) i e) h o
    cell false e h o = ho (b - first_cell) h o

    go : (q : Bool) → among first_cell n b ≡ q
        → cond q (mixed i below others (b - first_cell)) (cond (among first_connector connector_count b) (bit_at levels (b - first_connector)) false)
        ≡ cond q (mixed i below' others' (b - first_cell)) (cond (among first_connector connector_count b) (bit_at levels' (b - first_connector)) false)
    go false e = line (among first_connector connector_count b) refl
    go true e =
        let h = among-bounds first_cell n b e in
        let at : first_cell + (b - first_cell) ≡ b = omega (arith, h) in
        cell (ltb (b - first_cell) i) refl (omega (arith, h)) (ap set at ∙ out)

-- ---- the connectors

pub in-or-out : (b s : Bool) → (b ≡ true → s ≡ true) → s ≡ false → b ≡ false
in-or-out false s h out = refl
in-or-out true s h out = absurd (true≢false (sym (h refl) ∙ out))

pub driven-outside : (set now before now' before' : ℕ → Bool) → Views set now now' → Views set before before' → (d : Connectors) (k : ℕ)
    → driven_from set (connector_at d k) ≡ false → driven_at now before d k ≡ driven_at now' before' d k
unfolding driven_from
driven-outside set now before now' before' p q d k out = go (is_output (kind_at d k)) out
  where
    a : ℕ
    a = source_at d k

    go : (b : Bool) → (b && set (base_of a)) ≡ false → cond b (reads now before a) false ≡ cond b (reads now' before' a) false
    go false h = refl
    go true h = reads-outside set now before now' before' p q a h

pub level-outside : (push drain s s' d d' : Bool) → d ≡ d' → (push ≡ false → s ≡ s') → level_bit push drain s d ≡ level_bit push drain s' d'
level-outside true drain s s' d d' e h = e
level-outside false drain s s' d d' e h = ap₂ (λ (x y : Bool). cond drain (x && y) x) (h refl) e

effective-but : (k s s' a a' : ℕ) → SameBut k a a' → SameBut k s s' → SameBut k (effective_sample s a) (effective_sample s' a')
unfolding effective_sample
effective-but k s s' a a' torn same j h other =
    bit-built (effective_at s a) connector_count j h
    ∙ ap₂ (λ (x y : Bool). cond x y (on_backplane j)) (torn j h other) (same j h other)
    ∙ sym (bit-built (effective_at s' a') connector_count j h)

-- what connectors are driven from: the last tick's cells and levels, and those of the tick before
abbrev pub shows : ℕ → Memory → ℕ → Bool
shows n m = view n 0 m.outputs m.outputs m.levels

abbrev pub showed : ℕ → Memory → ℕ → Bool
showed n m = view n 0 m.outputs2 m.outputs2 m.levels2

-- two cards between ticks
pub record Between (n : ℕ) (set : ℕ → Bool) (c d : Card) : Type 0 where
  pub trigger : c.trigger ≡ d.trigger
  pub pointer : c.pointer ≡ d.pointer
  pub connectors : c.connectors ≡ d.connectors
  pub edited : c.edited ≡ d.edited
  pub size : c.size ≡ d.size
  pub tallies : (i : ℕ) → i < n → set (first_cell + i) ≡ false → tally_of c.tallies i ≡ tally_of d.tallies i
  pub total : total_of c ≡ total_of d
  pub cells : (i : ℕ) → i < n → set (first_cell + i) ≡ false → cell_at c i ≡ cell_at d i
  pub driven : LinesOutside set c.memory.driven d.memory.driven
  pub outputs : CellsOutside n set c.memory.outputs d.memory.outputs
  pub outputs2 : CellsOutside n set c.memory.outputs2 d.memory.outputs2
  pub outputs3 : CellsOutside n set c.memory.outputs3 d.memory.outputs3
  pub levels : LinesOutside set c.memory.levels d.memory.levels
  pub levels2 : LinesOutside set c.memory.levels2 d.memory.levels2

module _ (n : ℕ) (set : ℕ → Bool) (k : ℕ) (c d : Card) (holds : Holds n c.cells c.connectors k set) (same : Between n set c d) (x y : Input)
    (attached : SameBut k x.attached y.attached) (but : SameBut k x.sample y.sample) where
  now-lines : Views set (shows n c.memory) (shows n d.memory)
  now-lines = view-outside n 0 set _ _ _ _ _ _ (λ j _ h o. same.outputs j h o) same.outputs same.levels

  before-lines : Views set (showed n c.memory) (showed n d.memory)
  before-lines = view-outside n 0 set _ _ _ _ _ _ (λ j _ h o. same.outputs2 j h o) same.outputs2 same.levels2

  driven-at : (j : ℕ) → j < connector_count → set (first_connector + j) ≡ false
      → driven_at (shows n c.memory) (showed n c.memory) c.connectors j
      ≡ driven_at (shows n d.memory) (showed n d.memory) d.connectors j
  driven-at j h out =
      driven-outside set _ _ _ _ now-lines before-lines c.connectors j (in-or-out _ _ (holds.outputs j h) out)
      ∙ ap (λ (l : Connectors). driven_at (shows n d.memory) (showed n d.memory) l j) same.connectors

  -- a connector outside that shows its sample is another one than the line's
  not_itself : (j : ℕ) → set (first_connector + j) ≡ false → eqb (connector_at c.connectors j).kind push_pull_type ≡ false → j ≡ k → ⊥
  not_itself j out sampled e =
      let itself = holds.itself (ap (λ (i : ℕ). eqb (connector_at c.connectors i).kind push_pull_type) (sym e) ∙ sampled) in
      true≢false (sym itself ∙ ap (λ (i : ℕ). set (first_connector + i)) (sym e) ∙ out)

  pub lines-driven : LinesOutside set (lines n c x).driven (lines n d y).driven
  unfolding lines_of driven_word
  lines-driven j h out = bit-built _ connector_count j h ∙ driven-at j h out ∙ sym (bit-built _ connector_count j h)

  pub lines-levels : LinesOutside set (lines n c x).levels (lines n d y).levels
  unfolding lines_of levels_from
  lines-levels j h out =
      let sample = effective_sample y.sample y.attached in
      let driven = (lines n d y).driven in
      let push = bit_at c.connectors.push_pull j in
      bit-built _ connector_count j h
      ∙ level-outside push (bit_at c.connectors.open_drain j) _ _ _ _ (lines-driven j h out)
      (λ sampled. effective-but k _ _ _ _ attached but j h (not_itself j out (kind-push c.connectors j ∙ sampled)))
      ∙ ap (λ (l : Connectors). level_bit (bit_at l.push_pull j) (bit_at l.open_drain j) (bit_at sample j) (bit_at driven j)) same.connectors
      ∙ sym (bit-built _ connector_count j h)

-- ---- one cell

pub record WiresOutside (n : ℕ) (set : ℕ → Bool) (v w : Wires) : Type 0 where
  pub levels : LinesOutside set v.levels w.levels
  pub levels2 : LinesOutside set v.levels2 w.levels2
  pub levels3 : LinesOutside set v.levels3 w.levels3
  pub outputs : CellsOutside n set v.outputs w.outputs
  pub outputs2 : CellsOutside n set v.outputs2 w.outputs2
  pub outputs3 : CellsOutside n set v.outputs3 w.outputs3

turn-outside : (n : ℕ) (set : ℕ → Bool) (full : Bool) (cell : Cell) (i edited : ℕ) (v w : Wires) (below below' : ℕ) → WiresOutside n set v w
    → ((j : ℕ) → j < i → j < n → set (first_cell + j) ≡ false → bit_at below j ≡ bit_at below' j) → i < n → set (first_cell + i) ≡ false
    → reads_set set cell ≡ false → turn_at n full cell i edited v below ≡ turn_at n full cell i edited w below'
unfolding turn_at named read_now read_last
turn-outside n set full cell i edited v w below below' same hb inside out none =
    let now = slots_read (sees_now n i v below) (saw_last n i v) cell.slots in
    let last = slots_read (saw_last n i v) (saw_earlier n i v) cell.slots in
    let now' = slots_read (sees_now n i w below') (saw_last n i w) cell.slots in
    let last' = slots_read (saw_last n i w) (saw_earlier n i w) cell.slots in
    let sees = view-outside n i set _ _ _ _ _ _ hb same.outputs same.levels in
    let saw = view-outside n i set _ _ _ _ _ _ (λ j _ h o. same.outputs j h o) same.outputs2 same.levels2 in
    let earlier = view-outside n i set _ _ _ _ _ _ (λ j _ h o. same.outputs2 j h o) same.outputs3 same.levels3 in
    let reads_now = slots-outside set _ _ _ _ sees saw cell none in
    let read-last = slots-outside set _ _ _ _ saw earlier cell none in
    let due = wakes-used cell.kind now last now' last' reads_now read-last (state_of cell) (bit_at edited i) in
    let worked = work-used cell.kind cell.config (state_of cell) now now' reads_now in
    λ k. cond (full || due k) (turn_to cell (due k) (worked k)) (slept_turn cell (same.outputs i inside out k))

-- ---- all cells

module _ (n : ℕ) (set : ℕ → Bool) (k : ℕ) (full : Bool) (c d : Card) (holds : Holds n c.cells c.connectors k set) (same : Between n set c d)
    (v w : Wires) (wires : WiresOutside n set v w) where
  turns-outside : (m : ℕ) (j : ℕ) → j < m → j < n → set (first_cell + j) ≡ false
      → turn_of n full c.cells c.edited v j ≡ turn_of n full d.cells d.edited w j
  turns-outside zero j h inside out = absurd (not-suc-le-zero h)
  turns-outside (suc m) j h inside out =
      turn-outside n set full (cell_at c j) j c.edited v w _ _ wires
      (λ i l g o. output-bit n full c.cells c.edited v j i l ∙ ap (λ (t : Turn). t.out) (turns-outside m i (omega arith) g o)
      ∙ sym (output-bit n full d.cells d.edited w j i l))
      inside out (in-or-out _ _ (holds.cells j inside) out)
      ∙ ap₂ (λ (cell : Cell) (e : ℕ). turn_at n full cell j e w (outputs_below n full d.cells d.edited w j)) (same.cells j inside out) same.edited

  pub turn_is : (j : ℕ) → j < n → set (first_cell + j) ≡ false → turn_of n full c.cells c.edited v j ≡ turn_of n full d.cells d.edited w j
  turn_is j h out = turns-outside (suc j) j (omega arith) h out
