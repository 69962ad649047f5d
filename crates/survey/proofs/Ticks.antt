-- Two runs that differ in one line agree outside a set that holds what depends on it: a tick, and lists of ticks.
use Prim.Native.Nat.{ℕ, ◌+◌, ◌-◌, ◌%◌, ◌^◌, ◌<◌}
use mathlib.Core.Path.{◌≡◌, refl, sym, ap, ap₂, subst, ◌∙◌}
use mathlib.Core.Bool.{Bool, true, false, cond}
use mathlib.Core.List.{[], ◌∷◌}
use lib.Dec.{eqb, ltb}
use Rattle.words.specs.Bits.{word_of}
use Rattle.words.proofs.Laws.{bit-built}
use Rattle.words.proofs.Listed.{front_at}
use Rattle.cells.specs.declared.cell.Cell.{Cell}
use Rattle.card.specs.declared.card.Card.{Card}
use Rattle.card.specs.Address.{first_cell, first_connector}
use Rattle.card.specs.declared.tallies.Tallies.{Tallies}
use Rattle.card.specs.Fresh.{no_cell}
use Rattle.card.specs.Tally.{ticks, standstill, tally_of, counted, tallied_by}
use Rattle.card.proofs.TallyLaws.{tallied-total, tallied-at, tallied-off}
use Rattle.ticks.specs.declared.view.Input.{Input}
use Rattle.ticks.specs.declared.view.Wires.{Wires}
use Rattle.ticks.specs.Tick.{Turn, turn_at, outputs_below, cell_after, turn_named, woke_at, turned, wires_of, lines, ticked, idle, tick}
use Rattle.ticks.specs.Runs.{Ticks, after_tick, cell_at}
use Rattle.ticks.proofs.Cases.{by_turn, by-tick, by-ticks}
use Rattle.ticks.proofs.Sleep.{output-bit}
use Rattle.ticks.proofs.Trim.{cut}
use Rattle.survey.specs.Survey.{reads_set, Holds, set_of}
use Rattle.survey.specs.Unreached.{SameBut, AlikeTick, AlikeButLine, CellsOutside, AgreeOutside, AlwaysOutside, Unreached}
use Rattle.survey.proofs.Outside.{Between, WiresOutside, lines-driven, lines-levels, turn_is}

-- ---- one tick

pub reads-stays : (set : ℕ → Bool) (n : ℕ) (full : Bool) (cell : Cell) (i edited : ℕ) (w : Wires) (below : ℕ)
    → reads_set set (turn_at n full cell i edited w below).cell ≡ reads_set set cell
unfolding reads_set turn_at
reads-stays set n full cell i edited w below =
    by_turn full cell _ _ _ _ (λ t. reads_set set t.cell ≡ reads_set set cell) (λ _. refl) (λ _. refl)

-- the tally of a cell that both ticks name or both do not, of two cards that have run for as many ticks
tally-alike : (n i : ℕ) (f g : ℕ → Bool) (t u : Tallies) → i < n → t.total.0 ≡ u.total.0 → tally_of t i ≡ tally_of u i → f i ≡ g i
    → tally_of (tallied_by n f t) i ≡ tally_of (tallied_by n g u) i
tally-alike n i f g t u h totals tallies named = go (ltb t.total.0 standstill) refl
  where
    other : (b : Bool) → ltb t.total.0 standstill ≡ b → ltb u.total.0 standstill ≡ b
    other b e = ap (λ (x : ℕ). ltb x standstill) (sym totals) ∙ e

    go : (b : Bool) → ltb t.total.0 standstill ≡ b → tally_of (tallied_by n f t) i ≡ tally_of (tallied_by n g u) i
    go true e =
        tallied-at n f t i h e ∙ ap₂ (λ (b : Bool) (v : ℕ). (counted b (ticks v)).0) named tallies ∙ sym (tallied-at n g u i h (other true e))
    go false e =
        ap (λ (x : Tallies). tally_of x i) (tallied-off n f t e) ∙ tallies ∙ sym (ap (λ (x : Tallies). tally_of x i) (tallied-off n g u (other false e)))

total-alike : (n : ℕ) (f g : ℕ → Bool) (t u : Tallies) → t.total.0 ≡ u.total.0 → (tallied_by n f t).total.0 ≡ (tallied_by n g u).total.0
total-alike n f g t u totals =
    tallied-total n f t ∙ ap (λ (x : ℕ). cond (ltb x standstill) (x + 1) x) totals ∙ sym (tallied-total n g u)

module _ (n : ℕ) (set : ℕ → Bool) (k : ℕ) where
  holds_on : (c : Card) (t : Bool × Input) → Holds n c.cells c.connectors k set
      → Holds n (after_tick n c t).cells (after_tick n c t).connectors k set
  unfolding turned
  holds_on c t holds =
      let w = wires_of c.memory (lines n c t.1).levels in
      by-tick n t.0 c t.1 (λ r. Holds n r.card.cells r.card.connectors k set)
      (λ _.
      record {
        itself = holds.itself;
        cells = λ i h e. holds.cells i h
            (sym (ap (reads_set set) (front_at (cell_after n t.0 c.cells c.edited w) n c.cells i no_cell h)
            ∙ reads-stays set n t.0 (cell_at c i) i c.edited w (outputs_below n t.0 c.cells c.edited w i)) ∙ e);
        outputs = holds.outputs;
      }) (λ _. holds)

  -- what a tick cuts off above the n cells is at no cell
  cut-outside : (v w : ℕ) → CellsOutside n set v w → CellsOutside n set (v % 2 ^ n) (w % 2 ^ n)
  cut-outside v w same i h out = cut n v i h ∙ same i h out ∙ sym (cut n w i h)

  -- two ticks of one kind that run, and two that are idle
  ran-outside : (full : Bool) (c d : Card) (x y : Input) → Holds n c.cells c.connectors k set → Between n set c d
      → SameBut k x.attached y.attached → SameBut k x.sample y.sample
      → AgreeOutside n set (ticked n full c x) (ticked n full d y) × Between n set (ticked n full c x).card (ticked n full d y).card
  unfolding turned
  ran-outside full c d x y holds same attached sample =
      let v = wires_of c.memory (lines n c x).levels in
      let w = wires_of d.memory (lines n d y).levels in
      let levels = lines-levels n set k c d holds same x y attached sample in
      let driven = lines-driven n set k c d holds same x y attached sample in
      let wires : WiresOutside n set v w = record {
        levels = levels;
        levels2 = same.levels;
        levels3 = same.levels2;
        outputs = same.outputs;
        outputs2 = same.outputs2;
        outputs3 = same.outputs3;
      } in
      let turn = turn_is n set k full c d holds same v w wires in
      let cells : (i : ℕ) → i < n → set (first_cell + i) ≡ false
      → cell_at (ticked n full c x).card i ≡ cell_at (ticked n full d y).card i = λ i h o.
      front_at (cell_after n full c.cells c.edited v) n c.cells i no_cell h ∙ ap (λ (r : Turn). r.cell) (turn i h o)
      ∙ sym (front_at (cell_after n full d.cells d.edited w) n d.cells i no_cell h) in
      let outputs : CellsOutside n set (outputs_below n full c.cells c.edited v n) (outputs_below n full d.cells d.edited w n) = λ i h o.
      output-bit n full c.cells c.edited v n i h ∙ ap (λ (r : Turn). r.out) (turn i h o)
      ∙ sym (output-bit n full d.cells d.edited w n i h) in
      let woken : CellsOutside n set (word_of (woke_at n full c.cells c.edited v) n)
      (word_of (woke_at n full d.cells d.edited w) n) = λ i h o.
      bit-built (woke_at n full c.cells c.edited v) n i h ∙ ap (λ (r : Turn). r.woke) (turn i h o)
      ∙ sym (bit-built (woke_at n full d.cells d.edited w) n i h) in
      let tallies : (i : ℕ) → i < n → set (first_cell + i) ≡ false
      → tally_of (ticked n full c x).card.tallies i ≡ tally_of (ticked n full d y).card.tallies i = λ i h o.
      tally-alike n i _ _ c.tallies d.tallies h same.total (same.tallies i h o)
      (bit-built (turn_named n full c.cells c.edited v) n i h ∙ ap (λ (r : Turn). r.named) (turn i h o)
      ∙ sym (bit-built (turn_named n full d.cells d.edited w) n i h)) in
      let total = total-alike n _ _ c.tallies d.tallies same.total in (
        record {
          cells = cells;
          outputs = outputs;
          levels = levels;
          driven = driven;
          connectors = same.connectors;
          trigger = same.trigger;
          pointer = same.pointer;
          edited = refl;
          size = same.size;
          tallies = tallies;
          total = total;
          ran = refl;
          woken = woken;
          shown = outputs;
          drove = driven;
        },
        record {
          trigger = same.trigger;
          pointer = same.pointer;
          connectors = same.connectors;
          edited = refl;
          size = same.size;
          tallies = tallies;
          total = total;
          cells = cells;
          driven = driven;
          outputs = outputs;
          outputs2 = cut-outside c.memory.outputs d.memory.outputs same.outputs;
          outputs3 = cut-outside c.memory.outputs2 d.memory.outputs2 same.outputs2;
          levels = levels;
          levels2 = same.levels;
        },
      )

  idle-outside : (c d : Card) → Between n set c d → AgreeOutside n set (idle c) (idle d)
  idle-outside c d same =
      record {
        cells = same.cells;
        outputs = same.outputs;
        levels = same.levels;
        driven = same.driven;
        connectors = same.connectors;
        trigger = same.trigger;
        pointer = same.pointer;
        edited = same.edited;
        size = same.size;
        tallies = same.tallies;
        total = same.total;
        ran = refl;
        woken = λ i h o. refl;
        shown = λ i h o. refl;
        drove = λ j h o. refl;
      }

  -- two ticks, and the cards after them
  tick-outside : (c d : Card) (t u : Bool × Input) → Holds n c.cells c.connectors k set → Between n set c d → AlikeTick k t u
      → AgreeOutside n set (tick n t.0 c t.1) (tick n u.0 d u.1) × Between n set (after_tick n c t) (after_tick n d u)
  tick-outside c d t u holds same alike =
      let ran = ran-outside t.0 c d t.1 u.1 holds same alike.attached alike.sample in
      by-ticks n t.0 u.0 c d t.1 u.1 (ap₂ eqb alike.code same.trigger) (λ a b. AgreeOutside n set a b × Between n set a.card b.card)
      (subst (λ (f : Bool). let a = ticked n t.0 c t.1 in
      let b = ticked n f d u.1 in
      AgreeOutside n set a b × Between n set a.card b.card) alike.kind ran)
      (idle-outside c d same, same)

  -- ---- the theorem, for every set that holds what depends on the line

  pub always-outside : (ts us : Ticks) (c d : Card) → Holds n c.cells c.connectors k set → Between n set c d → AlikeButLine k ts us
      → AlwaysOutside n set c ts d us
  unfolding AlikeButLine AlwaysOutside
  always-outside [] [] c d holds same alike = tt
  always-outside [] (u ∷ us) c d holds same alike = alike
  always-outside (t ∷ ts) [] c d holds same alike = alike
  always-outside (t ∷ ts) (u ∷ us) c d holds same alike =
      let both = tick-outside c d t u holds same alike.0 in
      (both.0, always-outside ts us (after_tick n c t) (after_tick n d u) (holds_on c t holds) both.1 alike.1)

-- a card is like itself
alike-itself : (n : ℕ) (set : ℕ → Bool) (c : Card) → Between n set c c
alike-itself n set c = record {
  trigger = refl;
  pointer = refl;
  connectors = refl;
  edited = refl;
  size = refl;
  tallies = λ i h o. refl;
  total = refl;
  cells = λ i h o. refl;
  driven = λ j h o. refl;
  outputs = λ i h o. refl;
  outputs2 = λ i h o. refl;
  outputs3 = λ i h o. refl;
  levels = λ j h o. refl;
  levels2 = λ j h o. refl;
}

pub unreached : (n : ℕ) → Unreached n
unfolding Unreached
unreached n c place r surveyed is ts us alike =
    let set = set_of n r.cells r.connectors in
    always-outside n set (place - first_connector) ts us c c (surveyed.smallest is).holds (alike-itself n set c) alike
