-- A steady card: the ticks after the first do what it did, and many of them come to what `card_through` says.
use Prim.Native.Nat.{ℕ, zero, suc, ◌%◌, ◌^◌, ◌≤◌, ◌<◌}
use mathlib.Core.Path.{◌≡◌, refl, sym, ap, subst, ◌∙◌}
use mathlib.Core.Bool.{Bool, true, false, ◌&&◌, cond}
use mathlib.Core.List.{List, ◌++◌}
use mathlib.Core.Logic.{◌⊎◌, inl, inr}
use native.Mathlib.Nat.{le_of_suc-le-suc, eq-or-lt_of_le, not-suc-le-zero, mod-eq_of_lt}
use native.Mathlib.Omega.{arith}
use lib.Count.{ones}
use lib.Dec.{eqb}
use lib.ListN.{drop, get_or, length, take-append-drop}
use lib.Seq.{drop_at}
use borrow.Author.Tests.{eqb-true, eqb-false}
use Rattle.words.specs.Bits.{bit_at, word_of}
use Rattle.words.specs.Listed.{listed}
use Rattle.words.proofs.Bools.{and_left, and_right}
use Rattle.words.proofs.Laws.{bit-built, built-fits}
use Rattle.words.proofs.Listed.{front_at, length-listed, listed_same, listed-take}
use Rattle.cells.specs.declared.cell.Cell.{Cell}
use Rattle.card.specs.declared.card.Card.{Card}
use Rattle.card.specs.declared.card.Memory.{Memory}
use Rattle.card.specs.declared.tallies.Tallies.{Tallies}
use Rattle.card.specs.Fresh.{no_cell}
use Rattle.card.specs.Tally.{tallied_by}
use Rattle.card.proofs.TallyLaws.{by_less, tallied-same}
use Rattle.ticks.specs.declared.connectors.Lines.{Lines}
use Rattle.ticks.specs.declared.view.Input.{Input}
use Rattle.ticks.specs.declared.tick.Turned.{Turned}
use Rattle.ticks.specs.declared.tick.Ticked.{Ticked}
use Rattle.ticks.specs.Tick.{Turn, outputs_below, turned, wires_of, lines, turned_in, ticked, idle, tick}
use Rattle.ticks.specs.Rest.{steady_wires}
use Rattle.ticks.proofs.Cases.{by-tick, tick-own, tick-other, all-or-named}
use Rattle.ticks.proofs.Ticks.{outputs-built}
use Rattle.steady.specs.Steady.{quick_ticks, cell_holds, cell_through, least, least_holds, same_words, same_but}
use Rattle.steady.specs.Steady.{steady_from, steady_for, tallied_for, cells_through, card_through}
use Rattle.steady.proofs.Cells.{turn-through, through-itself, through-zero}
use Rattle.steady.proofs.Tallied.{tallied-zero, tallied-next}
use Rattle.steady.proofs.Turns.{steady_reads, steady_turn, first_out, steady-turned}

-- ---- the least of all cells

least-left : (a b : ℕ) → least a b ≤ a
least-left a b = by_less b a (λ t. cond t b a ≤ a) (λ h. omega arith) (λ h. omega arith)

least-right : (a b : ℕ) → least a b ≤ b
least-right a b = by_less b a (λ t. cond t b a ≤ b) (λ h. omega arith) (λ h. omega arith)

pub least_at : (n : ℕ) (before after : List Cell) (i : ℕ) → i < n → least_holds n before after ≤ cell_holds (get_or before i no_cell) (get_or after i no_cell)
unfolding least_holds
least_at zero before after i h = absurd (not-suc-le-zero h)
least_at (suc n) before after i h = go (least_at n before after i) (eq-or-lt_of_le (le_of_suc-le-suc h))
  where
    a : ℕ
    a = least_holds n before after

    b : ℕ → ℕ
    b j = cell_holds (get_or before j no_cell) (get_or after j no_cell)

    go : (i < n → a ≤ b i) → (i ≡ n) ⊎ (i < n) → least a (b n) ≤ b i
    go below (inl e) = subst (λ (j : ℕ). least a (b n) ≤ b j) (sym e) (least-right a (b n))
    go below (inr l) = omega (arith, least-left a (b n), below l)

-- ---- what the test says

pub record SameMemory (a b : Memory) : Type 0 where
  pub driven : a.driven ≡ b.driven
  pub pulled : a.pulled ≡ b.pulled
  pub levels : a.levels ≡ b.levels
  pub levels2 : a.levels2 ≡ b.levels2
  pub outputs : a.outputs ≡ b.outputs
  pub outputs2 : a.outputs2 ≡ b.outputs2
  pub outputs3 : a.outputs3 ≡ b.outputs3

pub same-means : (c d : Card) → same_but c d ≡ true → (c.edited ≡ d.edited) × SameMemory c.memory d.memory
unfolding same_but
same-means c d h =
    let a = c.memory in
    let b = d.memory in
    let rest = and_right (eqb c.edited d.edited) _ h in
    let words = and_left (same_words a b) _ rest in
    let outs = and_right (same_words a b) _ rest in
    let first = and_left _ _ words in
    let second = and_right (eqb a.driven b.driven && eqb a.pulled b.pulled) _ words in
    let pair = and_left _ _ outs in (
      eqb-true _ _ (and_left (eqb c.edited d.edited) _ h),
      record {
        driven = eqb-true _ _ (and_left (eqb a.driven b.driven) _ first);
        pulled = eqb-true _ _ (and_right (eqb a.driven b.driven) _ first);
        levels = eqb-true _ _ (and_left (eqb a.levels b.levels) _ second);
        levels2 = eqb-true _ _ (and_right (eqb a.levels b.levels) _ second);
        outputs = eqb-true _ _ (and_left (eqb a.outputs b.outputs) _ pair);
        outputs2 = eqb-true _ _ (and_right (eqb a.outputs b.outputs) _ pair);
        outputs3 = eqb-true _ _ (and_right (eqb a.outputs b.outputs && eqb a.outputs2 b.outputs2) _ outs);
      },
    )

-- ---- a tick that runs, and the ticks after it

module _ (n : ℕ) (c : Card) (input : Input) (same : same_but c (ticked n false c input).card ≡ true) where
  first : Ticked
  first = ticked n false c input

  m : Memory
  m = c.memory

  o : ℕ
  o = m.outputs

  l : ℕ
  l = m.levels

  L : Lines
  L = lines n c input

  U : Turned
  U = turned_in n false c L.levels

  unedited : c.edited ≡ 0
  unedited = (same-means c (ticked n false c input).card same).0

  kept : SameMemory m (ticked n false c input).card.memory
  unfolding m
  kept = (same-means c (ticked n false c input).card same).1

  fits : o < 2 ^ n
  unfolding o m turned
  fits = subst (λ (x : ℕ). x < 2 ^ n) (sym kept.outputs)
      (built-fits _ n _ (outputs-built n false c.cells c.edited (wires_of m (lines n c input).levels) n))

  whole : o % 2 ^ n ≡ o
  unfolding o m
  whole = mod-eq_of_lt fits

  second : m.outputs2 ≡ o
  unfolding o m
  second = kept.outputs2 ∙ whole

  third : m.outputs3 ≡ o
  unfolding o m
  third = kept.outputs3 ∙ ap (λ (x : ℕ). x % 2 ^ n) second ∙ whole

  wires : wires_of c.memory (lines n c input).levels ≡ steady_wires o l
  unfolding o l m
  wires = λ k. record {
    levels = sym kept.levels k;
    levels2 = m.levels;
    levels3 = kept.levels2 k;
    outputs = o;
    outputs2 = second k;
    outputs3 = third k;
  }

  -- the turns of the first tick
  turn : ℕ → Turn
  turn i = steady_turn n o l i (get_or c.cells i no_cell)

  outs-same : outputs_below n false c.cells 0 (steady_wires o l) n ≡ o
  unfolding o l m turned
  outs-same = (λ k. outputs_below n false c.cells (sym unedited k) (sym wires k) n) ∙ sym kept.outputs

  outs : (i : ℕ) → i < n → (turn i).out ≡ bit_at o i
  unfolding turn
  outs i h = first_out n o l c.cells outs-same i h

  is-first : turned_in n false c (lines n c input).levels
      ≡ record {
        cells = listed (λ i. (turn i).cell) n ++ drop n c.cells;
        outputs = o;
        named = word_of (λ i. (turn i).named) n;
        woken = word_of (λ i. (turn i).woke) n;
      }
  unfolding turn
  is-first = (λ k. turned n false c.cells (unedited k) (wires k)) ∙ steady-turned n o l c.cells turn (λ i h. refl) outs fits

  after : (i : ℕ) → i < n → get_or (ticked n false c input).card.cells i no_cell ≡ (turn i).cell
  after i h = ap (λ (u : Turned). get_or u.cells i no_cell) is-first ∙ front_at (λ i. (turn i).cell) n c.cells i no_cell h

  -- a card after k ticks
  module _ (k : ℕ) (holds : suc k ≤ least_holds n c.cells (ticked n false c input).card.cells) where
    cells : List Cell
    cells = cells_through n c.cells (ticked n false c input).card.cells k

    b : ℕ → Cell
    b i = get_or (ticked n false c input).card.cells i no_cell

    a : ℕ → Cell
    a i = get_or c.cells i no_cell

    next : ℕ → Turn
    next i = record { cell = cell_through (a i) (b i) (suc k); out = bit_at o i; named = (turn i).named; woke = (turn i).woke }

    is_at : (i : ℕ) → i < n → get_or cells i no_cell ≡ cell_through (a i) (b i) k
    unfolding cells a b
    is_at i h = front_at (λ i. cell_through (a i) (b i) k) n c.cells i no_cell h

    each : (i : ℕ) → i < n → steady_turn n o l i (get_or cells i no_cell) ≡ next i
    unfolding next a b turn steady_reads
    each i h =
        let P : Cell → Type 0 = λ x. suc k ≤ cell_holds (a i) x
        → steady_turn n o l i (cell_through (a i) x k)
        ≡ record { cell = cell_through (a i) x (suc k); out = bit_at o i; named = (turn i).named; woke = (turn i).woke } in
        let step : P (b i) = subst P (sym (after i h)) (turn-through (a i) (bit_at o i) (steady_reads n o l (a i)) k (outs i h)) in
        ap (steady_turn n o l i) (is_at i h) ∙ step (omega (arith, least_at n c.cells (ticked n false c input).card.cells i h))

    is-next : turned n false cells c.edited (wires_of c.memory (lines n c input).levels)
        ≡ record {
          cells = cells_through n c.cells (ticked n false c input).card.cells (suc k);
          outputs = o;
          named = word_of (λ i. (turn i).named) n;
          woken = word_of (λ i. (turn i).woke) n;
        }
    unfolding next a b cells
    is-next =
        (λ j. turned n false cells (unedited j) (wires j)) ∙ steady-turned n o l cells next each (λ i h. refl) fits
        ∙ (λ j. record {
          cells = listed (λ i. cell_through (a i) (b i) (suc k)) n
              ++ drop_at (listed (λ i. cell_through (a i) (b i) k) n) (drop n c.cells) n (length-listed (λ i. cell_through (a i) (b i) k) n) j;
          outputs = o;
          named = word_of (λ i. (turn i).named) n;
          woken = word_of (λ i. (turn i).woke) n;
        })

    set_same : (turned n false cells c.edited (wires_of c.memory (lines n c input).levels)).woken ≡ (turned_in n false c (lines n c input).levels).woken
    set_same = ap (λ (u : Turned). u.woken) is-next ∙ sym (ap (λ (u : Turned). u.woken) is-first)

    -- the rules name the cells that the first tick woke
    names_same : (i : ℕ) → i < n
        → bit_at (turned n false cells c.edited (wires_of c.memory (lines n c input).levels)).named i
        ≡ bit_at (turned_in n false c (lines n c input).levels).woken i
    unfolding turn
    names_same i h =
        ap (λ (u : Turned). bit_at u.named i) is-next ∙ bit-built (λ i. (turn i).named) n i h
        ∙ sym (all-or-named false (get_or c.cells i no_cell) false (bit_at o i) _ _)
        ∙ sym (ap (λ (u : Turned). bit_at u.woken i) is-first ∙ bit-built (λ i. (turn i).woke) n i h)

    tallied : (t : Tallies)
        → tallied_by n (bit_at (turned n false cells c.edited (wires_of c.memory (lines n c input).levels)).named)
        (tallied_for n (bit_at (turned_in n false c (lines n c input).levels).woken) k t)
        ≡ tallied_for n (bit_at (turned_in n false c (lines n c input).levels).woken) (suc k) t
    tallied t = tallied-same n _ _ _ names_same ∙ tallied-next n _ t k

    pub through-ticked : ticked n false (card_through n c (ticked n false c input) k) input
        ≡ record { card = card_through n c (ticked n false c input) (suc k); answer = (ticked n false c input).answer }
    unfolding card_through cells m o l
    through-ticked =
        let out = ap (λ (u : Turned). u.outputs) is-next in
        λ j.
        record {
          card = record {
            pointer = c.pointer;
            trigger = c.trigger;
            cells = (is-next j).cells;
            connectors = c.connectors;
            edited = sym unedited j;
            memory = record {
              driven = sym kept.driven j;
              pulled = sym kept.pulled j;
              outputs = out j;
              outputs2 = sym kept.outputs2 j;
              outputs3 = sym kept.outputs3 j;
              levels = sym kept.levels j;
              levels2 = sym kept.levels2 j;
            };
            size = c.size;
            tallies = tallied c.tallies j;
          };
          answer = record {
            ran = true;
            driven = (lines n c input).driven;
            cells = (out ∙ kept.outputs) j;
            woken = set_same j;
            count = ones (set_same j);
          };
        }

-- ---- any tick

pub steady-means : (n k : ℕ) (c d : Card) → suc k ≤ steady_from n c d → (same_but c d ≡ true) × (suc k ≤ least_holds n c.cells d.cells)
unfolding steady_from
steady-means n k c d = go (same_but c d)
  where
    go : (b : Bool) → suc k ≤ cond b (least_holds n c.cells d.cells) 0 → (b ≡ true) × (suc k ≤ least_holds n c.cells d.cells)
    go true h = (refl, h)
    go false h = absurd (not-suc-le-zero h)

-- what each of the first n entries is
kept-cells : (n : ℕ) (f : ℕ → Cell) (l : List Cell) → n ≤ length l → ((i : ℕ) → f i ≡ get_or l i no_cell) → listed f n ++ drop n l ≡ l
kept-cells n f l h same =
    ap (λ (x : List Cell). x ++ drop n l) (listed_same f (λ i. get_or l i no_cell) n (λ i _. same i) ∙ listed-take l no_cell n h) ∙ take-append-drop n l

module _ (n : ℕ) (c : Card) (hc : n ≤ length c.cells) where
  -- a tick that was idle, however often
  idle-through : (k : ℕ) → card_through n c (idle c) k ≡ c
  unfolding card_through
  idle-through k =
      let cells = kept-cells n _ c.cells hc (λ i. through-itself (get_or c.cells i no_cell) k) in
      λ j. record {
        pointer = c.pointer;
        trigger = c.trigger;
        cells = cells j;
        connectors = c.connectors;
        edited = c.edited;
        memory = c.memory;
        size = c.size;
        tallies = c.tallies;
      }

  -- no tick
  pub none-through : (t : Ticked) → n ≤ length c.tallies.cells → card_through n c t 0 ≡ c
  unfolding card_through
  none-through t ht =
      let cells = kept-cells n _ c.cells hc (λ i. through-zero (get_or c.cells i no_cell) (get_or t.card.cells i no_cell)) in
      let tallies = go t.answer.ran in
      λ j. record {
        pointer = c.pointer;
        trigger = c.trigger;
        cells = cells j;
        connectors = c.connectors;
        edited = c.edited;
        memory = c.memory;
        size = c.size;
        tallies = tallies j;
      }
    where
      go : (b : Bool) → cond b (tallied_for n (bit_at t.answer.woken) 0 c.tallies) c.tallies ≡ c.tallies
      go true = tallied-zero n (bit_at t.answer.woken) c.tallies ht
      go false = refl

  -- one tick more
  pub through-tick : (input : Input) (k : ℕ) → suc k ≤ steady_for n c input
      → tick n false (card_through n c (tick n false c input) k) input
      ≡ record { card = card_through n c (tick n false c input) (suc k); answer = (tick n false c input).answer }
  unfolding steady_for card_through
  through-tick input k = by-tick n false c input P own other
    where
      P : Ticked → Type 0
      P t = suc k ≤ steady_from n c t.card
          → tick n false (card_through n c t k) input ≡ record { card = card_through n c t (suc k); answer = t.answer }

      own : eqb input.code c.trigger ≡ true → P (ticked n false c input)
      own e h =
          let s = steady-means n k c (ticked n false c input).card h in
          tick-own n false (card_through n c (ticked n false c input) k) input (eqb-true input.code c.trigger e)
          ∙ through-ticked n c input s.0 k s.1

      other : eqb input.code c.trigger ≡ false → P (idle c)
      other e h =
          ap (λ (d : Card). tick n false d input) (idle-through k)
          ∙ tick-other n false c input (eqb-false input.code c.trigger e)
          ∙ (λ j. record { card = sym (idle-through (suc k)) j; answer = (idle c).answer })

  -- all of them: in a steady stretch many ticks at once are so many quick ticks one after the other
  pub steady-ticks : (input : Input) → n ≤ length c.tallies.cells → (k : ℕ) → suc k ≤ steady_for n c input
      → quick_ticks n c input (suc k) ≡ record { card = card_through n c (tick n false c input) (suc k); answer = (tick n false c input).answer }
  unfolding quick_ticks
  steady-ticks input ht zero h =
      ap (λ (d : Card). tick n false d input) (sym (none-through (tick n false c input) ht)) ∙ through-tick input 0 h
  steady-ticks input ht (suc k) h =
      let less : suc k ≤ steady_for n c input = omega arith in
      ap (λ (t : Ticked). tick n false t.card input) (steady-ticks input ht k less) ∙ through-tick input (suc k) h
