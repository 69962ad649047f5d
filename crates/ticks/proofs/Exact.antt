-- A tick works out exactly the cells that are due, on any card.
use Prim.Native.Nat.{ℕ, ◌+◌, ◌-◌, ◌≤◌, ◌<◌}
use mathlib.Core.Path.{◌≡◌, refl, sym, ap, ◌∙◌}
use mathlib.Core.Bool.{Bool}
use mathlib.Core.List.{List, ◌++◌}
use native.Mathlib.Omega.{arith}
use lib.ListN.{drop, get_or}
use lib.Seq.{drop_at, get_or-drop}
use borrow.Author.Tests.{eq-eqb, ne_eqb}
use Rattle.words.specs.Bits.{bit_at, count_of}
use Rattle.words.specs.Listed.{listed}
use Rattle.words.proofs.Laws.{bit-built, built-lt, built-fits, ones-built}
use Rattle.words.proofs.Listed.{front_at, length-listed}
use Rattle.cells.specs.declared.cell.Cell.{Cell}
use Rattle.card.specs.declared.card.Card.{Card}
use Rattle.card.specs.Fresh.{no_cell}
use Rattle.card.proofs.TallyLaws.{tallied-same}
use Rattle.ticks.specs.declared.connectors.Lines.{Lines}
use Rattle.ticks.specs.declared.view.Input.{Input}
use Rattle.ticks.specs.Tick.{read_last, turn_at, cell_after, turn_named, woke_at, turned, wires_of, lines, turned_in, ticked_on, ticked, idle, tick_on, tick}
use Rattle.ticks.specs.Settled.{remembered}
use Rattle.ticks.specs.Exact.{cell_before, cell_named, due_at, cell_exact, output_exact, Exact, WorksExactly}
use Rattle.ticks.proofs.Cases.{turn-named, turn-due, turn-cell, turn-out, tick-other}
use Rattle.ticks.proofs.Sleep.{output-bit}
use Rattle.ticks.proofs.Ticks.{outputs-built}

-- what follows the first n entries stays
past-at : (f : ℕ → Cell) (n : ℕ) (l : List Cell) (i : ℕ) → n ≤ i → get_or (listed f n ++ drop n l) i no_cell ≡ get_or l i no_cell
past-at f n l i h =
    let at : n + (i - n) ≡ i = omega (arith, h) in
    let both = listed f n ++ drop n l in
    ap (λ (j : ℕ). get_or both j no_cell) (sym at)
    ∙ sym (get_or-drop n both (i - n) no_cell)
    ∙ ap (λ (t : List Cell). get_or t (i - n) no_cell) (drop_at (listed f n) (drop n l) n (length-listed f n))
    ∙ get_or-drop n l (i - n) no_cell
    ∙ ap (λ (j : ℕ). get_or l j no_cell) at

counts_same : (f g : ℕ → Bool) (n : ℕ) → ((i : ℕ) → f i ≡ g i) → count_of f n ≡ count_of g n
counts_same f g n same = λ k. count_of (λ i. same i k) n

module _ (n : ℕ) (full : Bool) (c : Card) (l : Lines) where
  -- a cell is due where its turn works it out
  due-at : (i : ℕ) → woke_at n full c.cells c.edited (wires_of c.memory l.levels) i ≡ due_at n full c l.levels i
  unfolding turn_at read_last remembered
  due-at i = turn-due full (cell_before c i) _ _ _ _

  -- and named where its turn says so
  named-on : (i : ℕ) → i < n → bit_at (turned_in n full c l.levels).named i ≡ cell_named n full c l.levels i
  unfolding turned turn_at read_last remembered
  named-on i h =
      let w = wires_of c.memory l.levels in
      bit-built (turn_named n full c.cells c.edited w) n i h
      ∙ turn-named full (cell_before c i) _ _ _ _

  -- each cell, and its output
  pub cell-exact-on : (i : ℕ) → i < n → get_or (ticked_on n full c l).card.cells i no_cell ≡ cell_exact n full c l.levels i
  unfolding turned turn_at read_last remembered
  cell-exact-on i h =
      let w = wires_of c.memory l.levels in
      front_at (cell_after n full c.cells c.edited w) n c.cells i no_cell h
      ∙ turn-cell full (cell_before c i) _ _ _ _

  output-exact : (i : ℕ) → i < n → bit_at (ticked_on n full c l).answer.cells i ≡ output_exact n full c l.levels i
  unfolding turned turn_at read_last remembered
  output-exact i h =
      let w = wires_of c.memory l.levels in
      output-bit n full c.cells c.edited w n i h
      ∙ turn-out full (cell_before c i) _ _ _ _

  ticked-exact : Exact n full c l (ticked_on n full c l)
  unfolding turned
  ticked-exact =
      let w = wires_of c.memory l.levels in
      let woke = woke_at n full c.cells c.edited w in
      record {
        ran = refl;
        woken = λ i h. bit-built woke n i h ∙ due-at i;
        cell = cell-exact-on;
        output = output-exact;
        count = refl;
        counted = ones-built woke n ∙ counts_same woke (due_at n full c l.levels) n due-at;
        set_fits = built-lt woke n;
        word_fits = built-fits _ n _ (outputs-built n full c.cells c.edited w n);
        beyond = past-at (cell_after n full c.cells c.edited w) n c.cells;
        pointer = refl;
        trigger = refl;
        connectors = refl;
        size = refl;
        edited = refl;
        tallies = tallied-same n _ (cell_named n full c l.levels) c.tallies named-on;
        driven = refl;
        memory = refl;
      }

module _ (n : ℕ) (full : Bool) (c : Card) where
  own-exact : (code : ℕ) (l : Lines) → code ≡ c.trigger → Exact n full c l (tick_on n full c code l)
  own-exact code l own = rw (eq-eqb code c.trigger own) (ticked-exact n full c l)

  other-idle : (code : ℕ) (l : Lines) → (code ≡ c.trigger → ⊥) → tick_on n full c code l ≡ idle c
  other-idle code l other = rw (ne_eqb code c.trigger other)

pub works-exactly : (n : ℕ) → WorksExactly n
unfolding tick
works-exactly n =
    record {
      own_on = own-exact n;
      other_on = other-idle n;
      own = λ full c input. own-exact n full c input.code (lines n c input);
      other = λ full c input. tick-other n full c input;
    }

-- a cell after a tick with the card's own lines
pub cell-exact : (n : ℕ) (full : Bool) (c : Card) (input : Input) (i : ℕ) → i < n
    → get_or (ticked n full c input).card.cells i no_cell ≡ cell_exact n full c (lines n c input).levels i
cell-exact n full c input = cell-exact-on n full c (lines n c input)
