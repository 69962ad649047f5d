-- The theorems of ticks: the count is the number of woken cells, the memory holds what was read,
-- and on a settled card a quick tick does what a full one does. A fresh card is settled and every
-- tick keeps it so.
use Prim.Native.Nat.{ℕ, zero, suc, ◌+◌, ◌-◌, ◌*◌, ◌%◌, ◌^◌, ◌≤◌, ◌<◌}
use mathlib.Core.Path.{◌≡◌, refl, sym, ap, ap₂, ◌∙◌}
use mathlib.Core.Bool.{Bool, true, false, ◌||◌, cond}
use mathlib.Core.List.{List, ◌++◌}
use native.Mathlib.Nat.{le_refl, lt_of_lt_of_le, le_of_lt}
use native.Mathlib.Decide.{dec_lt}
use native.Mathlib.Omega.{arith}
use lib.Count.{ones}
use lib.Dec.{ltb}
use lib.ListN.{drop, get_or, get_or-replicate, replicate, length-replicate, get_or-append}
use borrow.Author.Tests.{lt-ltb, le-ltb}
use Rattle.words.specs.Bits.{bit_at, bit_number, word_of, count_of}
use Rattle.words.specs.Listed.{listed}
use Rattle.words.proofs.Bools.{or_right}
use Rattle.words.proofs.Laws.{bit-zero, bit-built, built-all, built-same, ones-built}
use Rattle.words.proofs.Listed.{front_at, listed_same}
use Rattle.cells.specs.declared.table.Slots.{Slots}
use Rattle.cells.specs.declared.cell.Cell.{Cell}
use Rattle.cells.specs.declared.cell.Worked.{Worked}
use Rattle.cells.specs.State.{state_of}
use Rattle.cells.specs.Wake.{stirred, disagree}
use Rattle.cells.proofs.Laws.{again, constant-works, sleeps, disagree-sym, disagree-trans}
use Rattle.card.specs.declared.card.Card.{Card}
use Rattle.card.specs.declared.card.Memory.{Memory}
use Rattle.card.specs.Address.{cell_count, cell_room}
use Rattle.card.specs.Fresh.{clear_state, fresh_cell, no_memory, started, fresh_of, no_cell}
use Rattle.card.specs.declared.card.Connectors.{Connectors}
use Rattle.card.specs.Untouched.{Edit}
use Rattle.card.proofs.EditLaws.{all-edited}
use Rattle.ticks.specs.declared.connectors.Lines.{Lines}
use Rattle.ticks.specs.declared.view.Input.{Input}
use Rattle.ticks.specs.declared.view.Wires.{Wires}
use Rattle.ticks.specs.Reading.{level_at, slots_read, mixed, view}
use Rattle.ticks.specs.Tick.{read_now, read_last, turn_to, worked_turn, named, turn_at, outputs_below, cell_after, turn_named, woke_at, turned}
use Rattle.ticks.specs.Tick.{trimmed, wires_of, lines, card_after, read_on, read_in, ticked_on, ticked, tick_on, tick}
use Rattle.ticks.specs.Settled.{remembered, Keeps, Settled, AlikeTicks}
use Rattle.ticks.specs.Examples.{clock0, unsettled, wrong_stays, wrong-goes}
use Rattle.ticks.proofs.Cases.{by_turn, turn-named, all-or-named, by-tick-on, by-ticks-on}
use Rattle.ticks.proofs.Trim.{view-agree, cut}
use Rattle.ticks.proofs.Views.{view-low}
use Rattle.ticks.proofs.Ticks.{out_at, outputs-built}

-- ---- what a reader sees of the outputs

mixed-same : (i below other others j : ℕ) → ((j : ℕ) → j < i → bit_at below j ≡ bit_at other j) → mixed i below others j ≡ mixed i other others j
unfolding mixed
mixed-same i below other others j same = go (dec_lt j i)
  where
    go : Dec (j < i) → cond (ltb j i) (bit_at below j) (bit_at others j) ≡ cond (ltb j i) (bit_at other j) (bit_at others j)
    go (yes h) = rw (lt-ltb j i h) (same j h)
    go (no h) =
        let g : i ≤ j = omega arith in
        rw (le-ltb j i g)

-- a reader in position i sees of this tick's outputs only those of cells below i
pub view-same : (n i below other others levels : ℕ) → ((j : ℕ) → j < i → bit_at below j ≡ bit_at other j)
    → view n i below others levels ≡ view n i other others levels
unfolding view
view-same n i below other others levels same = λ k b. level_at n (λ j. mixed-same i below other others j same k) (bit_at levels) b

module _ (n : ℕ) (full : Bool) (cells : List Cell) (edited : ℕ) (w : Wires) where
  -- the output of each cell is in the cell word, and in every word of outputs above it
  pub output-bit : (m i : ℕ) → i < m → bit_at (outputs_below n full cells edited w m) i ≡ out_at n full cells edited w i
  output-bit m i h = ap (λ (x : ℕ). bit_at x i) (outputs-built n full cells edited w m) ∙ bit-built (out_at n full cells edited w) m i h

  outputs-agree : (m i : ℕ) → i ≤ m → (j : ℕ) → j < i → bit_at (outputs_below n full cells edited w m) j ≡ bit_at (outputs_below n full cells edited w i) j
  outputs-agree m i h j k = output-bit m j (lt_of_lt_of_le k h) ∙ sym (output-bit i j k)

  -- what a reader in position i read in a tick is what the whole cell word would have it read
  pub read_whole : (m i : ℕ) (s : List ℕ) → i ≤ m
      → read_now n i w (outputs_below n full cells edited w m) s ≡ read_now n i w (outputs_below n full cells edited w i) s
  unfolding read_now
  read_whole m i s h =
      ap (λ (f : ℕ → Bool). slots_read f (view n i w.outputs w.outputs2 w.levels2) s)
      (view-same n i (outputs_below n full cells edited w m) (outputs_below n full cells edited w i) w.outputs w.levels (outputs-agree m i h))

-- ---- the woken set

-- the number of ones in a word of n tests is the number of tests that hold: the count in an answer
-- is the number of woken cells
pub count-is : (n : ℕ) (full : Bool) (cells : List Cell) (edited : ℕ) (w : Wires)
    → ones (turned n full cells edited w).woken ≡ count_of (woke_at n full cells edited w) n
unfolding turned
count-is n full cells edited w = ones-built (woke_at n full cells edited w) n

-- a full tick's set is all ones
pub full-set : (n : ℕ) (cells : List Cell) (edited : ℕ) (w : Wires) → (turned n true cells edited w).woken ≡ 2 ^ n - 1
unfolding turned turn_at
full-set n cells edited w = built-all n

-- document 02, "Thirty-two cells": "a full tick's set all ones"
pub full-large : (cells : List Cell) (edited : ℕ) (w : Wires) → (turned cell_room true cells edited w).woken ≡ 4294967295
full-large cells edited w = full-set cell_room cells edited w

-- the set has a cell where the tick is full or the rules name it
pub woken-set : (n : ℕ) (full : Bool) (cells : List Cell) (edited : ℕ) (w : Wires) (i : ℕ) → i < n
    → bit_at (turned n full cells edited w).woken i ≡ (full || turn_named n full cells edited w i)
unfolding turned turn_at
woken-set n full cells edited w i h = bit-built (woke_at n full cells edited w) n i h ∙ all-or-named full (get_or cells i no_cell) _ _ _ _

-- whom the rules name: it goes by the cells below, as the tick left them
pub named-at : (n : ℕ) (full : Bool) (cells : List Cell) (edited : ℕ) (w : Wires) (i : ℕ)
    → turn_named n full cells edited w i ≡ named n (get_or cells i no_cell) i edited w (outputs_below n full cells edited w i)
unfolding turn_at named
named-at n full cells edited w i = turn-named full (get_or cells i no_cell) _ _ _ _

-- a quick tick's set is exactly the cells that the rules name
pub quick-set : (n : ℕ) (cells : List Cell) (edited : ℕ) (w : Wires) (i : ℕ) → i < n
    → bit_at (turned n false cells edited w).woken i ≡ named n (get_or cells i no_cell) i edited w (outputs_below n false cells edited w i)
quick-set n cells edited w i h = woken-set n false cells edited w i h ∙ named-at n false cells edited w i

-- ---- the memory

-- after a tick that ran, the memory says of each reader what it read in it: cells and connectors,
-- levels and edges
pub remembers-on : (n : ℕ) (full : Bool) (c : Card) (l : Lines) (i : ℕ) (s : List ℕ) → i ≤ n
    → remembered n i (ticked_on n full c l).card.memory s ≡ read_on n full c l.levels i s
unfolding remembered turned read_now
remembers-on n full c l i s h =
    let m = c.memory in
    let w = wires_of m l.levels in
    let o = outputs_below n full c.cells c.edited w n in
    let now = view-agree n i o o (m.outputs % 2 ^ n) m.outputs l.levels (λ j k. refl) (cut n m.outputs) in
    let last = view-agree n i _ m.outputs _ m.outputs2 m.levels (cut n m.outputs) (cut n m.outputs2) in
    (λ k. slots_read (now k) (last k) s) ∙ read_whole n full c.cells c.edited w n i s h

pub remembers : (n : ℕ) (full : Bool) (c : Card) (input : Input) (i : ℕ) (s : List ℕ) → i ≤ n
    → remembered n i (ticked n full c input).card.memory s ≡ read_in n full c input i s
remembers n full c input = remembers-on n full c (lines n c input)

-- before a tick, what its readers had read in the last one is what the memory says
pub recalls : (n i : ℕ) (m : Memory) (levels : ℕ) (s : List ℕ) → read_last n i (wires_of m levels) s ≡ remembered n i m s
unfolding read_last remembered
recalls n i m levels s = refl

-- a card that powers up remembers that every level was low
pub started-low : (n i : ℕ) → remembered n i no_memory ≡ slots_read (λ b. false) (λ b. false)
unfolding remembered
started-low n i = λ k s. slots_read (view-low n i k) (view-low n i k) s

-- ---- settled cards

-- a cell that was worked out keeps what it got
keeps-worked : (cell : Cell) (now : Slots) → Keeps (worked_turn cell true now).cell (worked_turn cell true now).out now
unfolding Keeps
keeps-worked cell now next agree quiet =
    again cell.kind cell.config (state_of cell) now next (disagree-sym cell.kind now next ∙ agree) quiet

-- a cell that slept keeps what it has, also under the readings that let it sleep
keeps-slept : (cell : Cell) (out : Bool) (now last : Slots) → disagree cell.kind now last ≡ false → Keeps cell out last → Keeps cell out now
unfolding Keeps
keeps-slept cell out now last same keeps next agree quiet = keeps next (disagree-trans cell.kind next now last agree same) quiet

-- the turn of a cell leaves its slots
slots-stay : (n : ℕ) (full : Bool) (cell : Cell) (i edited : ℕ) (w : Wires) (below : ℕ) → (turn_at n full cell i edited w below).cell.slots ≡ cell.slots
unfolding turn_at
slots-stay n full cell i edited w below = by_turn full cell _ _ _ _ (λ t. t.cell.slots ≡ cell.slots) (λ _. refl) (λ _. refl)

module _ (n : ℕ) (c : Card) (levels : ℕ) (settled : Settled n c) where
  -- a cell that the rules do not name is settled under what the last tick read
  slept-keeps : (i below : ℕ) → i < n → let cell = get_or c.cells i no_cell in
      named n cell i c.edited (wires_of c.memory levels) below ≡ false
      → (disagree cell.kind (read_now n i (wires_of c.memory levels) below cell.slots) (read_last n i (wires_of c.memory levels) cell.slots) ≡ false)
      × (stirred cell.kind (state_of cell) (read_now n i (wires_of c.memory levels) below cell.slots) ≡ false)
      × Keeps cell (bit_at c.memory.outputs i) (read_last n i (wires_of c.memory levels) cell.slots)
  unfolding named Settled
  slept-keeps i below h asleep =
      let cell = get_or c.cells i no_cell in
      let s = sleeps cell.kind (state_of cell) (bit_at c.edited i) (read_now n i (wires_of c.memory levels) below cell.slots)
      (read_last n i (wires_of c.memory levels) cell.slots) asleep in
      (s.2, s.1, rw (recalls n i c.memory levels cell.slots) (settled i h s.0))

  -- either kind of turn leaves a cell that keeps its state and output under what it has now read
  turn-keeps : (full : Bool) (i below : ℕ) → i < n → let t = turn_at n full (get_or c.cells i no_cell) i c.edited (wires_of c.memory levels) below in
      Keeps t.cell t.out (read_now n i (wires_of c.memory levels) below (get_or c.cells i no_cell).slots)
  unfolding turn_at named
  turn-keeps full i below h =
      let cell = get_or c.cells i no_cell in
      let now = read_now n i (wires_of c.memory levels) below cell.slots in
      by_turn full cell _ (bit_at c.memory.outputs i) now _ (λ t. Keeps t.cell t.out now)
      (λ e. keeps-worked cell now)
      (λ e.
      let k = slept-keeps i below h (or_right full _ e) in
      keeps-slept cell (bit_at c.memory.outputs i) _ _ k.0 k.2)

  -- and the two kinds leave the same cell and the same output
  turn-same : (i below : ℕ) → i < n
      → let quick = turn_at n false (get_or c.cells i no_cell) i c.edited (wires_of c.memory levels) below in
      let whole = turn_at n true (get_or c.cells i no_cell) i c.edited (wires_of c.memory levels) below in
      (quick.cell ≡ whole.cell) × (quick.out ≡ whole.out)
  unfolding turn_at named Keeps
  turn-same i below h =
      let cell = get_or c.cells i no_cell in
      let now = read_now n i (wires_of c.memory levels) below cell.slots in
      by_turn false cell _ (bit_at c.memory.outputs i) now _
      (λ t. (t.cell ≡ (worked_turn cell true now).cell) × (t.out ≡ (worked_turn cell true now).out))
      (λ e. (refl, refl))
      (λ e.
      let k = slept-keeps i below h e in
      let w = k.2 now k.0 k.1 in
      (ap (λ (r : Worked). (turn_to cell true r).cell) (sym w), ap (λ (r : Worked). r.out) (sym w)))

  -- so quick and full ticks agree in the outputs, cell by cell
  outputs-same : (i : ℕ) → i ≤ n → let w = wires_of c.memory levels in
      outputs_below n false c.cells c.edited w i ≡ outputs_below n true c.cells c.edited w i
  unfolding outputs_below
  outputs-same zero h = refl
  outputs-same (suc i) h =
      let w = wires_of c.memory levels in
      let below = outputs-same i (le_of_lt h) in
      let out = (turn-same i (outputs_below n false c.cells c.edited w i) h).1
      ∙ ap (λ (b : ℕ). (turn_at n true (get_or c.cells i no_cell) i c.edited w b).out) below in
      ap₂ (λ (x : ℕ) (b : Bool). x + bit_number b * 2 ^ i) below out

  cells_same : let w = wires_of c.memory levels in
      listed (cell_after n false c.cells c.edited w) n ≡ listed (cell_after n true c.cells c.edited w) n
  cells_same =
      let w = wires_of c.memory levels in
      listed_same (cell_after n false c.cells c.edited w) (cell_after n true c.cells c.edited w) n
      (λ i h. (turn-same i (outputs_below n false c.cells c.edited w i) h).0
      ∙ ap (λ (b : ℕ). (turn_at n true (get_or c.cells i no_cell) i c.edited w b).cell) (outputs-same i (le_of_lt h)))

  -- and name the same cells
  names_same : let w = wires_of c.memory levels in
      word_of (turn_named n false c.cells c.edited w) n ≡ word_of (turn_named n true c.cells c.edited w) n
  names_same =
      let w = wires_of c.memory levels in
      built-same (turn_named n false c.cells c.edited w) (turn_named n true c.cells c.edited w) n
      (λ i h. named-at n false c.cells c.edited w i
      ∙ ap (named n (get_or c.cells i no_cell) i c.edited w) (outputs-same i (le_of_lt h))
      ∙ sym (named-at n true c.cells c.edited w i))

-- ---- the theorems

-- every tick of either kind keeps a card settled, whatever its lines
ticked-settled : (n : ℕ) (full : Bool) (c : Card) (l : Lines) → Settled n c → Settled n (ticked_on n full c l).card
unfolding Settled turned
ticked-settled n full c l settled i h edited =
    let w = wires_of c.memory l.levels in
    let b = outputs_below n full c.cells c.edited w i in
    let old = get_or c.cells i no_cell in
    rw (
      front_at (cell_after n full c.cells c.edited w) n c.cells i no_cell h,
      output-bit n full c.cells c.edited w n i h,
      slots-stay n full old i c.edited w b,
      remembers-on n full c l i old.slots (le_of_lt h),
    )
    (turn-keeps n c l.levels settled full i b h)

pub tick-on-settled : (n : ℕ) (full : Bool) (c : Card) (code : ℕ) (l : Lines) → Settled n c → Settled n (tick_on n full c code l).card
tick-on-settled n full c code l settled =
    by-tick-on n full c code l (λ t. Settled n t.card) (λ _. ticked-settled n full c l settled) (λ _. settled)

pub tick-settled : (n : ℕ) (full : Bool) (c : Card) (input : Input) → Settled n c → Settled n (tick n full c input).card
unfolding tick
tick-settled n full c input = tick-on-settled n full c input.code (lines n c input)

-- on a settled card a quick tick and a full one with the same lines give the same card, and answers
-- that are alike but for the woken set and its count
ticked-alike : (n : ℕ) (c : Card) (l : Lines) → Settled n c → AlikeTicks (ticked_on n false c l) (ticked_on n true c l)
unfolding turned
ticked-alike n c l settled =
    let cells = ap (λ (cs : List Cell). cs ++ drop n c.cells) (cells_same n c l.levels settled) in
    let outputs = outputs-same n c l.levels settled n (le_refl n) in
    let names = names_same n c l.levels settled in
    record {
      card = λ k. card_after n (trimmed n c.memory) c l (record { cells = cells k; outputs = outputs k; named = names k; woken = 0 });
      ran = refl;
      driven = refl;
      cells = outputs;
    }

pub same-ticks-on : (n : ℕ) (c : Card) (code : ℕ) (l : Lines) → Settled n c → AlikeTicks (tick_on n false c code l) (tick_on n true c code l)
same-ticks-on n c code l settled =
    by-ticks-on n false true c c code code l l refl AlikeTicks (ticked-alike n c l settled) (record { card = refl; ran = refl; driven = refl; cells = refl })

pub same-ticks : (n : ℕ) (c : Card) (input : Input) → Settled n c → AlikeTicks (tick n false c input) (tick n true c input)
unfolding tick
same-ticks n c input = same-ticks-on n c input.code (lines n c input)

-- a fresh card is settled
pub fresh-settled : (n : ℕ) → Settled n (fresh_of n)
unfolding Settled Keeps
fresh-settled n i h edited now agree quiet =
    rw (
      get_or-append (replicate n fresh_cell) (replicate (cell_room - n) fresh_cell) no_cell i (rw (length-replicate n fresh_cell) h),
      get_or-replicate n i fresh_cell no_cell h,
      bit-zero i,
    )
    (constant-works 0 clear_state now)

-- a card that has just powered up is settled, since all its cells are edited
pub powered-settled : (n size trigger : ℕ) (cells : List Cell) (connectors : Connectors) → Settled n (started size trigger cells connectors (2 ^ n - 1))
unfolding Settled
powered-settled n size trigger cells connectors i h edited = all-edited n i h edited

-- an edit keeps a card settled: the cells that it changes are edited, and so exempt
pub edit-settled : (n : ℕ) (c d : Card) → Edit n c d → Settled n c → Settled n d
unfolding Settled
edit-settled n c d e settled i h edited =
    rw (e.kept i h edited, e.memory) (settled i h (e.unedited i h edited))

-- not every card is settled: on this one the two kinds of tick differ
pub not-settled : Settled cell_count unsettled → ⊥
not-settled settled =
    let e : ◌≡◌ {A = ℕ} 1 0 = sym wrong_stays ∙ (same-ticks cell_count unsettled (clock0 0) settled).cells ∙ wrong-goes in
    omega arith
