-- The turns of all cells in a tick whose words are those of the last two: each cell has its turn with the one view that all readers have.
use Prim.Native.Nat.{ℕ, zero, suc, ◌+◌, ◌*◌, ◌^◌, ◌≤◌, ◌<◌}
use mathlib.Core.Path.{◌≡◌, refl, sym, ap, ap₂, ◌∙◌}
use mathlib.Core.Bool.{Bool, false}
use mathlib.Core.List.{List, ◌++◌}
use native.Mathlib.Nat.{le_refl, le_of_lt, lt_of_lt_of_le}
use lib.ListN.{drop, get_or}
use Rattle.words.specs.Bits.{bit_at, bit_number, word_of}
use Rattle.words.specs.Listed.{listed}
use Rattle.words.proofs.Laws.{bit-zero, bit-built, built-same, built-of-bits}
use Rattle.words.proofs.Listed.{listed_same}
use Rattle.cells.specs.declared.table.Slots.{Slots}
use Rattle.cells.specs.declared.cell.Cell.{Cell}
use Rattle.card.specs.Fresh.{no_cell}
use Rattle.ticks.specs.Reading.{slots_read, view}
use Rattle.ticks.specs.Tick.{Turn, read_now, read_last, turn_by, turn_at, outputs_below, turn_of, cell_after, turn_named, woke_at, turned}
use Rattle.ticks.specs.Rest.{steady_wires}
use Rattle.ticks.proofs.Sleep.{view-same, output-bit}
use Rattle.ticks.proofs.AtRest.{view-any}

-- what a cell's slots read where nothing changes
unfoldable pub steady_reads : (n o l : ℕ) → Cell → Slots
steady_reads n o l cell = slots_read (view n 0 o o l) (view n 0 o o l) cell.slots

-- its turn with them
abbrev pub steady_turn : (n o l : ℕ) → ℕ → Cell → Turn
steady_turn n o l i cell = turn_by false cell false (bit_at o i) (steady_reads n o l cell) (steady_reads n o l cell)

module _ (n o l : ℕ) (cells : List Cell) where
  -- where the outputs below i are as they were, cell i has it
  pub turn-steady : (i b : ℕ) → ((j : ℕ) → j < i → bit_at b j ≡ bit_at o j)
      → turn_at n false (get_or cells i no_cell) i 0 (steady_wires o l) b ≡ steady_turn n o l i (get_or cells i no_cell)
  unfolding turn_at read_now read_last steady_reads
  turn-steady i b same =
      let cell = get_or cells i no_cell in
      let any = view-any n i o l in
      let now = ap₂ (λ (f g : ℕ → Bool). slots_read f g cell.slots) (view-same n i b o o l same ∙ any) any in
      let last = ap₂ (λ (f g : ℕ → Bool). slots_read f g cell.slots) any any in
      λ k. turn_by false cell (bit-zero i k) (bit_at o i) (now k) (last k)

  -- where the outputs come out as they were, every cell has it, and its output with it
  module _ (same : outputs_below n false cells 0 (steady_wires o l) n ≡ o) where
    pub first-turn : (i : ℕ) → i < n → turn_of n false cells 0 (steady_wires o l) i ≡ steady_turn n o l i (get_or cells i no_cell)
    first-turn i h =
        turn-steady i _ (λ j k. output-bit n false cells 0 (steady_wires o l) i j k
        ∙ sym (output-bit n false cells 0 (steady_wires o l) n j (lt_of_lt_of_le k (le_of_lt h))) ∙ ap (λ (x : ℕ). bit_at x j) same)

    pub first_out : (i : ℕ) → i < n → (steady_turn n o l i (get_or cells i no_cell)).out ≡ bit_at o i
    first_out i h =
        ap (λ (t : Turn). t.out) (sym (first-turn i h)) ∙ sym (output-bit n false cells 0 (steady_wires o l) n i h) ∙ ap (λ (x : ℕ). bit_at x i) same

  -- where each turn leaves the output as it was, the tick makes of the cells what the turns make of each
  module _ (next : ℕ → Turn) (each : (i : ℕ) → i < n → steady_turn n o l i (get_or cells i no_cell) ≡ next i)
      (outs : (i : ℕ) → i < n → (next i).out ≡ bit_at o i) where
    below-steady : (i : ℕ) → i ≤ n → outputs_below n false cells 0 (steady_wires o l) i ≡ word_of (bit_at o) i
    unfolding outputs_below word_of
    below-steady zero h = refl
    below-steady (suc i) h =
        let ih = below-steady i (le_of_lt h) in
        let turn = turn-steady i (outputs_below n false cells 0 (steady_wires o l) i) (λ j k. ap (λ (x : ℕ). bit_at x j) ih ∙ bit-built (bit_at o) i j k) in
        ap₂ (λ (x : ℕ) (b : Bool). x + bit_number b * 2 ^ i) ih (ap (λ (t : Turn). t.out) (turn ∙ each i h) ∙ outs i h)

    turn-of : (i : ℕ) → i < n → turn_of n false cells 0 (steady_wires o l) i ≡ next i
    turn-of i h =
        turn-steady i (outputs_below n false cells 0 (steady_wires o l) i)
        (λ j k. ap (λ (x : ℕ). bit_at x j) (below-steady i (le_of_lt h)) ∙ bit-built (bit_at o) i j k) ∙ each i h

    pub steady-turned : o < 2 ^ n
        → turned n false cells 0 (steady_wires o l)
        ≡ record {
          cells = listed (λ i. (next i).cell) n ++ drop n cells;
          outputs = o;
          named = word_of (λ i. (next i).named) n;
          woken = word_of (λ i. (next i).woke) n;
        }
    unfolding turned
    steady-turned ho =
        let w = steady_wires o l in
        let cs = listed_same (cell_after n false cells 0 w) (λ i. (next i).cell) n (λ i h. ap (λ (t : Turn). t.cell) (turn-of i h)) in
        let out = below-steady n (le_refl n) ∙ built-of-bits o n ho in
        let names = built-same (turn_named n false cells 0 w) (λ i. (next i).named) n (λ i h. ap (λ (t : Turn). t.named) (turn-of i h)) in
        let set = built-same (woke_at n false cells 0 w) (λ i. (next i).woke) n (λ i h. ap (λ (t : Turn). t.woke) (turn-of i h)) in
        λ k. record { cells = cs k ++ drop n cells; outputs = out k; named = names k; woken = set k }
