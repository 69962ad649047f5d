-- What lasts over a list of ticks: a property of a cell and its output that a tick keeps where it
-- is idle, where it lets the cell sleep and where it works the cell out. Said of any card and of
-- any way to give the lines.
use Prim.Native.Nat.{ℕ, ◌<◌}
use mathlib.Core.Path.{◌≡◌, refl, subst}
use mathlib.Core.Bool.{Bool, true, false, cond}
use mathlib.Core.List.{List, [], ◌∷◌}
use Rattle.words.specs.Bits.{bit_at}
use Rattle.words.proofs.Bools.{or_right}
use Rattle.words.proofs.Listed.{front_at}
use Rattle.cells.specs.declared.table.Slots.{Slots}
use Rattle.cells.specs.declared.cell.Cell.{Cell}
use Rattle.cells.specs.State.{state_of, with_state}
use Rattle.cells.specs.Work.{work_out}
use Rattle.cells.specs.Wake.{stirred}
use Rattle.cells.proofs.Laws.{sleeps}
use Rattle.card.specs.declared.card.Card.{Card}
use Rattle.card.specs.Fresh.{no_cell}
use Rattle.ticks.specs.declared.view.Input.{Input}
use Rattle.ticks.specs.declared.view.Wires.{Wires}
use Rattle.ticks.specs.Tick.{read_now, read_last, turn_at, outputs_below, cell_after, turned, wires_of, tick}
use Rattle.ticks.proofs.Cases.{by_turn, by-tick-on}
use Rattle.ticks.specs.Runs.{Step, cell_at, step_runs, step_reads, stepped, after_all, readings_in, Throughout, own}
use Rattle.ticks.proofs.Sleep.{output-bit}

-- a step on the card's own lines is its tick
pub own-tick : (n : ℕ) (c : Card) (t : Bool × Input) → stepped n c (own n c t) ≡ tick n t.0 c t.1
unfolding tick
own-tick n c t = refl

-- ---- one tick

-- cell i's bit of the cell word
abbrev pub output_at : Card → ℕ → Bool
output_at c i = bit_at c.memory.outputs i

-- a cell worked out with these readings, and its output
abbrev pub worked_cell : Cell → Slots → Cell
worked_cell cell r = with_state cell (work_out cell.kind cell.config (state_of cell) r).state

abbrev pub worked_out : Cell → Slots → Bool
worked_out cell r = (work_out cell.kind cell.config (state_of cell) r).out

module _ (n : ℕ) (full : Bool) (cell : Cell) (i edited : ℕ) (w : Wires) (below : ℕ) (P : Cell → Bool → Type 0) where
  -- a cell's turn leaves it as it was where nothing stirs it, or works it out
  after_turn : (stirred cell.kind (state_of cell) (read_now n i w below cell.slots) ≡ false → P cell (bit_at w.outputs i))
      → P (worked_cell cell (read_now n i w below cell.slots)) (worked_out cell (read_now n i w below cell.slots))
      → let t = turn_at n full cell i edited w below in P t.cell t.out
  unfolding turn_at
  after_turn slept worked =
      let now = read_now n i w below cell.slots in
      let last = read_last n i w cell.slots in
      by_turn full cell (bit_at edited i) (bit_at w.outputs i) now last (λ t. P t.cell t.out) (λ _. worked)
      (λ e. slept (sleeps cell.kind (state_of cell) (bit_at edited i) now last (or_right full _ e)).1)

module _ (n : ℕ) (c : Card) (s : Step) (i : ℕ) (inside : i < n) (P : Cell → Bool → Type 0) where
  -- it holds after a tick if it holds of the cell as it was where the tick is idle or lets the cell
  -- sleep, and of the cell worked out where the tick may work it out
  pub after-step : (step_runs c s ≡ false → P (cell_at c i) (output_at c i))
      → (step_runs c s ≡ true → stirred (cell_at c i).kind (state_of (cell_at c i)) (step_reads n c s i) ≡ false → P (cell_at c i) (output_at c i))
      → (step_runs c s ≡ true → P (worked_cell (cell_at c i) (step_reads n c s i)) (worked_out (cell_at c i) (step_reads n c s i)))
      → P (cell_at (stepped n c s).card i) (output_at (stepped n c s).card i)
  unfolding turned
  after-step idles sleeps-on works =
      by-tick-on n s.full c s.code s.lines (λ t. P (cell_at t.card i) (output_at t.card i))
      (λ e. rw (
        front_at (cell_after n s.full c.cells c.edited w) n c.cells i no_cell inside,
        output-bit n s.full c.cells c.edited w n i inside,
      )
      (after_turn n s.full (cell_at c i) i c.edited w below P (sleeps-on e) (works e)))
      idles
    where
      w : Wires
      w = wires_of c.memory s.lines.levels

      below : ℕ
      below = outputs_below n s.full c.cells c.edited w i

-- ---- lists of ticks

module _ (P : List Slots → Cell → Bool → Type 0) (H : Cell → Slots → Type 0) where
  -- with the readings that are still to come: of a cell, in a tick of which H holds, it lasts
  -- whether the cell sleeps or is worked out
  pub record Lasts : Type 0 where
    pub asleep : (r : Slots) (rs : List Slots) (cell : Cell) (out : Bool) → P (r ∷ rs) cell out → H cell r → stirred cell.kind (state_of cell) r ≡ false
        → P rs cell out
    pub worked : (r : Slots) (rs : List Slots) (cell : Cell) (out : Bool) → P (r ∷ rs) cell out → H cell r
        → P rs (worked_cell cell r) (worked_out cell r)

  module _ (n : ℕ) (T : Type 0) (on : Card → T → Step) (i : ℕ) (inside : i < n) (kept : Lasts) where
    -- what the readings from a card on leave of it
    one_more_lem : (c : Card) (t : T) (rest : List Slots) → (step_runs c (on c t) ≡ true → H (cell_at c i) (step_reads n c (on c t) i))
        → P (cond (step_runs c (on c t)) (step_reads n c (on c t) i ∷ rest) rest) (cell_at c i) (output_at c i)
        → let d = (stepped n c (on c t)).card in P rest (cell_at d i) (output_at d i)
    one_more_lem c t rest holds p =
        let r = step_reads n c (on c t) i in
        let when : (b : Bool) → step_runs c (on c t) ≡ b → P (cond b (r ∷ rest) rest) (cell_at c i) (output_at c i) = λ b e.
        subst (λ (b : Bool). P (cond b (r ∷ rest) rest) (cell_at c i) (output_at c i)) e p in
        after-step n c (on c t) i inside (P rest) (when false) (λ ran. kept.asleep r rest (cell_at c i) (output_at c i) (when true ran) (holds ran))
        (λ ran. kept.worked r rest (cell_at c i) (output_at c i) (when true ran) (holds ran))

    -- over a list of ticks
    pub lasts : (ts : List T) (c : Card) → Throughout n T on H c ts i → P (readings_in n T on c ts i) (cell_at c i) (output_at c i)
        → P [] (cell_at (after_all n T on c ts) i) (output_at (after_all n T on c ts) i)
    unfolding after_all readings_in Throughout
    lasts [] c holds p = p
    lasts (t ∷ ts) c holds p =
        let d = (stepped n c (on c t)).card in
        lasts ts d holds.1 (one_more_lem c t (readings_in n T on d ts i) holds.0 p)

    -- and where H follows from it, H holds in each of them
    pub always : ((r : Slots) (rs : List Slots) (cell : Cell) (out : Bool) → P (r ∷ rs) cell out → H cell r)
        → (ts : List T) (c : Card) → P (readings_in n T on c ts i) (cell_at c i) (output_at c i) → Throughout n T on H c ts i
    unfolding readings_in Throughout
    always follows [] c p = tt
    always follows (t ∷ ts) c p =
        let d = (stepped n c (on c t)).card in
        let rest = readings_in n T on d ts i in
        let r = step_reads n c (on c t) i in
        let here : step_runs c (on c t) ≡ true → H (cell_at c i) r = λ ran.
        follows r rest (cell_at c i) (output_at c i) (subst (λ (b : Bool). P (cond b (r ∷ rest) rest) (cell_at c i) (output_at c i)) ran p) in
        (here, always follows ts d (one_more_lem c t rest here p))
