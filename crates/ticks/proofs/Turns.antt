-- Laws of one cell's turn, as the loop over the cells takes it: whether it is worked out, what it
-- becomes, and the words of the next reader.
use Prim.Native.Nat.{ℕ, ◌+◌, ◌*◌, ◌^◌, ◌≤◌, ◌<◌}
use mathlib.Core.Path.{◌≡◌, refl, sym, ap, ◌∙◌}
use mathlib.Core.Bool.{Bool, true, false, not, ◌||◌, cond, beq, true≢false}
use mathlib.Core.List.{List, ◌++◌, map}
use mathlib.Core.Logic.{⊎_elim}
use native.Mathlib.Nat.{not-suc-le-zero, eq-or-lt_of_le}
use native.Mathlib.Omega.{arith}
use lib.Bits.{bit_xor, xor_lt}
use lib.ListN.{length, drop, length-map}
use lib.Pow.{pow_pos}
use borrow.Author.Tests.{not-false}
use Rattle.words.specs.Bits.{bit_at, with_bit, word_of}
use Rattle.words.specs.Listed.{listed}
use Rattle.words.proofs.Bools.{or_left, or_right}
use Rattle.words.proofs.Laws.{bit-zero, bit-xor, bit-with-same, bit-with-other, with-zero, with-lt, with-unique, built-of-bits, built-same}
use Rattle.cells.specs.declared.cell.Cell.{Cell}
use Rattle.cells.specs.declared.cell.Worked.{Worked}
use Rattle.cells.specs.declared.table.Slots.{Slots}
use Rattle.cells.specs.declared.step.Stepped.{Stepped}
use Rattle.cells.specs.State.{state_of, with_state}
use Rattle.cells.specs.Effect.{worked_by, StepsTo}
use Rattle.cells.specs.Work.{keeping, looked_at, work_out}
use Rattle.card.specs.Edits.{with_settings}
use Rattle.card.specs.declared.card.Card.{Card}
use Rattle.ticks.specs.declared.view.Wires.{Wires}
use Rattle.ticks.specs.Reading.{slots_read}
use Rattle.ticks.specs.Tick.{cell_after, turn_named, woke_at, sees_now, saw_last, saw_earlier, read_now, read_last, rules_name, turn_by, named, turn_at}
use Rattle.ticks.specs.Words.{ReadsAs, MovesAs, shifted_at}
use Rattle.ticks.proofs.Cases.{by_turn, turn-named, all-or-named}
use Rattle.ticks.proofs.Sleep.{view-same}
use Rattle.ticks.proofs.Ticks.{out_at}
use Rattle.ticks.proofs.Words.{view-step, reads_kept, moves-kept}

-- ---- a tick of a card

-- the definition's cells, outputs, named and woken cells
abbrev pub after_of : ℕ → Bool → Card → Wires → ℕ → Cell
after_of n full c w = cell_after n full c.cells c.edited w

abbrev pub outs_of : ℕ → Bool → Card → Wires → ℕ → Bool
outs_of n full c w = out_at n full c.cells c.edited w

abbrev pub names_of : ℕ → Bool → Card → Wires → ℕ → Bool
names_of n full c w = turn_named n full c.cells c.edited w

abbrev pub wokes_of : ℕ → Bool → Card → Wires → ℕ → Bool
wokes_of n full c w = woke_at n full c.cells c.edited w

-- the card with other cells, and its cells with the first i turned
abbrev pub seated : Card → List Cell → Card
seated c cells = with_settings c c.trigger cells c.connectors c.edited

abbrev pub up_to : ℕ → Bool → Card → Wires → ℕ → List Cell
up_to n full c w i = listed (after_of n full c w) i ++ drop i c.cells

-- what is known of the length of an array in a struct is known of its entries as the machine has
-- them
pub as_long : (X Y : Type 0) (g : X → Y) (l : List X) (n : ℕ) → length (map g l) ≡ n → length l ≡ n
as_long X Y g l n e = sym (length-map l g) ∙ e

-- ---- the turn

-- a step that the code takes is the turn of the definition: whether the rules name the cell, the
-- cell and its output
module _ (full : Bool) (cell : Cell) (edited out : Bool) (now last : Slots) (r : Stepped)
    (is : StepsTo r full (rules_name cell edited now last) (state_of cell)
    (work_out cell.kind cell.config (state_of cell) now) (looked_at cell.kind now)) where
  abbrev worked : Worked
  worked = work_out cell.kind cell.config (state_of cell) now

  abbrev rule : Bool
  rule = rules_name cell edited now last

  gives : (b : Bool) → (full || rule) ≡ b → cond b worked (keeping (state_of cell) out) ≡ worked_by (state_of cell) out r.effect
  gives b e = sym (is.gives out ∙ ap (λ (x : Bool). cond x worked (keeping (state_of cell) out)) e)

  pub step-named : (turn_by full cell edited out now last).named ≡ r.named
  step-named = turn-named full cell edited out now last ∙ sym is.says

  pub step-cell : (turn_by full cell edited out now last).cell ≡ with_state cell (worked_by (state_of cell) out r.effect).state
  step-cell =
      by_turn full cell edited out now last (λ t. t.cell ≡ with_state cell (worked_by (state_of cell) out r.effect).state)
      (λ e. ap (λ (v : Worked). with_state cell v.state) (gives true e)) (λ e. ap (λ (v : Worked). with_state cell v.state) (gives false e))

  pub step-out : (turn_by full cell edited out now last).out ≡ (worked_by (state_of cell) out r.effect).out
  step-out =
      by_turn full cell edited out now last (λ t. t.out ≡ (worked_by (state_of cell) out r.effect).out)
      (λ e. ap (λ (v : Worked). v.out) (gives true e)) (λ e. ap (λ (v : Worked). v.out) (gives false e))

-- whether a cell is worked out: the tick is full, or the rules name it
pub turn-woke : (n : ℕ) (full : Bool) (cell : Cell) (i edited : ℕ) (w : Wires) (below : ℕ)
    → (turn_at n full cell i edited w below).woke ≡ (full || (turn_at n full cell i edited w below).named)
unfolding turn_at
turn-woke n full cell i edited w below = all-or-named full cell _ _ _ _

-- a reader in position i sees of this tick's outputs only those below i
pub turn-same : (n : ℕ) (full : Bool) (cell : Cell) (i edited : ℕ) (w : Wires) (below other : ℕ) → ((j : ℕ) → j < i → bit_at below j ≡ bit_at other j)
    → turn_at n full cell i edited w below ≡ turn_at n full cell i edited w other
unfolding turn_at named read_now
turn-same n full cell i edited w below other same =
    ap (λ (sees : ℕ → Bool).
    let now = slots_read sees (saw_last n i w) cell.slots in
    turn_by full cell (bit_at edited i) (bit_at w.outputs i) now (read_last n i w cell.slots))
    (view-same n i below other w.outputs w.levels same)

-- ---- the words of the next reader

beq_same : (a b : Bool) → beq a b ≡ true → a ≡ b
beq_same true true e = refl
beq_same true false e = absurd (true≢false (sym e))
beq_same false true e = absurd (true≢false (sym e))
beq_same false false e = refl

pub same_bit : (a b : Bool) → not (beq a b) ≡ false → a ≡ b
same_bit a b e = beq_same a b (not-false (beq a b) e)

-- bits that differ, and bits that do not
pub flips-to : (a b : Bool) → not (beq a b) ≡ true → not b ≡ a
flips-to true true e = absurd (true≢false (sym e))
flips-to true false e = refl
flips-to false true e = refl
flips-to false false e = absurd (true≢false (sym e))

pub steady-at : (a b s : Bool) → a ≡ b → s ≡ false → (not (beq a b) || s) ≡ false
steady-at true true s e is = is
steady-at true false s e is = absurd (true≢false e)
steady-at false true s e is = absurd (true≢false (sym e))
steady-at false false s e is = is

module _ (n : ℕ) (i : ℕ) (out : Bool) (w : Wires) (below below' : ℕ) (steady : (not (beq out (bit_at w.outputs i)) || shifted_at i w) ≡ false)
    (same : (k : ℕ) → k < i → bit_at below k ≡ bit_at below' k) (at : bit_at below' i ≡ out) where
  rest : shifted_at i w ≡ false
  rest = or_right (not (beq out (bit_at w.outputs i))) (shifted_at i w) steady

  now-kept : sees_now n i w below ≡ sees_now n (i + 1) w below'
  now-kept = view-step n i below below' w.outputs w.levels same (at ∙ same_bit out (bit_at w.outputs i) (or_left _ (shifted_at i w) steady))

  last-kept : saw_last n i w ≡ saw_last n (i + 1) w
  unfolding shifted_at
  last-kept = view-step n i w.outputs w.outputs w.outputs2 w.levels2 (λ k h. refl) (same_bit _ _ (or_left _ _ rest))

  earlier-kept : saw_earlier n i w ≡ saw_earlier n (i + 1) w
  unfolding shifted_at
  earlier-kept =
      view-step n i w.outputs2 w.outputs2 w.outputs3 w.levels3 (λ k h. refl)
      (same_bit _ _ (or_right (not (beq (bit_at w.outputs i) (bit_at w.outputs2 i))) _ rest))

  pub words-kept : (q d : List ℕ) → ReadsAs q (sees_now n i w below) (saw_last n i w) → MovesAs d (sees_now n i w below) (saw_last n i w) (saw_earlier n i w)
      → ReadsAs q (sees_now n (i + 1) w below') (saw_last n (i + 1) w)
      × MovesAs d (sees_now n (i + 1) w below') (saw_last n (i + 1) w) (saw_earlier n (i + 1) w)
  words-kept q d r m =
      (reads_kept q _ _ _ _ now-kept last-kept r, moves-kept d _ _ _ _ _ _ now-kept last-kept earlier-kept m)

-- ---- words that go over from one word to another, bit by bit

-- a word of n bits: below i they are those of g, and the others still those of f
abbrev pub Halfway : (g f : ℕ → Bool) (n i w : ℕ) → Type 0
Halfway g f n i w = (w < 2 ^ n) × ((k : ℕ) → k < i → bit_at w k ≡ g k) × ((k : ℕ) → i ≤ k → k < n → bit_at w k ≡ f k)

module _ (g f : ℕ → Bool) (n : ℕ) where
  pub halfway-start : (w : ℕ) → w < 2 ^ n → ((k : ℕ) → k < n → bit_at w k ≡ f k) → Halfway g f n 0 w
  halfway-start w fits all = (fits, λ k h. absurd (not-suc-le-zero h), λ k _ h. all k h)

  -- the next bit is what it is to be, and the others are as they were
  halfway-next : (i w r : ℕ) → Halfway g f n i w → r < 2 ^ n → bit_at r i ≡ g i → ((k : ℕ) → (k ≡ i → ⊥) → bit_at r k ≡ bit_at w k)
      → Halfway g f n (i + 1) r
  halfway-next i w r half fits at other = (fits, below, λ k l h. other k (λ e. omega arith) ∙ half.2 k (omega arith) h)
    where
      below : (k : ℕ) → k < i + 1 → bit_at r k ≡ g k
      below k h =
          let le : k ≤ i = omega arith in
          ⊎_elim (λ e. rw e at) (λ l. other k (λ e. omega arith) ∙ half.1 k l) (eq-or-lt_of_le le)

  pub halfway-kept : (i w : ℕ) → Halfway g f n i w → bit_at w i ≡ g i → Halfway g f n (i + 1) w
  halfway-kept i w half at = halfway-next i w w half half.0 at (λ k ne. refl)

  pub halfway-put : (i w r : ℕ) (b : Bool) → Halfway g f n i w → i < n → b ≡ g i → r ≡ with_bit w i b → Halfway g f n (i + 1) r
  halfway-put i w r b half h is e =
      halfway-next i w r half (rw e (with-lt w n i b half.0 h)) (ap (λ (x : ℕ). bit_at x i) e ∙ bit-with-same w i b ∙ is)
      (λ k ne. ap (λ (x : ℕ). bit_at x k) e ∙ bit-with-other w i k b ne)

  pub halfway-end : (w : ℕ) → Halfway g f n n w → w ≡ word_of g n
  halfway-end w half = sym (built-of-bits w n half.0) ∙ built-same (bit_at w) g n half.1

-- `w ^ (1 << i)`
pub flip-bit : (w n i : ℕ) → w < 2 ^ n → i < n → bit_xor w (1 * 2 ^ i) ≡ with_bit w i (not (bit_at w i))
flip-bit w n i h l =
    let v : ℕ = with_bit 0 i true in
    ap (bit_xor w) (sym (with-zero i true))
    ∙ with-unique (bit_xor w v) w n i (not (bit_at w i)) (xor_lt n w v h (with-lt 0 n i true (pow_pos n) l)) h l
    (bit-xor w v i ∙ ap (λ (x : Bool). not (beq (bit_at w i) x)) (bit-with-same 0 i true) ∙ differ (bit_at w i))
    (λ j ne. bit-xor w v j ∙ ap (λ (x : Bool). not (beq (bit_at w j) x)) (bit-with-other 0 i j true ne ∙ bit-zero j) ∙ agree (bit_at w j))
  where
    differ : (x : Bool) → not (beq x true) ≡ not x
    differ true = refl
    differ false = refl

    agree : (x : Bool) → not (beq x false) ≡ x
    agree true = refl
    agree false = refl
