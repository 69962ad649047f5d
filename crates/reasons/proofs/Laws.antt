-- The reasons of a tick are those of the cells that the rules name in it, and after a quick tick those of the woken set.
use Prim.Native.Nat.{ℕ, ◌^◌, ◌<◌}
use mathlib.Core.Path.{◌≡◌, refl, sym, ap, subst, ◌∙◌}
use mathlib.Core.Bool.{Bool, false}
use mathlib.Core.List.{List}
use native.Mathlib.Nat.{le_of_lt}
use lib.ListN.{get_or, replicate, get_or-replicate}
use lib.Pow.{pow_pos}
use borrow.Author.Tests.{eq-eqb, ne_eqb}
use Rattle.words.specs.Bits.{bit_at, word_of}
use Rattle.words.specs.Listed.{listed}
use Rattle.words.proofs.Laws.{bit-zero, built-same, built-of-bits, built-fits}
use Rattle.words.proofs.Listed.{listed_at, listed_same}
use Rattle.cells.specs.declared.table.Slots.{Slots}
use Rattle.reasons.specs.declared.cell.Reasons.{Reasons}
use Rattle.cells.specs.State.{state_of}
use Rattle.reasons.specs.CellReasons.{reasons_of, any_reason}
use Rattle.reasons.proofs.Named.{reason-named}
use Rattle.cells.specs.declared.cell.Cell.{Cell}
use Rattle.card.specs.declared.card.Card.{Card}
use Rattle.card.specs.declared.card.Memory.{Memory}
use Rattle.card.specs.Fresh.{no_cell}
use Rattle.ticks.specs.declared.view.Input.{Input}
use Rattle.ticks.specs.declared.view.Wires.{Wires}
use Rattle.ticks.specs.declared.tick.Ticked.{Ticked}
use Rattle.ticks.specs.Tick.{read_last, named, outputs_below, woke_at, turned, trimmed, wires_of, lines, tick}
use Rattle.ticks.proofs.Cases.{by-tick, tick-own}
use Rattle.ticks.proofs.Sleep.{read_whole}
use Rattle.ticks.proofs.Ticks.{outputs-built}
use Rattle.ticks.proofs.Trim.{now-trim, last-trim}
use Rattle.ticks.proofs.Sleep.{named-at}
use Rattle.ticks.proofs.Turns.{turn-woke}
use Rattle.reasons.specs.Reasons.{reasons_at, reasons_in, no_reasons, tick_reasons}

-- ---- what the code does: a tick for its words, and then cell by cell

pub idle-none : (n : ℕ) (full : Bool) (c : Card) (input : Input) → (input.code ≡ c.trigger → ⊥) → replicate n no_reasons ≡ tick_reasons n full c input
unfolding tick_reasons
idle-none n full c input other = rw (ne_eqb input.code c.trigger other)

-- a cell reads of the whole cell word only what is below it
whole_word : (n : ℕ) (full : Bool) (c : Card) (input : Input) (i : ℕ) → i < n
    → let w = wires_of c.memory (lines n c input).levels in
    reasons_at n (get_or c.cells i no_cell) i c.edited w (outputs_below n full c.cells c.edited w n) ≡ reasons_in n full c input i
unfolding reasons_at
whole_word n full c input i h =
    let w = wires_of c.memory (lines n c input).levels in
    let cell = get_or c.cells i no_cell in
    ap (λ (r : Slots). reasons_of cell.kind (state_of cell) (bit_at c.edited i) r (read_last n i w cell.slots))
    (read_whole n full c.cells c.edited w n i cell.slots (le_of_lt h))

module _ (n : ℕ) (full : Bool) (c : Card) (input : Input) where
  -- the reasons by the words of what a tick gave
  abbrev by : Ticked → List Reasons
  by t =
      listed (λ i.
      reasons_at n (get_or c.cells i no_cell) i c.edited (wires_of c.memory t.card.memory.levels) t.answer.cells) n

  pub ran-reasons : (t : Ticked) (w : Wires) → input.code ≡ c.trigger → t ≡ tick n full c input → w ≡ wires_of c.memory t.card.memory.levels
      → listed (λ i. reasons_at n (get_or c.cells i no_cell) i c.edited w t.answer.cells) n ≡ tick_reasons n full c input
  unfolding tick_reasons turned
  ran-reasons t w own et ew =
      let ran = eq-eqb input.code c.trigger own in
      let gave = et ∙ tick-own n full c input own in
      ap (λ (v : Wires). listed (λ i. reasons_at n (get_or c.cells i no_cell) i c.edited v t.answer.cells) n) ew
      ∙ ap by gave
      ∙ listed_same _ (reasons_in n full c input) n (whole_word n full c input)
      ∙ rw ran

  -- and by the words cut to n bits
  trimmed-reasons : (levels i below : ℕ) (cell : Cell)
      → reasons_at n cell i c.edited (wires_of (trimmed n c.memory) levels) below ≡ reasons_at n cell i c.edited (wires_of c.memory levels) below
  unfolding reasons_at
  trimmed-reasons levels i below cell =
      let now = now-trim n c.memory levels i below cell.slots in
      let last = last-trim n c.memory levels i cell.slots in
      λ k. reasons_of cell.kind (state_of cell) (bit_at c.edited i) (now k) (last k)

  pub ran-trimmed : (t : Ticked) (m : Memory) (w : Wires) → input.code ≡ c.trigger → t ≡ tick n full c input → m ≡ trimmed n c.memory
      → w ≡ wires_of m t.card.memory.levels
      → listed (λ i. reasons_at n (get_or c.cells i no_cell) i c.edited w t.answer.cells) n ≡ tick_reasons n full c input
  ran-trimmed t m w own et em ew =
      let levels = t.card.memory.levels in
      let below = t.answer.cells in
      ap (λ (v : Wires). listed (λ i. reasons_at n (get_or c.cells i no_cell) i c.edited v below) n) (ew ∙ ap (λ (x : Memory). wires_of x levels) em)
      ∙ listed_same _ (λ i. reasons_at n (get_or c.cells i no_cell) i c.edited (wires_of c.memory levels) below) n
      (λ i h. trimmed-reasons levels i below (get_or c.cells i no_cell))
      ∙ ran-reasons t (wires_of c.memory levels) own et refl

  -- the cell word of such a tick has n bits
  pub ran-fits : (t : Ticked) → input.code ≡ c.trigger → t ≡ tick n full c input → t.answer.cells < 2 ^ n
  unfolding turned
  ran-fits t own et =
      let gave = et ∙ tick-own n full c input own in
      let w = wires_of c.memory (lines n c input).levels in
      subst (λ (x : Ticked). x.answer.cells < 2 ^ n) (sym gave) (built-fits _ n _ (outputs-built n full c.cells c.edited w n))

-- ---- a reason exactly where the rules name the cell

-- in a tick of either kind that runs
pub named-for-a-reason : (n : ℕ) (full : Bool) (c : Card) (input : Input) (i : ℕ)
    → let w = wires_of c.memory (lines n c input).levels in
    any_reason (reasons_in n full c input i) ≡ named n (get_or c.cells i no_cell) i c.edited w (outputs_below n full c.cells c.edited w i)
unfolding reasons_at named
named-for-a-reason n full c input i =
    let cell = get_or c.cells i no_cell in
    reason-named cell.kind (state_of cell) (bit_at c.edited i) _ _

-- cell i has a reason among these
abbrev pub has_reason : List Reasons → ℕ → Bool
has_reason rs i = any_reason (get_or rs i no_reasons)

-- the woken set of a quick tick is the set of the cells that have a reason; of an idle one both are empty
pub woken-for-reasons : (n : ℕ) (c : Card) (input : Input) → (tick n false c input).answer.woken ≡ word_of (has_reason (tick_reasons n false c input)) n
unfolding tick_reasons turned
woken-for-reasons n c input =
    by-tick n false c input (λ t. t.answer.woken ≡ word_of (has_reason (tick_reasons n false c input)) n)
    (λ e. rw e (built-same _ _ n reasoned))
    (λ e. rw e (sym (built-of-bits 0 n (pow_pos n)) ∙ built-same (bit_at 0) _ n nobody))
  where
    reasoned : (i : ℕ) → i < n → woke_at n false c.cells c.edited (wires_of c.memory (lines n c input).levels) i
        ≡ has_reason (listed (reasons_in n false c input) n) i
    reasoned i h =
        turn-woke n false (get_or c.cells i no_cell) i c.edited _ _
        ∙ named-at n false c.cells c.edited (wires_of c.memory (lines n c input).levels) i
        ∙ sym (named-for-a-reason n false c input i)
        ∙ ap any_reason (sym (listed_at (reasons_in n false c input) n i no_reasons h))

    nobody : (i : ℕ) → i < n → bit_at 0 i ≡ has_reason (replicate n no_reasons) i
    nobody i h = bit-zero i ∙ ap any_reason (sym (get_or-replicate n i no_reasons no_reasons h))
