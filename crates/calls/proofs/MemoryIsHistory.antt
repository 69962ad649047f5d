-- The card's memory is the history of its calls: over every list its edits are those that the calls made since the
-- last tick that ran, and what it remembers is what that tick read. So who wakes in a quick tick goes by the calls.
use Prim.Native.Nat.{ℕ, ◌-◌, ◌^◌, ◌≤◌, ◌<◌}
use mathlib.Core.Path.{◌≡◌, refl, ap, ap₂, ◌∙◌}
use mathlib.Core.Bool.{Bool, true, false, cond}
use mathlib.Core.List.{List}
use native.Mathlib.Nat.{le_of_lt}
use lib.Dec.{eqb}
use lib.ListN.{length, get_or}
use borrow.Author.Tests.{eq-eqb}
use Rattle.words.specs.Bits.{bit_at}
use Rattle.words.proofs.Laws.{bit-zero, bit-ones}
use Rattle.cells.specs.declared.table.Slots.{Slots}
use Rattle.cells.specs.State.{state_of}
use Rattle.cells.specs.Wake.{wakes}
use Rattle.card.specs.declared.card.Card.{Card}
use Rattle.card.specs.Fresh.{no_cell, no_memory, fresh_of}
use Rattle.card.proofs.ChangeLaws.{changed-bit}
use Rattle.ticks.specs.Settled.{remembered}
use Rattle.ticks.specs.Tick
use Rattle.ticks.proofs.Cases.{by-tick-on}
use Rattle.ticks.proofs.Sleep.{quick-set, remembers-on, recalls, started-low}
use Rattle.saved.specs.Record.{load_number}
use Rattle.saved.proofs.Records.{loaded-by}
use Rattle.lines.specs.Line.{line_change, line_outcome}
use Rattle.calls.specs.Calls.{Call, after_call, end}
use Rattle.calls.specs.Calls.Call.{line, load, tick}
use Rattle.calls.specs.History.{edited_next, edited_since, Readings, low_readings, read_next, read_since, WhoWakes, last_next, last_since}
use Rattle.calls.proofs.Lists.{line-edit}
use Rattle.calls.proofs.Runs.{tracked}

module _ (n : ℕ) where
  -- ---- edits

  -- after a call a cell is edited as the calls say
  pub call-edited : (c : Card) (call : Call) (i : ℕ) → i < n → bit_at (after_call n c call).edited i ≡ edited_next n c call i (bit_at c.edited i)
  unfolding after_call edited_next line_outcome
  call-edited c (line text reply store) i h = changed-bit n c (line_change n c text (length reply) (length store)) i h
  call-edited c (load bytes) i h = rw (loaded-by n c bytes) (go (eqb (load_number n bytes) 0) _ refl)
    where
      go : (b : Bool) (d : Card) → d.edited ≡ 2 ^ n - 1 → bit_at (cond b d c).edited i ≡ cond b true (bit_at c.edited i)
      go true d e = rw e (bit-ones n i h)
      go false d e = refl
  call-edited c (tick full code on) i h =
      by-tick-on n full c code (on c) (λ t. bit_at t.card.edited i ≡ cond t.answer.ran false (bit_at c.edited i)) (λ _. bit-zero i) (λ _. refl)

  -- over every list
  pub edited-since : (c : Card) (calls : List Call) (i : ℕ) → i < n → bit_at (end n c calls).edited i ≡ edited_since n c calls i (bit_at c.edited i)
  edited-since c calls i h =
      tracked (after_call n) (λ d. bit_at d.edited i) (λ d call. edited_next n d call i) (λ d call. call-edited d call i h) c calls

  -- from a fresh card, where none is edited
  pub edited-from-fresh : (calls : List Call) (i : ℕ) → i < n → bit_at (end n (fresh_of n) calls).edited i ≡ edited_since n (fresh_of n) calls i false
  edited-from-fresh calls i h = edited-since (fresh_of n) calls i h ∙ ap (edited_since n (fresh_of n) calls i) (bit-zero i)

  -- ---- words

  -- after a call the memory is what the calls say
  pub call-last : (c : Card) (call : Call) → (after_call n c call).memory ≡ last_next n c call c.memory
  unfolding after_call last_next
  call-last c (line text reply store) = (line-edit n c text (length reply) (length store)).memory
  call-last c (load bytes) = rw (loaded-by n c bytes) (go (eqb (load_number n bytes) 0) _ refl)
    where
      go : (b : Bool) (d : Card) → d.memory ≡ no_memory → (cond b d c).memory ≡ cond b no_memory c.memory
      go true d e = e
      go false d e = refl
  call-last c (tick full code on) =
      by-tick-on n full c code (on c)
      (λ t. t.card.memory
      ≡ cond t.answer.ran (Tick.moved (Tick.trimmed n c.memory)
      (record { driven = t.answer.driven; pulled = (on c).pulled; levels = (on c).levels })
      t.answer.cells) c.memory)
      (λ _. refl) (λ _. refl)

  -- over every list
  pub memory-since : (c : Card) (calls : List Call) → (end n c calls).memory ≡ last_since n c calls c.memory
  memory-since = tracked (after_call n) (λ d. d.memory) (last_next n) call-last

  -- ---- readings

  -- before the first tick everything counts as low
  low-fresh : (i : ℕ) → remembered n i (fresh_of n).memory ≡ low_readings
  unfolding low_readings
  low-fresh i = started-low n i

  -- after a call the memory says what the last tick that ran read, as the calls say it
  pub call-read : (c : Card) (call : Call) (i : ℕ) → i ≤ n
      → remembered n i (after_call n c call).memory ≡ read_next n c call i (remembered n i c.memory)
  unfolding after_call read_next low_readings
  call-read c (line text reply store) i h = ap (remembered n i) (line-edit n c text (length reply) (length store)).memory
  call-read c (load bytes) i h = rw (loaded-by n c bytes) (go (eqb (load_number n bytes) 0) _ (started-low n i))
    where
      go : (b : Bool) (d : Card) → remembered n i d.memory ≡ low_readings
          → remembered n i (cond b d c).memory ≡ cond b low_readings (remembered n i c.memory)
      go true d e = e
      go false d e = refl
  call-read c (tick full code on) i h =
      by-tick-on n full c code (on c)
      (λ t. remembered n i t.card.memory ≡ cond t.answer.ran (Tick.read_on n full c (on c).levels i) (remembered n i c.memory))
      (λ _ k s. remembers-on n full c (on c) i s h k) (λ _. refl)

  -- over every list
  pub read-since : (c : Card) (calls : List Call) (i : ℕ) → i ≤ n
      → remembered n i (end n c calls).memory ≡ read_since n c calls i (remembered n i c.memory)
  read-since c calls i h =
      tracked (after_call n) (λ d. remembered n i d.memory) (λ d call. read_next n d call i) (λ d call. call-read d call i h) c calls

  -- from a fresh card
  pub read-from-fresh : (calls : List Call) (i : ℕ) → i ≤ n → remembered n i (end n (fresh_of n) calls).memory ≡ read_since n (fresh_of n) calls i low_readings
  read-from-fresh calls i h = read-since (fresh_of n) calls i h ∙ ap (read_since n (fresh_of n) calls i) (low-fresh i)

  -- ---- the woken set of a quick tick, said of the list

  pub who_wakes : WhoWakes n
  unfolding WhoWakes Tick.named
  who_wakes calls code l i h own =
      let c = end n (fresh_of n) calls in
      let levels = l.levels in
      let cell = get_or c.cells i no_cell in
      let now = Tick.read_on n false c levels i cell.slots in
      let read = read-from-fresh calls i (le_of_lt h) in
      let last = recalls n i c.memory levels cell.slots ∙ ap (λ (r : Readings). r cell.slots) read in
      let said = ap₂ (λ (e : Bool) (r : Slots). wakes cell.kind (state_of cell) e now r) (edited-from-fresh calls i h) last in
      ap (λ (b : Bool). bit_at (cond b (Tick.ticked_on n false c l) (Tick.idle c)).answer.woken i) (eq-eqb _ _ own)
      ∙ quick-set n c.cells c.edited (Tick.wires_of c.memory levels) i h ∙ said
