-- The laws of rest and of the fast path. Where no cell is edited, no word has changed in the last
-- two ticks and no cell is stirred under the view that all readers then have, a quick tick leaves
-- every cell and every output as it was. A card is at rest under an input on its own clock exactly
-- where this is so and the connectors stay too.
use Prim.Native.Nat.{ℕ, zero, suc, ◌+◌, ◌*◌, ◌^◌, ◌≤◌, ◌<◌, ◌%◌}
use mathlib.Core.Path.{◌≡◌, refl, sym, ap, ap₂, ◌∙◌, subst}
use mathlib.Core.Bool.{Bool, true, false, not, ◌&&◌, cond}
use mathlib.Core.List.{List, ◌++◌}
use mathlib.Core.Logic.{◌⊎◌, inl, inr}
use native.Mathlib.Nat.{add-zero, le_refl, le_of_lt, le_of_suc-le-suc, eq-or-lt_of_le, not-suc-le-zero, lt-suc_self, mod-eq_of_lt}
use native.Mathlib.Numerals.{add-one}
use native.Mathlib.Omega.{arith}
use lib.Dec.{eqb, ltb}
use lib.ListN.{drop, get_or, length, take-append-drop}
use lib.Pow.{pow_pos}
use lib.Count.{ones}
use borrow.Author.Tests.{eqb-true, not-true, eq-eqb, lt-ltb, le-ltb}
use Rattle.words.specs.Bits.{bit_at, bit_number, word_of}
use Rattle.words.proofs.Laws.{bit-zero, bit-built, built-same, built-of-bits, built-fits}
use Rattle.words.proofs.Listed.{listed_same, listed-take}
use Rattle.words.proofs.Bools.{and_left, and_right, and_both}
use Rattle.cells.specs.declared.cell.Cell.{Cell}
use Rattle.cells.specs.declared.table.Slots.{Slots}
use Rattle.cells.specs.State.{state_of}
use Rattle.cells.specs.Wake.{stirred, wakes}
use Rattle.cells.proofs.Laws.{wakes-splits, disagree-self, sleeps}
use Rattle.card.specs.declared.card.Card.{Card}
use Rattle.card.specs.declared.card.Memory.{Memory}
use Rattle.card.specs.Fresh.{no_cell}
use Rattle.card.specs.declared.tallies.Tallies.{Tallies}
use Rattle.card.specs.Tally.{ticks, standstill, tallied_by}
use Rattle.card.proofs.TallyLaws.{tallied-none, tallied-total, cells-any, by_less}
use Rattle.ticks.specs.declared.view.Wires.{Wires}
use Rattle.ticks.specs.declared.view.Input.{Input}
use Rattle.ticks.specs.declared.tick.Turned.{Turned}
use Rattle.ticks.specs.declared.tick.Ticked.{Ticked}
use Rattle.ticks.specs.declared.tick.Answer.{Answer}
use Rattle.ticks.specs.Tick.{Turn, read_now, read_last, slept_turn, named, turn_at, outputs_below, turn_of, cell_after, turn_named, woke_at, turned}
use Rattle.ticks.specs.Tick.{wires_of, lines, turned_in, ticked, tick}
use Rattle.ticks.specs.Reading.{level_at, slots_read, mixed, view}
use Rattle.ticks.specs.Rest.{steady_wires, slept_all, steady, cell_rests, all_rest, AtRest, rest_answer, with_total, total_of, total_after, rest_total}
use Rattle.ticks.specs.Words.{FitsMemory}
use Rattle.ticks.proofs.Cases.{by-tick, tick-own, tick-other, by-ticks}
use Rattle.ticks.proofs.Sleep.{view-same, quick-set, read_whole}
use Rattle.ticks.proofs.Views.{mixed_one, slots-built}
use Rattle.ticks.proofs.Ticks.{outputs-built}

-- ---- what the tests say

pub steady-wires : (w : Wires) → steady w ≡ true → w ≡ steady_wires w.outputs w.levels
steady-wires w h =
    let outputs = and_left _ _ h in
    let levels = and_right (eqb w.outputs2 w.outputs && eqb w.outputs3 w.outputs) _ h in
    let o2 = eqb-true w.outputs2 w.outputs (and_left _ _ outputs) in
    let o3 = eqb-true w.outputs3 w.outputs (and_right (eqb w.outputs2 w.outputs) _ outputs) in
    let l2 = eqb-true w.levels2 w.levels (and_left _ _ levels) in
    let l3 = eqb-true w.levels3 w.levels (and_right (eqb w.levels2 w.levels) _ levels) in
    λ i. record { levels = w.levels; levels2 = l2 i; levels3 = l3 i; outputs = w.outputs; outputs2 = o2 i; outputs3 = o3 i }

-- all rest exactly where each does
pub rest_at : (n : ℕ) (v : ℕ → Bool) (cells : List Cell) → all_rest n v cells ≡ true → (i : ℕ) → i < n → cell_rests v (get_or cells i no_cell) ≡ true
unfolding all_rest
rest_at zero v cells all i h = absurd (not-suc-le-zero h)
rest_at (suc n) v cells all i h = go (rest_at n v cells (and_left (all_rest n v cells) _ all) i) (eq-or-lt_of_le (le_of_suc-le-suc h))
  where
    go : (i < n → cell_rests v (get_or cells i no_cell) ≡ true) → (i ≡ n) ⊎ (i < n) → cell_rests v (get_or cells i no_cell) ≡ true
    go below (inl e) = rw e (and_right (all_rest n v cells) _ all)
    go below (inr l) = below l

pub rest_all : (n : ℕ) (v : ℕ → Bool) (cells : List Cell) → ((i : ℕ) → i < n → cell_rests v (get_or cells i no_cell) ≡ true) → all_rest n v cells ≡ true
unfolding all_rest
rest_all zero v cells each = refl
rest_all (suc n) v cells each = rw (rest_all n v cells (λ i h. each i (omega arith)), each n (lt-suc_self n))

-- one cell more rests, and a cell that does not
pub rest-next : (k : ℕ) (v : ℕ → Bool) (cells : List Cell) → all_rest k v cells ≡ true → cell_rests v (get_or cells k no_cell) ≡ true
    → all_rest (k + 1) v cells ≡ true
unfolding all_rest
rest-next k v cells all last = rw (add-one, all, last)

pub rest-fails : (n : ℕ) (v : ℕ → Bool) (cells : List Cell) (i : ℕ) → i < n → cell_rests v (get_or cells i no_cell) ≡ false → all_rest n v cells ≡ false
rest-fails n v cells i h stirs = go (all_rest n v cells) refl
  where
    go : (b : Bool) → all_rest n v cells ≡ b → b ≡ false
    go true e = sym (rest_at n v cells e i h) ∙ stirs
    go false e = refl

-- the word of a view reads as the view
pub rest-seen : (n : ℕ) (v : ℕ → Bool) (w : ℕ) (cells : List Cell) → w ≡ word_of v 64 → all_rest n v cells ≡ all_rest n (bit_at w) cells
unfolding all_rest
rest-seen zero v w cells e = refl
rest-seen (suc n) v w cells e =
    let cell = get_or cells n no_cell in
    let seen = sym (slots-built v v cell.slots) ∙ ap (λ (x : ℕ). slots_read (bit_at x) (bit_at x) cell.slots) (sym e) in
    ap₂ ◌&&◌ (rest-seen n v w cells e) (ap (λ (r : Slots). not (stirred cell.kind (state_of cell) r)) seen)

-- every position sees the one view
mixed-any : (i o j : ℕ) → mixed i o o j ≡ mixed 0 o o j
mixed-any i o j = mixed_one i o j ∙ sym (mixed_one 0 o j)

pub view-any : (n i o l : ℕ) → view n i o o l ≡ view n 0 o o l
unfolding view
view-any n i o l = λ k b. level_at n (λ j. mixed-any i o j k) (bit_at l) b

wakes-not : (cell : Cell) (edited : Bool) (now last r : Slots) → edited ≡ false → now ≡ r → last ≡ r
    → stirred cell.kind (state_of cell) r ≡ false → wakes cell.kind (state_of cell) edited now last ≡ false
wakes-not cell edited now last r e en el quiet =
    wakes-splits cell.kind (state_of cell) edited now last ∙ rw (e, en, el, quiet) (disagree-self cell.kind r)

module _ (n o l : ℕ) (cells : List Cell) (rest : all_rest n (view n 0 o o l) cells ≡ true) where
  w : Wires
  w = steady_wires o l

  below : ℕ → ℕ
  below = outputs_below n false cells 0 w

  -- where the outputs below i are as they were, cell i sleeps
  turn-slept : (i b : ℕ) → i < n → ((j : ℕ) → j < i → bit_at b j ≡ bit_at o j)
      → turn_at n false (get_or cells i no_cell) i 0 w b ≡ slept_turn (get_or cells i no_cell) (bit_at o i)
  unfolding w turn_at named read_now read_last
  turn-slept i b h same =
      let cell = get_or cells i no_cell in
      let v = view n 0 o o l in
      let r = slots_read v v cell.slots in
      let any = view-any n i o l in
      let now = ap₂ (λ (f g : ℕ → Bool). slots_read f g cell.slots) (view-same n i b o o l same ∙ any) any in
      let last = ap₂ (λ (f g : ℕ → Bool). slots_read f g cell.slots) any any in
      rw (wakes-not cell (bit_at 0 i) _ _ r (bit-zero i) now last (not-true _ (rest_at n v cells rest i h)))

  below-same : (i : ℕ) → i ≤ n → below i ≡ word_of (bit_at o) i
  unfolding below outputs_below word_of
  below-same zero h = refl
  below-same (suc i) h =
      let ih = below-same i (le_of_lt h) in
      let turn = turn-slept i (below i) h (λ j k. ap (λ (x : ℕ). bit_at x j) ih ∙ bit-built (bit_at o) i j k) in
      ap₂ (λ (x : ℕ) (t : Turn). x + bit_number t.out * 2 ^ i) ih turn

  turn-of : (i : ℕ) → i < n → turn_of n false cells 0 w i ≡ slept_turn (get_or cells i no_cell) (bit_at o i)
  unfolding below
  turn-of i h = turn-slept i (below i) h (λ j k. ap (λ (x : ℕ). bit_at x j) (below-same i (le_of_lt h)) ∙ bit-built (bit_at o) i j k)

  pub quiet-turned : n ≤ length cells → o < 2 ^ n → turned n false cells 0 (steady_wires o l) ≡ slept_all cells o
  unfolding turned w below
  quiet-turned hc ho =
      let stay = listed_same (cell_after n false cells 0 w) (λ i. get_or cells i no_cell) n (λ i h. ap (λ (t : Turn). t.cell) (turn-of i h)) in
      let cs = ap (λ (l : List Cell). l ++ drop n cells) (stay ∙ listed-take cells no_cell n hc) ∙ take-append-drop n cells in
      let out = below-same n (le_refl n) ∙ built-of-bits o n ho in
      let set = built-same (woke_at n false cells 0 w) (bit_at 0) n (λ i h. ap (λ (t : Turn). t.woke) (turn-of i h) ∙ sym (bit-zero i))
      ∙ built-of-bits 0 n (pow_pos n) in
      let names = built-same (turn_named n false cells 0 w) (bit_at 0) n (λ i h. ap (λ (t : Turn). t.named) (turn-of i h) ∙ sym (bit-zero i))
      ∙ built-of-bits 0 n (pow_pos n) in
      λ k. record { cells = cs k; outputs = out k; named = names k; woken = set k }

-- ---- cards at rest

-- the words of the last two ticks are the same
pub record StillMemory (m : Memory) : Type 0 where
  pub outputs2 : m.outputs2 ≡ m.outputs
  pub outputs3 : m.outputs3 ≡ m.outputs
  pub levels2 : m.levels2 ≡ m.levels

-- the view that all readers then have
abbrev pub view_last : ℕ → Memory → ℕ → Bool
view_last n m = view n 0 m.outputs m.outputs m.levels

-- what the tests ask of a card that is not idle
pub record Still (n : ℕ) (c : Card) (input : Input) : Type 0 where
  pub edited : c.edited ≡ 0
  pub memory : StillMemory c.memory
  pub driven : (lines n c input).driven ≡ c.memory.driven
  pub pulled : (lines n c input).pulled ≡ c.memory.pulled
  pub levels : (lines n c input).levels ≡ c.memory.levels
  pub cells : all_rest n (view_last n c.memory) c.cells ≡ true

-- ---- the test of the words

pub memory-steady : (m : Memory) → StillMemory m → steady (wires_of m m.levels) ≡ true
memory-steady m s =
    and_both _ _ (and_both _ _ (eq-eqb _ _ s.outputs2) (eq-eqb _ _ s.outputs3)) (and_both _ _ (eq-eqb m.levels _ refl) (eq-eqb _ _ s.levels2))

pub steady-memory : (m : Memory) → wires_of m m.levels ≡ steady_wires m.outputs m.levels → StillMemory m
steady-memory m e =
    record {
      outputs2 = ap (λ (w : Wires). w.outputs2) e;
      outputs3 = ap (λ (w : Wires). w.outputs3) e;
      levels2 = ap (λ (w : Wires). w.levels3) e;
    }

-- another clock's tick is idle, and leaves a card at rest
pub idle-rests : (n : ℕ) (c : Card) (input : Input) → (input.code ≡ c.trigger → ⊥) → AtRest n c input
idle-rests n c input other =
    let e = tick-other n false c input other in
    record { asleep = ap (λ (t : Ticked). t.answer.woken) e; kept = ap (λ (t : Ticked). with_total t.card (total_of c)) e }

-- the cell word of a card at rest is one that a tick gives
pub rest-fits : (n : ℕ) (c : Card) (input : Input) → input.code ≡ c.trigger → AtRest n c input → c.memory.outputs < 2 ^ n
unfolding turned
rest-fits n c input own rest =
    let kept = sym (ap (λ (t : Ticked). with_total t.card (total_of c)) (tick-own n false c input own)) ∙ rest.kept in
    let w = wires_of c.memory (lines n c input).levels in
    subst (λ (x : ℕ). x < 2 ^ n) (ap (λ (d : Card). d.memory.outputs) kept)
    (built-fits _ n _ (outputs-built n false c.cells c.edited w n))

module _ (n : ℕ) (c : Card) (input : Input) where
  -- ---- from rest to the tests

  -- a cell that a quick tick does not name read what all see
  unstirred : (turned_in n false c (lines n c input).levels).woken ≡ 0
      → (turned_in n false c (lines n c input).levels).outputs ≡ c.memory.outputs
      → (lines n c input).levels ≡ c.memory.levels → StillMemory c.memory → (i : ℕ) → i < n
      → cell_rests (view_last n c.memory) (get_or c.cells i no_cell) ≡ true
  unfolding named read_now turned
  unstirred none outputs levels still i h =
      let m = c.memory in
      let w = wires_of m (lines n c input).levels in
      let cell = get_or c.cells i no_cell in
      let asleep = sym (quick-set n c.cells c.edited w i h) ∙ ap (λ (x : ℕ). bit_at x i) none ∙ bit-zero i in
      let quiet = (sleeps cell.kind (state_of cell) (bit_at c.edited i)
      (read_now n i w (outputs_below n false c.cells c.edited w i) cell.slots) (read_last n i w cell.slots) asleep).1 in
      let now = ap₂ (λ (f g : ℕ → Bool). slots_read f g cell.slots)
      ((λ k. view n i (outputs k) m.outputs (levels k)) ∙ view-any n i m.outputs m.levels)
      ((λ k. view n i m.outputs (still.outputs2 k) m.levels) ∙ view-any n i m.outputs m.levels) in
      let seen = sym (read_whole n false c.cells c.edited w n i cell.slots (le_of_lt h)) ∙ now in
      ap (λ (r : Slots). not (stirred cell.kind (state_of cell) r)) (sym seen) ∙ ap not quiet

  pub rests-still : input.code ≡ c.trigger → AtRest n c input → Still n c input
  rests-still own rest =
      let ran = tick-own n false c input own in
      let kept = sym (ap (λ (t : Ticked). with_total t.card (total_of c)) ran) ∙ rest.kept in
      let asleep = sym (ap (λ (t : Ticked). t.answer.woken) ran) ∙ rest.asleep in
      let memory = ap (λ (d : Card). d.memory) kept in
      let whole : c.memory.outputs % 2 ^ n ≡ c.memory.outputs = mod-eq_of_lt (rest-fits n c input own rest) in
      let second = sym (ap (λ (m : Memory). m.outputs2) memory) ∙ whole in
      let still : StillMemory c.memory = record {
        outputs2 = second;
        outputs3 = sym (ap (λ (m : Memory). m.outputs3) memory) ∙ ap (λ (o : ℕ). o % 2 ^ n) second ∙ whole;
        levels2 = sym (ap (λ (m : Memory). m.levels2) memory);
      } in
      let levels = ap (λ (m : Memory). m.levels) memory in
      record {
        edited = sym (ap (λ (d : Card). d.edited) kept);
        memory = still;
        driven = ap (λ (m : Memory). m.driven) memory;
        pulled = ap (λ (m : Memory). m.pulled) memory;
        levels = levels;
        cells = rest_all n (view_last n c.memory) c.cells (unstirred asleep (ap (λ (m : Memory). m.outputs) memory) levels still);
      }

  -- ---- from the tests to rest

  slept : n ≤ length c.cells → c.memory.outputs < 2 ^ n → Still n c input
      → turned_in n false c (lines n c input).levels ≡ slept_all c.cells c.memory.outputs
  slept hc ho s =
      let m = c.memory in
      let words : wires_of m (lines n c input).levels ≡ steady_wires m.outputs m.levels = λ k.
      record {
        levels = s.levels k;
        levels2 = m.levels;
        levels3 = s.memory.levels2 k;
        outputs = m.outputs;
        outputs2 = s.memory.outputs2 k;
        outputs3 = s.memory.outputs3 k;
      } in
      (λ k. turned n false c.cells (s.edited k) (words k)) ∙ quiet-turned n m.outputs m.levels c.cells s.cells hc ho

  pub still-rests : n ≤ length c.cells → n ≤ length c.tallies.cells → c.memory.outputs < 2 ^ n → Still n c input → AtRest n c input
  still-rests hc ht ho s =
      let r = by-tick n false c input (λ t. (t.answer.woken ≡ 0) × (with_total t.card (total_of c) ≡ c))
      (λ _. (ap (λ (x : Turned). x.woken) t, kept)) (λ _. (refl, refl)) in
      record { asleep = r.0; kept = r.1 }
    where
      t : turned_in n false c (lines n c input).levels ≡ slept_all c.cells c.memory.outputs
      t = slept hc ho s

      whole : c.memory.outputs % 2 ^ n ≡ c.memory.outputs
      whole = mod-eq_of_lt ho

      tallied : (tallied_by n (bit_at (turned_in n false c (lines n c input).levels).named) c.tallies).cells ≡ c.tallies.cells
      tallied = ap (λ (x : Tallies). x.cells) (tallied-none n _ c.tallies ht (λ i _. ap (λ (x : Turned). bit_at x.named i) t ∙ bit-zero i))

      kept : with_total (ticked n false c input).card (total_of c) ≡ c
      kept = λ k.
          record {
            pointer = c.pointer;
            trigger = c.trigger;
            cells = (t k).cells;
            connectors = c.connectors;
            edited = sym s.edited k;
            size = c.size;
            memory = record {
              driven = s.driven k;
              pulled = s.pulled k;
              outputs = (t k).outputs;
              outputs2 = (whole ∙ sym s.memory.outputs2) k;
              outputs3 = (ap (λ (o : ℕ). o % 2 ^ n) s.memory.outputs2 ∙ whole ∙ sym s.memory.outputs3) k;
              levels = s.levels k;
              levels2 = sym s.memory.levels2 k;
            };
            tallies = record { cells = tallied k; total = c.tallies.total };
          }

  -- ---- what a tick at rest answers

  pub rest-answers : AtRest n c input → (tick n false c input).answer ≡ rest_answer c input
  unfolding ones
  rest-answers rest =
      by-tick n false c input (λ t. t.answer.woken ≡ 0 → with_total t.card (total_of c) ≡ c → t.answer ≡ rest_answer c input)
      (λ e none kept. rw e (λ k.
      record { ran = true; driven = (kept k).memory.driven; cells = (kept k).memory.outputs; woken = none k; count = ones (none k) }))
      (λ e none kept. rw e) rest.asleep rest.kept

-- ---- one tick more, and another

-- the total after no tick, after one, and after one and k more; at the standstill it stays
pub after_none : (t : ℕ) → total_after t 0 ≡ t
after_none t = by_less t standstill (λ b. cond b (cond (ltb (t + 0) standstill) (t + 0) standstill) t ≡ t)
    (λ h. rw (add-zero t, lt-ltb t standstill h)) (λ _. refl)

pub after_one : (t : ℕ) → total_after t 1 ≡ cond (ltb t standstill) (t + 1) t
after_one t = by_less t standstill (λ b. cond b (cond (ltb (t + 1) standstill) (t + 1) standstill) t ≡ cond b (t + 1) t)
    (λ h. by_less (t + 1) standstill (λ b. cond b (t + 1) standstill ≡ t + 1) (λ _. refl) (λ k. omega arith)) (λ _. refl)

one_more_lem : (t k : ℕ) → t + 1 + k ≡ t + suc k
one_more_lem t k = omega arith

pub after_more : (t k : ℕ) → total_after (cond (ltb t standstill) (t + 1) t) k ≡ total_after t (suc k)
after_more t k = by_less t standstill (λ b. total_after (cond b (t + 1) t) k ≡ cond b (cond (ltb (t + suc k) standstill) (t + suc k) standstill) t)
    (λ h. below h) (λ h. rw (le-ltb t standstill h))
  where
    below : t < standstill → total_after (t + 1) k ≡ cond (ltb (t + suc k) standstill) (t + suc k) standstill
    below h = by_less (t + 1) standstill (λ b. cond b (cond (ltb (t + 1 + k) standstill) (t + 1 + k) standstill) (t + 1)
        ≡ cond (ltb (t + suc k) standstill) (t + suc k) standstill)
        (λ _. ap (λ (m : ℕ). cond (ltb m standstill) m standstill) (one_more_lem t k))
        (λ l. let top : standstill ≤ t + suc k = omega arith in rw (le-ltb (t + suc k) standstill top) (omega arith))

stands : (c : Card) (input : Input) (k : ℕ) → ltb (total_of c) standstill ≡ false → rest_total c input k ≡ total_of c
stands c input k e = rw e (same (eqb input.code c.trigger))
  where
    same : (b : Bool) → cond b (total_of c) (total_of c) ≡ total_of c
    same true = refl
    same false = refl

-- the total of a card at rest: with no tick, and with one tick and k more
pub rest-none : (c : Card) (input : Input) → rest_total c input 0 ≡ total_of c
rest-none c input = go (eqb input.code c.trigger)
  where
    go : (b : Bool) → cond b (total_after (total_of c) 0) (total_of c) ≡ total_of c
    go true = after_none (total_of c)
    go false = refl

pub rest_more : (c : Card) (input : Input) (k : ℕ) → rest_total (with_total c (rest_total c input 1)) input k ≡ rest_total c input (suc k)
rest_more c input k = go (eqb input.code c.trigger)
  where
    t : ℕ
    t = total_of c

    go : (b : Bool) → cond b (total_after (cond b (total_after t 1) t) k) (cond b (total_after t 1) t) ≡ cond b (total_after t (suc k)) t
    go true = ap (λ (x : ℕ). total_after x k) (after_one t) ∙ after_more t k
    go false = refl

-- a card at rest counts its ticks, and nothing else
total-one : (n : ℕ) (c : Card) (input : Input) → total_of (tick n false c input).card ≡ rest_total c input 1
total-one n c input =
    by-tick n false c input (λ t. total_of t.card ≡ rest_total c input 1)
    (λ e. rw e (tallied-total n _ c.tallies ∙ sym (after_one (total_of c)))) (λ e. rw e)

pub rest-card : (n : ℕ) (c : Card) (input : Input) → AtRest n c input → (tick n false c input).card ≡ with_total c (rest_total c input 1)
rest-card n c input rest =
    let d = (tick n false c input).card in
    ap (λ (e : Card). with_total e (total_of d)) rest.kept ∙ ap (with_total c) (total-one n c input)

-- no answer goes by the total
answer-any : (n : ℕ) (c : Card) (input : Input) (total : ℕ) → (tick n false (with_total c total) input).answer ≡ (tick n false c input).answer
answer-any n c input total = by-ticks n false false (with_total c total) c input input refl (λ a b. a.answer ≡ b.answer) refl refl

-- below the standstill a card at rest is so whatever its total
rest-any : (n : ℕ) (c : Card) (input : Input) (total : ℕ) → ltb (total_of c) standstill ≡ true → AtRest n c input → AtRest n (with_total c total) input
rest-any n c input total below rest =
    record {
      asleep = ap (λ (a : Answer). a.woken) (answer-any n c input total) ∙ rest.asleep;
      kept = by-ticks n false false (with_total c total) c input input refl
          (λ a b. with_total b.card (total_of c) ≡ c → with_total a.card total ≡ with_total c total) own (λ _. refl) rest.kept;
    }
  where
    own : with_total (ticked n false c input).card (total_of c) ≡ c → with_total (ticked n false (with_total c total) input).card total ≡ with_total c total
    own kept =
        let stay = cells-any n _ c.tallies.cells (total_of c) total below (ap (λ (d : Card). d.tallies.cells) kept) in
        λ k.
        record {
          pointer = c.pointer;
          trigger = c.trigger;
          cells = (kept k).cells;
          connectors = c.connectors;
          edited = (kept k).edited;
          memory = (kept k).memory;
          size = c.size;
          tallies = record { cells = stay k; total = ticks total };
        }

-- so it still is after a tick
pub rest-on : (n : ℕ) (c : Card) (input : Input) → AtRest n c input → AtRest n (with_total c (rest_total c input 1)) input
rest-on n c input rest = go (ltb (total_of c) standstill) refl
  where
    go : (b : Bool) → ltb (total_of c) standstill ≡ b → AtRest n (with_total c (rest_total c input 1)) input
    go true e = rest-any n c input (rest_total c input 1) e rest
    go false e = subst (λ (t : ℕ). AtRest n (with_total c t) input) (sym (stands c input 1 e)) rest

-- ---- a card of n cells, whose words are those of n cells

pub still-fits : (n : ℕ) (m : Memory) → m.outputs < 2 ^ n → StillMemory m → FitsMemory n m
still-fits n m h s = (h, subst (λ (x : ℕ). x < 2 ^ n) (sym s.outputs2) h, subst (λ (x : ℕ). x < 2 ^ n) (sym s.outputs3) h)
