-- What is above the n bits of a cell word is not seen: a tick of a memory and of the same
-- memory cut to n bits are one.
use Prim.Native.Nat.{ℕ, zero, suc, ◌+◌, ◌-◌, ◌*◌, ◌%◌, ◌^◌, ◌≤◌, ◌<◌}
use mathlib.Core.Path.{◌≡◌, refl, ap, ap₂, ◌∙◌}
use mathlib.Core.Bool.{Bool, true, false, cond}
use mathlib.Core.List.{List, ◌++◌}
use native.Mathlib.Nat.{mod-lt}
use native.Mathlib.Omega.{arith}
use lib.Pow.{pow_pos}
use lib.Dec.{ltb}
use lib.ListN.{drop, get_or}
use Rattle.words.specs.Bits.{bit_at, bit_number}
use Rattle.words.proofs.Laws.{bit-mod, built-same}
use Rattle.words.proofs.Listed.{listed_same}
use Rattle.cells.specs.declared.cell.Cell.{Cell}
use Rattle.card.specs.declared.card.Card.{Card}
use Rattle.card.specs.declared.card.Connectors.{Connectors}
use Rattle.card.specs.declared.card.Memory.{Memory}
use Rattle.card.specs.Address.{first_cell, among}
use Rattle.card.specs.Fresh.{no_cell}
use Rattle.card.proofs.Places.{among-bounds}
use Rattle.ticks.specs.declared.connectors.Lines.{Lines}
use Rattle.ticks.specs.declared.view.Input.{Input}
use Rattle.ticks.specs.declared.view.Wires.{Wires}
use Rattle.ticks.specs.Reading.{slots_read, level_at, mixed, view}
use Rattle.ticks.specs.Levels.{effective_sample, lines_of}
use Rattle.ticks.specs.Tick.{Turn, read_now, read_last, turn_by, turn_at, outputs_below, turn_of, turned, trimmed, wires_of}
use Rattle.ticks.specs.Tick.{lines_in, ran_with, ticked_on, ticked}
use Rattle.ticks.specs.Words.{FitsMemory}

-- two words that agree in the first n bits
abbrev pub Agree : (n a b : ℕ) → Type 0
Agree n a b = (j : ℕ) → j < n → bit_at a j ≡ bit_at b j

level-agree : (n : ℕ) (f g : ℕ → Bool) (l : ℕ → Bool) → ((j : ℕ) → j < n → f j ≡ g j) → (b : ℕ) → level_at n f l b ≡ level_at n g l b
unfolding level_at
level-agree n f g l same b = go (among first_cell n b) refl
  where
    rest : Bool
    rest = level_at 0 f l b

    go : (q : Bool) → among first_cell n b ≡ q → level_at n f l b ≡ level_at n g l b
    go true e = rw e (same (b - first_cell) (let h = among-bounds first_cell n b e in omega (arith, h)))
    go false e = rw e

pub view-agree : (n i a b c d l : ℕ) → Agree n a b → Agree n c d → view n i a c l ≡ view n i b d l
unfolding view mixed
view-agree n i a b c d l p q = λ k x. level-agree n (mixed i a c) (mixed i b d) (bit_at l) (λ j h. both (ltb j i) j h) x k
  where
    both : (t : Bool) (j : ℕ) → j < n → cond t (bit_at a j) (bit_at c j) ≡ cond t (bit_at b j) (bit_at d j)
    both true j h = p j h
    both false j h = q j h

pub cut : (n o : ℕ) → Agree n (o % 2 ^ n) o
cut n o j h = bit-mod o n j h

module _ (n : ℕ) (m : Memory) where
  pub lines-trim : (connectors : Connectors) (sample : ℕ) → lines_in n (trimmed n m) connectors sample ≡ lines_in n m connectors sample
  lines-trim connectors sample =
      let now = view-agree n 0 _ m.outputs _ m.outputs m.levels (cut n m.outputs) (cut n m.outputs) in
      let before = view-agree n 0 _ m.outputs2 _ m.outputs2 m.levels2 (cut n m.outputs2) (cut n m.outputs2) in
      λ k. lines_of (now k) (before k) connectors sample

  pub now-trim : (levels i below : ℕ) (s : List ℕ) → read_now n i (wires_of (trimmed n m) levels) below s ≡ read_now n i (wires_of m levels) below s
  unfolding read_now
  now-trim levels i below s =
      let now = view-agree n i below below _ m.outputs levels (λ j k. refl) (cut n m.outputs) in
      let last = view-agree n i _ m.outputs _ m.outputs2 m.levels (cut n m.outputs) (cut n m.outputs2) in
      λ k. slots_read (now k) (last k) s

  pub last-trim : (levels i : ℕ) (s : List ℕ) → read_last n i (wires_of (trimmed n m) levels) s ≡ read_last n i (wires_of m levels) s
  unfolding read_last
  last-trim levels i s =
      let last = view-agree n i _ m.outputs _ m.outputs2 m.levels (cut n m.outputs) (cut n m.outputs2) in
      let earlier = view-agree n i _ m.outputs2 _ m.outputs3 m.levels2 (cut n m.outputs2) (cut n m.outputs3) in
      λ k. slots_read (last k) (earlier k) s

  module _ (full : Bool) (cells : List Cell) (edited levels : ℕ) where
    wt : Wires
    wt = wires_of (trimmed n m) levels

    w : Wires
    w = wires_of m levels

    turn-trim : (cell : Cell) (i below : ℕ) → i < n → turn_at n full cell i edited wt below ≡ turn_at n full cell i edited w below
    unfolding turn_at read_now read_last wt w
    turn-trim cell i below h =
        let now = view-agree n i below below _ m.outputs levels (λ j k. refl) (cut n m.outputs) in
        let last = view-agree n i _ m.outputs _ m.outputs2 m.levels (cut n m.outputs) (cut n m.outputs2) in
        let earlier = view-agree n i _ m.outputs2 _ m.outputs3 m.levels2 (cut n m.outputs2) (cut n m.outputs3) in
        let bit = cut n m.outputs i h in
        λ k.
        let read = slots_read (now k) (last k) cell.slots in
        turn_by full cell (bit_at edited i) (bit k) read (slots_read (last k) (earlier k) cell.slots)

    outputs-trim : (i : ℕ) → i ≤ n → outputs_below n full cells edited wt i ≡ outputs_below n full cells edited w i
    unfolding outputs_below
    outputs-trim zero h = refl
    outputs-trim (suc i) h =
        let below = outputs-trim i (omega arith) in
        let turn = ap (λ (o : ℕ). turn_at n full (get_or cells i no_cell) i edited wt o) below
        ∙ turn-trim (get_or cells i no_cell) i (outputs_below n full cells edited w i) (omega arith) in
        ap₂ (λ (o : ℕ) (t : Turn). o + bit_number t.out * 2 ^ i) below turn

    turn-of-trim : (i : ℕ) → i < n → turn_of n full cells edited wt i ≡ turn_of n full cells edited w i
    turn-of-trim i h =
        ap (λ (o : ℕ). turn_at n full (get_or cells i no_cell) i edited wt o) (outputs-trim i (omega arith))
        ∙ turn-trim (get_or cells i no_cell) i (outputs_below n full cells edited w i) h

    pub turned-trim : turned n full cells edited (wires_of (trimmed n m) levels) ≡ turned n full cells edited (wires_of m levels)
    unfolding turned wt w
    turned-trim =
        let cs = listed_same (λ i. (turn_of n full cells edited wt i).cell) (λ i. (turn_of n full cells edited w i).cell) n
        (λ i h. ap (λ (t : Turn). t.cell) (turn-of-trim i h)) in
        let ws = built-same (λ i. (turn_of n full cells edited wt i).woke) (λ i. (turn_of n full cells edited w i).woke) n
        (λ i h. ap (λ (t : Turn). t.woke) (turn-of-trim i h)) in
        let ns = built-same (λ i. (turn_of n full cells edited wt i).named) (λ i. (turn_of n full cells edited w i).named) n
        (λ i h. ap (λ (t : Turn). t.named) (turn-of-trim i h)) in
        let os = outputs-trim n (omega arith) in
        λ k. record { cells = cs k ++ drop n cells; outputs = os k; named = ns k; woken = ws k }

pub trim-fits : (n : ℕ) (m : Memory) → FitsMemory n (trimmed n m)
trim-fits n m = (mod-lt m.outputs (pow_pos n), mod-lt m.outputs2 (pow_pos n), mod-lt m.outputs3 (pow_pos n))

-- what the code makes of the words cut to n bits is the tick of the card, with any lines and with
-- the card's own
pub whole-tick-on : (n : ℕ) (full : Bool) (c : Card) (m : Memory) (l : Lines) → m ≡ trimmed n c.memory
    → ran_with n m c l (turned n full c.cells c.edited (wires_of m l.levels)) ≡ ticked_on n full c l
whole-tick-on n full c m l e =
    ap (λ (v : Memory). ran_with n v c l (turned n full c.cells c.edited (wires_of v l.levels))) e
    ∙ ap (ran_with n (trimmed n c.memory) c l) (turned-trim n c.memory full c.cells c.edited l.levels)

pub whole-tick : (n : ℕ) (full : Bool) (c : Card) (input : Input) (m : Memory) (l : Lines) → m ≡ trimmed n c.memory
    → l ≡ lines_in n m c.connectors (effective_sample input.sample input.attached)
    → ran_with n m c l (turned n full c.cells c.edited (wires_of m l.levels)) ≡ ticked n full c input
whole-tick n full c input m l e el =
    let sample = effective_sample input.sample input.attached in
    let same = el ∙ ap (λ (v : Memory). lines_in n v c.connectors sample) e ∙ lines-trim n c.memory c.connectors sample in
    whole-tick-on n full c m l e ∙ ap (ticked_on n full c) same
