-- Choices at the caps, as words: those among the open cells are enough, and from the greatest of these each next one is found by one step.
use Prim.Native.Nat.{ℕ, zero, suc, ◌+◌, ◌-◌, ◌*◌, ◌/◌, ◌%◌, ◌^◌, ◌≤◌, ◌<◌, min}
use mathlib.Core.Path.{◌≡◌, refl, sym, ap, ◌∙◌, subst}
use mathlib.Core.Bool.{Bool, true, false, cond, ◌&&◌}
use mathlib.Core.List.{List, ◌++◌}
use mathlib.Core.Logic.{◌⊎◌, inl, inr}
use native.Mathlib.Nat.{lt_of_le_of_lt, two-pow-succ}
use native.Mathlib.Decide.{dec_lt}
use native.Mathlib.Omega.{arith}
use lib.Bits.{bit_and, and_le_l, and_le_r, and_self, and_step, and_shr, and_mod}
use lib.ListN.{drop}
use Rattle.words.specs.Bits.{bit_at, word_of}
use Rattle.words.proofs.Laws.{bit-and, bit-built, word-ext}
use Rattle.words.proofs.Listed.{listed_same}
use Rattle.cells.specs.declared.cell.Cell.{Cell}
use Rattle.cells.specs.State.{state, with_state}
use Rattle.cells.specs.Table.{row_of}
use Rattle.cells.specs.Work.{pulses}
use Rattle.card.specs.declared.card.Card.{Card}
use Rattle.ticks.specs.Runs.{cell_at}
use Rattle.reach.specs.declared.rows.Form.{Form}
use Rattle.reach.specs.Rows.{cap_of, open_by, chosen_count, lifted_by, cap_at, word_in, count_at, memory_in, row_cell, open_at, row_card}

-- ---- words within a word

abbrev pub Within : (x m : ℕ) → Type 0
Within x m = bit_and x m ≡ x

-- what the last bit adds
odd-less : (x s b p q : ℕ) → b ≡ p * 2 + q → p ≡ s / 2 → 0 < s % 2 → x < s → x ≤ b
odd-less x s b p q e f g h = omega arith

even-less : (x s b p t : ℕ) → b ≡ p * 2 + min ((s - 1) % 2) t → x / 2 ≤ p → x % 2 ≤ t → s % 2 ≡ 0 → x < s → x ≤ b
even-less x s b p t e f g h l = omega arith

half-within : (x m : ℕ) → Within x m → Within (x / 2) (m / 2)
half-within x m e = sym (and_shr x m 1) ∙ ap (λ (y : ℕ). y / 2) e

last_within : (x m : ℕ) → Within x m → x % 2 ≤ m % 2
last_within x m e = subst (λ (y : ℕ). y ≤ m % 2) (sym (and_mod x m 1) ∙ ap (λ (y : ℕ). y % 2) e) (and_le_r (x % 2) (m % 2))

pub within-most : (x m : ℕ) → Within x m → x ≤ m
within-most x m e = subst (λ (y : ℕ). y ≤ m) e (and_le_r x m)

-- none is between a word within m and the next one below it
next-within : (k m s x : ℕ) → m < 2 ^ k → Within s m → Within x m → x < s → x ≤ bit_and (s - 1) m
next-within zero m s x h ws wx l = let most = within-most s m ws in absurd (omega arith)
next-within (suc k) m s x h ws wx l = go (dec_lt 0 (s % 2)) (next-within k (m / 2) (s / 2) (x / 2))
  where
    half : m / 2 < 2 ^ k
    half = omega (arith, two-pow-succ k)

    step : bit_and (s - 1) m ≡ bit_and ((s - 1) / 2) (m / 2) * 2 + min ((s - 1) % 2) (m % 2)
    step = and_step (s - 1) m

    go : Dec (0 < s % 2) → (m / 2 < 2 ^ k → Within (s / 2) (m / 2) → Within (x / 2) (m / 2) → x / 2 < s / 2 → x / 2 ≤ bit_and (s / 2 - 1) (m / 2))
        → x ≤ bit_and (s - 1) m
    go (yes odd) below =
        let same : (s - 1) / 2 ≡ s / 2 = omega arith in
        odd-less x s (bit_and (s - 1) m) (bit_and ((s - 1) / 2) (m / 2)) (min ((s - 1) % 2) (m % 2)) step
        (ap (λ (y : ℕ). bit_and y (m / 2)) same ∙ half-within s m ws) odd l
    go (no even) below =
        let none : s % 2 ≡ 0 = omega arith in
        let same : s / 2 - 1 ≡ (s - 1) / 2 = omega arith in
        let less : x / 2 < s / 2 = omega arith in
        even-less x s (bit_and (s - 1) m) (bit_and ((s - 1) / 2) (m / 2)) (m % 2) step
        (subst (λ (y : ℕ). x / 2 ≤ bit_and y (m / 2)) same (below half (half-within s m ws) (half-within x m wx) less)) (last_within x m wx) none l

-- the greatest word within m is m itself
abbrev pub Stage : (s m : ℕ) → Type 0
Stage s m = (s ≡ m + 1) ⊎ Within s m

below-stage : (m s x : ℕ) → m < 2 ^ 32 → Stage s m → Within x m → x < s → x ≤ bit_and (s - 1) m
below-stage m s x h (inl e) wx l =
    let same : m ≡ s - 1 = omega arith in
    let whole : bit_and (s - 1) m ≡ m = subst (λ (y : ℕ). bit_and y m ≡ m) same (and_self m) in
    let most : x ≤ m = omega arith in
    subst (λ (y : ℕ). x ≤ y) (sym whole) most
below-stage m s x h (inr ws) wx l = next-within 32 m s x h ws wx l

-- a loop over the words within m, from the greatest down: what holds of those from s on, and of the next one, holds of those from it on
pub one_choice : (P : ℕ → Type 0) (m s : ℕ) → m < 2 ^ 32 → Stage s m → ((x : ℕ) → Within x m → s ≤ x → P x) → P (bit_and (s - 1) m)
    → (x : ℕ) → Within x m → bit_and (s - 1) m ≤ x → P x
one_choice P m s h stage above at x wx l = go (dec_lt x s)
  where
    go : Dec (x < s) → P x
    go (yes less) =
        let most = below-stage m s x h stage wx less in
        let e : bit_and (s - 1) m ≡ x = omega arith in
        subst P e at
    go (no more) = above x wx (omega arith)

pub less-choice : (m s : ℕ) → 0 < s → bit_and (s - 1) m < s
less-choice m s h = let least = and_le_l (s - 1) m in omega arith

pub choice-most : (m s : ℕ) → bit_and (s - 1) m ≤ m + 1
choice-most m s = let most = and_le_r (s - 1) m in omega arith

and_again : (a b : Bool) → ((a && b) && b) ≡ (a && b)
and_again true true = refl
and_again true false = refl
and_again false true = refl
and_again false false = refl

pub and-within : (a m : ℕ) → m < 2 ^ 32 → Within (bit_and a m) m
and-within a m h =
    word-ext (bit_and (bit_and a m) m) (bit_and a m) 32 (lt_of_le_of_lt (and_le_r (bit_and a m) m) h) (lt_of_le_of_lt (and_le_r a m) h)
    (λ i k. bit-and (bit_and a m) m i ∙ ap (λ (b : Bool). b && bit_at m i) (bit-and a m i) ∙ and_again (bit_at a i) (bit_at m i) ∙ sym (bit-and a m i))

-- ---- the card of a row goes by the choice among its open cells

and-open : (o b : Bool) (f : Bool → ℕ) (z : ℕ) → cond o (f (b && o)) z ≡ cond o (f b) z
and-open true true f z = refl
and-open true false f z = refl
and-open false b f z = refl

row-chosen : (n : ℕ) (c : Card) (form : Form) (choice : ℕ) (rows : List ℕ) (row : ℕ)
    → row_card n c form (bit_and choice (word_of (open_at c form rows row) n)) rows row ≡ row_card n c form choice rows row
unfolding row_card
row-chosen n c form choice rows row =
    let m = word_of (open_at c form rows row) n in
    let with : List Cell → Card = λ cells.
    record {
      pointer = c.pointer;
      trigger = c.trigger;
      cells = cells ++ drop n c.cells;
      connectors = c.connectors;
      edited = 0;
      memory = memory_in form.width rows row;
      size = c.size;
      tallies = c.tallies;
    } in
    ap with (listed_same (row_cell c form (bit_and choice m) rows row) (row_cell c form choice rows row) n (λ i h.
    let cap = cap_of (row_of (cell_at c i).kind).class (cap_at form.caps i) in
    let w = count_at form rows row i in
    let bit : bit_at (bit_and choice m) i ≡ (bit_at choice i && open_by cap w) =
    bit-and choice m i ∙ ap (λ (b : Bool). bit_at choice i && b) (bit-built (open_at c form rows row) n i h) in
    let counts : lifted_by cap (bit_at (bit_and choice m) i) w ≡ lifted_by cap (bit_at choice i) w =
    ap (λ (b : Bool). lifted_by cap b w) bit ∙ and-open (open_by cap w) (bit_at choice i) (chosen_count cap) w in
    ap (λ (k : ℕ). with_state (cell_at c i) (state (pulses k) (bit_at (word_in form.width rows row 0) i) (bit_at (word_in form.width rows row 1) i))) counts))

-- so the words within that of the open cells are enough
pub all-choices : (n : ℕ) (c : Card) (form : Form) (rows : List ℕ) (row m : ℕ) (From : Card → Type 0) → m ≡ word_of (open_at c form rows row) n
    → m < 2 ^ 32 → ((x : ℕ) → Within x m → From (row_card n c form x rows row)) → (choice : ℕ) → From (row_card n c form choice rows row)
all-choices n c form rows row m From e h all choice =
    subst From (ap (λ (k : ℕ). row_card n c form (bit_and choice k) rows row) e ∙ row-chosen n c form choice rows row)
    (all (bit_and choice m) (and-within choice m h))
