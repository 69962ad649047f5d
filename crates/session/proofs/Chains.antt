-- Laws of what a line prints: its words, its length, and the tick line's digits.
use Prim.Native.Nat.{ℕ, ◌+◌, ◌/◌, ◌%◌, ◌^◌, ◌≤◌, ◌<◌}
use mathlib.Core.Path.{◌≡◌, refl, sym, ap, ◌∙◌}
use mathlib.Core.Bool.{Bool, true, false, ◌&&◌, cond}
use mathlib.Core.List.{List, [], ◌∷◌, ◌++◌}
use native.Mathlib.Omega.{arith}
use lib.Dec.{eqb, leb, lit≤}
use lib.ListN.{length, length-append, length-take}
use lib.Seq.{sets}
use Rattle.text.specs.Decimal.{decimal, max_digits}
use Rattle.text.specs.Hex.{hex_digit, hex_digits, hex4}
use Rattle.text.proofs.DecimalLaws.{decimal-length}
use Rattle.text.proofs.HexLaws.{hex-length}
use Rattle.text.proofs.Stores.{Stored, behind}
use Rattle.words.proofs.Bools.{and_left, and_right}
use Rattle.card.specs.declared.card.Card.{Card}
use Rattle.card.specs.Address.{cell_room, cells_for}
use Rattle.card.proofs.Places.{cells-most}
use Rattle.ticks.specs.declared.view.Input.{Input}
use Rattle.ticks.specs.declared.tick.Answer.{Answer}
use Rattle.ticks.specs.Tick.{tick}
use Rattle.ticks.proofs.Counts.{tick-count}
use Rattle.lines.specs.Line.{shortest_reply}
use Rattle.session.specs.Session.{word, cell_digits, ran_text, idle_text, tick_text, load_text, plain_reply, longest_print}

-- a word of a tick's line, four hex digits and a blank, after what is there
pub word-behind : {l a x : List ℕ} {at : ℕ} → Stored l a x at → (w : ℕ) {r : List ℕ} {end : ℕ} → (r ≡ sets a at (word w)) × (end ≡ at + 5)
    → Stored l r (x ++ word w) end
word-behind {l} {a} {x} {at} s w e =
    let long : length (word w) ≡ 5 = length-append (hex4 w) (32 ∷ []) ∙ ap (λ (k : ℕ). k + 1) (hex-length 4 w) in
    behind s (word w) (e.0, e.1 ∙ ap (λ (k : ℕ). at + k) (sym long))

-- the third of the tests at the head of a tick line
pub third : (a b d e f : Bool) → (((a && b) && (d && e)) && f) ≡ true → d ≡ true
third a b d e f h = and_left d e (and_right (a && b) (d && e) (and_left ((a && b) && (d && e)) f h))

-- the count of a tick is small enough to be printed
pub count_small : (full : Bool) (c : Card) (input : Input) → (tick (cells_for c.size) full c input).answer.count < 100
count_small full c input = let b = tick-count (cells_for c.size) full c input in omega (arith, cells-most c.size)

-- ---- a word of the cells

-- a half of it, whose other half is cut off
pub four_low : (w : ℕ) → hex4 (w % 65536) ≡ hex4 w
unfolding hex_digits
four_low w =
    let a : w % 65536 / 16 / 16 / 16 % 16 ≡ w / 16 / 16 / 16 % 16 = omega arith in
    let b : w % 65536 / 16 / 16 % 16 ≡ w / 16 / 16 % 16 = omega arith in
    let c : w % 65536 / 16 % 16 ≡ w / 16 % 16 = omega arith in
    let d : w % 65536 % 16 ≡ w % 16 = omega arith in
    λ k. hex_digit (a k) ∷ hex_digit (b k) ∷ hex_digit (c k) ∷ hex_digit (d k) ∷ []

-- both halves
pub eight : (w : ℕ) → hex4 (w / 65536) ++ hex4 (w % 65536) ≡ hex_digits 8 w
unfolding hex_digits
eight w =
    let a : w / 65536 / 16 / 16 / 16 % 16 ≡ w / 16 / 16 / 16 / 16 / 16 / 16 / 16 % 16 = omega arith in
    let b : w / 65536 / 16 / 16 % 16 ≡ w / 16 / 16 / 16 / 16 / 16 / 16 % 16 = omega arith in
    let c : w / 65536 / 16 % 16 ≡ w / 16 / 16 / 16 / 16 / 16 % 16 = omega arith in
    let d : w / 65536 % 16 ≡ w / 16 / 16 / 16 / 16 % 16 = omega arith in
    let low = four_low w in
    (λ k. hex_digit (a k) ∷ hex_digit (b k) ∷ hex_digit (c k) ∷ hex_digit (d k) ∷ low k)

large-digits : (n w : ℕ) (b : Bool) → leb cell_room n ≡ b → length (cond b (hex_digits 8 w) (hex4 w)) ≤ 8
large-digits n w true e = omega (arith, hex-length 8 w)
large-digits n w false e = omega (arith, hex-length 4 w)

pub cell-length : (n w : ℕ) → length (cell_digits n w) ≤ 8
unfolding cell_digits
cell-length n w = large-digits n w (leb cell_room n) refl

-- ---- nothing printed is longer than the room that a line asks for

pub within : {A : Type 0} {n at : ℕ} → A × (at ≡ n) → n ≤ longest_print → A × ((at ≡ n) × (at ≤ longest_print))
within s h = (s.0, (s.1, omega (arith, s.1)))

pub tick-short : (n : ℕ) (a : Answer) → a.count < 100 → length (tick_text n a) ≤ longest_print
unfolding tick_text
tick-short n a h = go a.ran
  where
    go : (ran : Bool) → length (cond ran (ran_text n a) idle_text) ≤ longest_print
    go true =
        let d = decimal-length a.count 2 (lit≤ tt) h in
        let cells = cell-length n a.cells in
        let woken = cell-length n a.woken in
        simp (length-append, hex-length) (omega arith)
    go false = lit≤ tt

pub load-short : (k : ℕ) → k < 10 ^ max_digits → length (load_text k) ≤ longest_print
unfolding load_text
load-short k h = go (eqb k 0)
  where
    go : (none : Bool) → length (cond none (58 ∷ 65 ∷ 10 ∷ []) ((58 ∷ 78 ∷ 45 ∷ []) ++ (decimal k ++ (10 ∷ [])))) ≤ longest_print
    go true = lit≤ tt
    go false =
        let d = decimal-length k max_digits (lit≤ tt) h in
        simp length-append (omega arith)

pub plain-short : (r : List ℕ) → length r ≤ shortest_reply → length (plain_reply r) ≤ longest_print
unfolding plain_reply
plain-short r h = simp (length-append, length-take) (omega arith)
