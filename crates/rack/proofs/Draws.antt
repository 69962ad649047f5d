-- What a card draws, by its connectors: the ones of the front word, and that ticks and equal types draw the same.
use Prim.Native.Nat.{ℕ, zero, suc, max, ◌+◌, ◌≤◌, ◌<◌}
use mathlib.Core.Path.{◌≡◌, refl, sym, ap, ap₂, ◌∙◌}
use mathlib.Core.Bool.{Bool, true, false, ◌&&◌, cond}
use native.Mathlib.Nat.{lt_of_le_of_lt, le_refl}
use native.Mathlib.Omega.{arith}
use lib.Bits.{bit_and, and_le_r}
use lib.Count.{ones}
use mathlib.Core.List.{List}
use lib.ListN.{length, get_or, get_or-map, set, length-map}
use Rattle.std.specs.List.{sum}
use lib.Dec.{eqb, ltb, lit<}
use borrow.Author.Tests.{eqb-true}
use Rattle.std.proofs.Math.Bool.{and-true}
use Rattle.std.proofs.lemmas.List.Sums.{sum_by-le, sum_by-set, sum-map}
use Rattle.words.specs.Bits.{bit_at, bit_number, word_of, count_of}
use Rattle.words.proofs.Bools.{and_left, and_right}
use Rattle.words.proofs.Laws.{bit-and, bit-ones, built-of-bits, built-same, ones-built}
use Rattle.card.specs.declared.card.Card.{Card}
use Rattle.card.specs.declared.card.Connectors.{Connectors}
use Rattle.card.specs.Address.{front_count}
use Rattle.card.specs.Connectors.{push_pull_type, kind_at}
use Rattle.card.proofs.ConnectorLaws.{kind-push}
use Rattle.ticks.specs.declared.view.Input.{Input}
use Rattle.ticks.specs.Tick.{ticked_on, idle}
use Rattle.rack.specs.Shared.{shared_lines, shared_tick}
use Rattle.rack.specs.Supply.{most_cards, supply, share, pushes, draw, draws_of, draws, same_kinds, same_fronts}
use Rattle.rack.specs.Rack.{start_card}

-- ---- the ones of the front word

abbrev front : ℕ
front = 255

abbrev push_at : Connectors → ℕ → Bool
push_at d k = eqb (kind_at d k) push_pull_type

front-word : (d : Connectors) → bit_and d.push_pull front ≡ word_of (push_at d) front_count
front-word d =
    let w = bit_and d.push_pull front in
    sym (built-of-bits w front_count (lt_of_le_of_lt (and_le_r d.push_pull front) (lit< tt)))
    ∙ built-same (bit_at w) (push_at d) front_count (λ k h. bit-and d.push_pull front k
    ∙ ap (λ (x : Bool). bit_at d.push_pull k && x) (bit-ones front_count k h) ∙ and-true (bit_at d.push_pull k) ∙ sym (kind-push d k))

pub front-ones : (d : Connectors) → ones (bit_and d.push_pull front) ≡ count_of (push_at d) front_count
front-ones d = ap ones (front-word d) ∙ ones-built (push_at d) front_count

bit-small : (b : Bool) → bit_number b ≤ 1
bit-small true = le_refl 1
bit-small false = omega arith

pub count-le : (f : ℕ → Bool) (n : ℕ) → count_of f n ≤ n
unfolding count_of
count-le f zero = le_refl 0
count-le f (suc n) =
    let rest = count-le f n in
    let one = bit-small (f n) in
    omega (arith, rest, one)

pub front-few : (d : Connectors) → ones (bit_and d.push_pull front) ≤ front_count
front-few d =
    let e = front-ones d in
    let h = count-le (push_at d) front_count in
    omega (arith, e, h)

-- a card draws at most 8, and the cards of a rack at most 32
draw-le : (a : Connectors) → draw a ≤ front_count
unfolding draw pushes
draw-le a = omega (arith, count-le (push_at a) front_count)

abbrev pub drawn : Card → ℕ
drawn c = draw c.connectors

pub draws-few : (cards : List Card) → length cards ≤ most_cards → draws cards ≤ 32
draws-few cards few =
    let each = sum_by-le drawn front_count cards (λ k d h. draw-le (get_or cards k d).connectors) in
    rw (sum-map drawn cards) (omega (arith, each, few))

-- the sum with another number in a place
pub draws-set : (cards : List Card) (i : ℕ) (x : Card) (v : ℕ) → i < length cards
    → sum (set (draws_of cards) i v) + drawn (get_or cards i x) ≡ draws cards + v
draws-set cards i x v h =
    let long = length-map cards drawn in
    rw (sym (get_or-map drawn cards i x)) (sum_by-set (λ (m : ℕ). m) (draws_of cards) i v (drawn x) (omega (arith, h, long)))

pub over-sum : (cards : List Card) (i : ℕ) (x : Card) (v : ℕ) → i < length cards
    → ltb (supply + drawn (get_or cards i x)) (draws cards + v) ≡ ltb supply (sum (set (draws_of cards) i v))
over-sum cards i x v h = shift _ _ _ _ (draws-set cards i x v h)
  where
    shift : (s b m n : ℕ) → m + b ≡ n → ltb (s + b) n ≡ ltb s m
    shift s b m n e = grind arith

-- ---- what stays the same

same_count : (k : ℕ) (a b : Connectors) → same_kinds k a b ≡ true → count_of (push_at a) k ≡ count_of (push_at b) k
unfolding same_kinds count_of
same_count zero a b e = refl
same_count (suc k) a b e =
    ap₂ (λ (x : ℕ) (m : ℕ). x + bit_number (eqb m push_pull_type)) (same_count k a b (and_left _ _ e))
    (eqb-true (kind_at a k) (kind_at b k) (and_right (same_kinds k a b) _ e))

pub same-draw : (a b : Connectors) → same_fronts a b ≡ true → draw a ≡ draw b
unfolding draw pushes
same-draw a b e = ap (λ (m : ℕ). max m share) (same_count front_count a b e)

pub tick-draw : (n : ℕ) (full : Bool) (c : Card) (input : Input) (low : ℕ) → draw (shared_tick n full c input low).card.connectors ≡ draw c.connectors
unfolding shared_tick draw pushes
tick-draw n full c input low = ap (λ (d : Connectors). max (count_of (push_at d) front_count) share) (go (eqb input.code
    c.trigger))
  where
    go : (b : Bool) → (cond b (ticked_on n full c (shared_lines n c input low)) (idle c)).card.connectors ≡ c.connectors
    go true = refl
    go false = refl

pub start-draw : (n : ℕ) → draw (start_card n).connectors ≡ share
unfolding draw pushes count_of kind_at bit_at
start-draw n = refl
