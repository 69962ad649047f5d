-- `rack::shared::levels_on` meets its contract: bit by bit.
use mathlib.Core.Path.{◌≡◌, refl, sym, ap, ap₂, ◌∙◌}
use Prim.Native.Nat.{ℕ, ◌<◌}
use mathlib.Core.Bool.{Bool, true, not, ◌&&◌, ◌||◌, cond, beq}
use native.Mathlib.Nat.{lt_of_le_of_lt}
use native.Mathlib.Omega.{arith}
use lib.Bits.{bit_and, bit_or, bit_xor, and_le_l, and_le_r, or_lt}
use lib.Dec.{lit<}
use borrow.Author.Rules.{rules}
use Rattle.words.specs.Bits.{bit_at, word_of}
use Rattle.words.proofs.Laws.{bit-and, bit-or, bit-xor, bit-ones, bit-built, built-of-bits, built-same}
use Rattle.card.specs.Address.{connector_count, on_backplane}
use Rattle.ticks.proofs.Effective.{backplane, backplane-bit}
use Rattle.rack.specs.Shared.{shared_at, shared_levels}
use Rattle.rack.proofs.shared.levels_on.Goals as goal

abbrev front : ℕ
front = 255

abbrev shown : (own sample low : ℕ) → ℕ
shown own sample low = bit_or (bit_and own front) (bit_and sample (bit_and backplane (bit_xor low 65535)))

front-built : word_of (λ k. not (on_backplane k)) connector_count ≡ front
unfolding word_of
front-built = refl

front-bit : (k : ℕ) → k < connector_count → bit_at front k ≡ not (on_backplane k)
front-bit k h = ap (λ (w : ℕ). bit_at w k) (sym front-built) ∙ bit-built (λ j. not (on_backplane j)) connector_count k h

-- what the masks give is the rule
rule : (o s l b : Bool) → ((o && not b) || (s && (b && not (beq l true)))) ≡ cond b (s && not l) o
rule o s l b = grind arith

bits : (own sample low k : ℕ) → k < connector_count → bit_at (shown own sample low) k ≡ shared_at own sample low k
bits own sample low k h =
    let left = bit-and own front k ∙ ap (λ (x : Bool). bit_at own k && x) (front-bit k h) in
    let none = bit-xor low 65535 k ∙ ap (λ (x : Bool). not (beq (bit_at low k) x)) (bit-ones connector_count k h) in
    let back = bit-and backplane (bit_xor low 65535) k ∙ ap₂ (λ (x y : Bool). x && y) (backplane-bit k h) none in
    let right = bit-and sample (bit_and backplane (bit_xor low 65535)) k ∙ ap (λ (x : Bool). bit_at sample k && x) back in
    bit-or (bit_and own front) (bit_and sample (bit_and backplane (bit_xor low 65535))) k ∙ ap₂ (λ (x y : Bool). x || y) left right
    ∙ rule (bit_at own k) (bit_at sample k) (bit_at low k) (on_backplane k)

pub returns : goal.returns
unfolding shared_levels
returns c =
    let a = c.args in
    sym (built-of-bits (shown a.own a.sample a.low) connector_count
    (or_lt connector_count _ _ (lt_of_le_of_lt (and_le_r a.own front) (lit< tt))
    (lt_of_le_of_lt (and_le_l a.sample (bit_and backplane (bit_xor a.low 65535))) (search rules))))
    ∙ built-same (bit_at (shown a.own a.sample a.low)) (shared_at a.own a.sample a.low) connector_count (bits a.own a.sample a.low)
