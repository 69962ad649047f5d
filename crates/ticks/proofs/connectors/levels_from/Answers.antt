-- `ticks::connectors::levels_from` meets its contract: bit by bit.
use mathlib.Core.Path.{◌≡◌, refl, sym, ap, ap₂, ◌∙◌}
use mathlib.Core.Bool.{Bool, true, false, not, ◌&&◌, ◌||◌, beq}
use Prim.Native.Nat.{ℕ, ◌<◌}
use native.Mathlib.Nat.{lt_of_le_of_lt}
use lib.Bits.{bit_and, bit_or, bit_xor, and_le_l, or_lt}
use Rattle.words.specs.Bits.{bit_at}
use Rattle.words.proofs.Laws.{bit-and, bit-or, bit-xor, bit-ones, built-of-bits, built-same}
use Rattle.card.specs.Address.{connector_count}
use Rattle.ticks.specs.Levels.{level_bit, level_in, levels_from}
use borrow.Author.Rules.{rules}
use Rattle.ticks.proofs.connectors.levels_from.Goals as goal

-- what the masks give is the rule
level-rule : (p o s d : Bool) → ((d && (p || s)) || (s && not (beq (p || o) true))) ≡ level_bit p o s d
level-rule true o s true = refl
level-rule true o true false = refl
level-rule true o false false = refl
level-rule false true true true = refl
level-rule false true true false = refl
level-rule false true false true = refl
level-rule false true false false = refl
level-rule false false true true = refl
level-rule false false true false = refl
level-rule false false false true = refl
level-rule false false false false = refl

bits : (push drain driven sample k : ℕ) → k < connector_count
    → bit_at (bit_or (bit_and driven (bit_or push sample)) (bit_and sample (bit_xor (bit_or push drain) 65535))) k ≡ level_in push drain driven sample k
bits push drain driven sample k h =
    let d = bit_at driven k in
    let s = bit_at sample k in
    let left = bit-and driven (bit_or push sample) k ∙ ap (λ (x : Bool). d && x) (bit-or push sample k) in
    let none = bit-xor (bit_or push drain) 65535 k
    ∙ ap₂ (λ (x y : Bool). not (beq x y)) (bit-or push drain k) (bit-ones connector_count k h) in
    let right = bit-and sample (bit_xor (bit_or push drain) 65535) k ∙ ap (λ (x : Bool). s && x) none in
    bit-or (bit_and driven (bit_or push sample)) (bit_and sample (bit_xor (bit_or push drain) 65535)) k ∙ ap₂ (λ (x y : Bool). x || y) left right
    ∙ level-rule (bit_at push k) (bit_at drain k) s d

pub returns : goal.returns
unfolding levels_from
returns c =
    let a = c.args in
    let shown = bit_or (bit_and a.driven (bit_or a.push a.sample)) (bit_and a.sample (bit_xor (bit_or a.push a.drain) 65535)) in
    sym
    (built-of-bits shown connector_count
    (or_lt connector_count _ _ (lt_of_le_of_lt (and_le_l a.driven (bit_or a.push a.sample)) (search rules))
    (lt_of_le_of_lt (and_le_l a.sample (bit_xor (bit_or a.push a.drain) 65535)) (search rules))))
    ∙ built-same (bit_at shown) (level_in a.push a.drain a.driven a.sample) connector_count
    (bits a.push a.drain a.driven a.sample)
