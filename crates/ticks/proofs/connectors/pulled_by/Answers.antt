-- `ticks::connectors::pulled_by` meets its contract: bit by bit.
use mathlib.Core.Path.{◌≡◌, refl, sym, ap, ap₂, ◌∙◌}
use mathlib.Core.Bool.{Bool, true, false, not, ◌&&◌, beq}
use Prim.Native.Nat.{ℕ, ◌<◌}
use native.Mathlib.Nat.{lt_of_le_of_lt}
use lib.Bits.{bit_and, bit_or, bit_xor, and_le_l}
use lib.Dec.{lit<}
use Rattle.words.specs.Bits.{bit_at}
use Rattle.words.proofs.Laws.{bit-and, bit-or, bit-xor, bit-ones, built-of-bits, built-same}
use Rattle.card.specs.declared.card.Connectors.{Connectors}
use Rattle.card.specs.Address.{connector_count}
use Rattle.card.proofs.ConnectorLaws.{kind-output}
use Rattle.ticks.specs.Levels.{pulled_at, pulled_word}
use Rattle.ticks.proofs.Effective.{backplane, backplane-bit}
use Rattle.ticks.proofs.connectors.pulled_by.Goals as goal

flipped : (b : Bool) → not (beq b true) ≡ not b
flipped true = refl
flipped false = refl

bits : (d : Connectors) (driven k : ℕ) → k < connector_count
    → bit_at (bit_and backplane (bit_and (bit_or d.push_pull d.open_drain) (bit_xor driven 65535))) k ≡ pulled_at d driven k
bits d driven k h =
    let outputs = bit-or d.push_pull d.open_drain k ∙ sym (kind-output d k) in
    let low = bit-xor driven 65535 k ∙ ap (λ (x : Bool). not (beq (bit_at driven k) x)) (bit-ones connector_count k h) ∙ flipped (bit_at driven k) in
    bit-and backplane (bit_and (bit_or d.push_pull d.open_drain) (bit_xor driven 65535)) k
    ∙ ap₂ (λ (x y : Bool). x && y) (backplane-bit k h)
    (bit-and (bit_or d.push_pull d.open_drain) (bit_xor driven 65535) k ∙ ap₂ (λ (x y : Bool). x && y) outputs low)

pub returns : goal.returns
unfolding pulled_word
returns c =
    let a = c.args in
    let d = a.connectors in
    let w = bit_and (bit_or d.push_pull d.open_drain) (bit_xor a.driven 65535) in
    sym (built-of-bits (bit_and backplane w) connector_count (lt_of_le_of_lt (and_le_l backplane w) (lit< tt)))
    ∙ built-same (bit_at (bit_and backplane w)) (pulled_at d a.driven) connector_count (bits d a.driven)
