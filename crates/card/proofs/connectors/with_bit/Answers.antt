-- `card::connectors::with_bit` meets its contract: the bit is set, and where it is to be clear, flipped.
use Rattle.std.proofs.Common.{◌≡◌, ℕ, ◌*◌, ◌^◌, ◌<◌, Bool, true, false, not, sym, refl, ap, ◌∙◌, ap₂, pow_pos, rules}
use mathlib.Core.Bool.{beq}
use lib.Bits.{bit_or, bit_xor, xor_lt}
use Rattle.words.specs.Bits.{bit_at, with_bit}
use Rattle.words.proofs.Laws.{shifted, set-bit, with-unique, with-lt, with-zero, bit-xor, bit-zero, bit-with-same, bit-with-other}
use Rattle.card.specs.Address.{connector_count}
use Rattle.card.proofs.connectors.with_bit.Goals as goal

flip_low : (b : Bool) → not (beq b false) ≡ b
flip_low true = refl
flip_low false = refl

-- a set bit, flipped
flipped : (w n k : ℕ) → w < 2 ^ n → k < n → bit_xor (with_bit w k true) (1 * 2 ^ k) ≡ with_bit w k false
flipped w n k fits h =
    let lone = with_bit 0 k true in
    ap (bit_xor (with_bit w k true)) (sym (with-zero k true))
    ∙ with-unique (bit_xor (with_bit w k true) lone) w n k false (xor_lt n _ _ (with-lt w n k true fits h) (with-lt 0 n k true (pow_pos n) h)) fits h
    (bit-xor (with_bit w k true) lone k ∙ ap₂ (λ (x y : Bool). not (beq x y)) (bit-with-same w k true) (bit-with-same 0 k true))
    (λ j ne. bit-xor (with_bit w k true) lone j
    ∙ ap₂ (λ (x y : Bool). not (beq x y)) (bit-with-other w k j true ne) (bit-with-other 0 k j true ne ∙ bit-zero j) ∙ flip_low (bit_at w j))

pub returns-then-b : goal.returns-then-b
returns-then-b c =
    let a = c.args in
    ap (bit_or a.w) (shifted connector_count a.k true (search rules)) ∙ set-bit a.w connector_count a.k (search rules) (search rules)
    ∙ ap (with_bit a.w a.k) (sym c.if-b.true)

pub returns-else-b : goal.returns-else-b
returns-else-b c =
    let a = c.args in
    let lone = shifted connector_count a.k true (search rules) in
    ap (λ (x : ℕ). bit_xor (bit_or a.w x) x) lone
    ∙ ap (λ (x : ℕ). bit_xor x (1 * 2 ^ a.k)) (set-bit a.w connector_count a.k (search rules) (search rules))
    ∙ flipped a.w connector_count a.k (search rules) (search rules) ∙ ap (with_bit a.w a.k) (sym c.if-b.false)
