-- Laws of the effective sample: each of its bits, the masks that make it, and what it is where
-- everything is attached.
use Prim.Native.Nat.{ℕ, ◌^◌, ◌<◌}
use mathlib.Core.Path.{◌≡◌, refl, sym, ap, ◌∙◌}
use mathlib.Core.Bool.{Bool, cond}
use lib.Dec.{lit<}
use Rattle.words.specs.Bits.{bit_at, word_of}
use Rattle.words.proofs.Laws.{bit-built, bit-ones, built-same, built-of-bits}
use Rattle.card.specs.Address.{connector_count, on_backplane}
use Rattle.ticks.specs.Levels.{effective_at, effective_sample}
use Rattle.ticks.proofs.Views.{merged, merged-bit, merged-lt}

-- the word of the backplane, and of all connectors
abbrev pub backplane : ℕ
backplane = 65280

abbrev every : ℕ
every = 65535

backplane-built : word_of on_backplane connector_count ≡ backplane
unfolding word_of
backplane-built = refl

pub backplane-bit : (k : ℕ) → k < connector_count → bit_at backplane k ≡ on_backplane k
backplane-bit k h = ap (λ (w : ℕ). bit_at w k) (sym backplane-built) ∙ bit-built on_backplane connector_count k h

pub effective-bit : (sample attached k : ℕ) → k < connector_count → bit_at (effective_sample sample attached) k ≡ effective_at sample attached k
unfolding effective_sample
effective-bit sample attached k h = bit-built (effective_at sample attached) connector_count k h

-- what the code computes
pub effective-merged : (sample attached : ℕ) → sample < 2 ^ connector_count → merged sample backplane attached ≡ effective_sample sample attached
unfolding effective_sample
effective-merged sample attached h =
    sym (built-of-bits (merged sample backplane attached) connector_count (merged-lt connector_count sample backplane attached h (lit< tt)))
    ∙ built-same (bit_at (merged sample backplane attached)) (effective_at sample attached) connector_count
    (λ k l. merged-bit sample backplane attached k ∙ ap (cond (bit_at attached k) (bit_at sample k)) (backplane-bit k l))

-- with everything attached the sample counts as it is, so that ticks are those of document 01
pub all-attached : (sample : ℕ) → sample < 2 ^ connector_count → effective_sample sample every ≡ sample
unfolding effective_sample
all-attached sample h =
    built-same (effective_at sample every) (bit_at sample) connector_count
    (λ k l. ap (λ (b : Bool). cond b (bit_at sample k) (on_backplane k)) (bit-ones connector_count k l))
    ∙ built-of-bits sample connector_count h
