-- Document 01, "One tick", 1 and 2: what the output connectors are driven to, and the levels; and
-- the sample that the levels are made of.
use Rattle.std.specs.Prelude.{ℕ, Bool, false, not, ◌&&◌, cond}
use Rattle.words.specs.Bits.{bit_at, word_of}
use Rattle.card.specs.declared.card.Connectors.{Connectors}
use Rattle.card.specs.Address.{connector_count, on_backplane}
use Rattle.card.specs.Connectors.{is_output, kind_at, source_at}
use Rattle.ticks.specs.declared.connectors.Lines.{Lines}
use Rattle.ticks.specs.Reading.{reads}

-- document 02, 5: "which lines have something attached. An unattached line samples low on the front
-- and high on the backplane, before the connector rule is applied": connector k, and the word that
-- the rule then takes for the sample
abbrev pub effective_at : (sample attached k : ℕ) → Bool
effective_at sample attached k = cond (bit_at attached k) (bit_at sample k) (on_backplane k)

unfoldable pub effective_sample : (sample attached : ℕ) → ℕ
effective_sample sample attached = word_of (effective_at sample attached) connector_count

-- "each output connector is driven from its source address"; the driven word is "0 for inputs"
abbrev pub driven_at : (ℕ → Bool) → (ℕ → Bool) → Connectors → ℕ → Bool
driven_at now before d k = cond (is_output (kind_at d k)) (reads now before (source_at d k)) false

-- the driven word, "bits 0-7 BNC1-8, 8-15 TTL0-7"
unfoldable pub driven_word : (ℕ → Bool) → (ℕ → Bool) → Connectors → ℕ
driven_word now before d = word_of (driven_at now before d) connector_count

-- document 02, 12: "A card drives a line low where that connector was an output ... and its driven
-- bit was 0": of the lines of the backplane
abbrev pub pulled_at : Connectors → (driven : ℕ) → ℕ → Bool
pulled_at d driven k = on_backplane k && (is_output (kind_at d k) && not (bit_at driven k))

unfoldable pub pulled_word : Connectors → ℕ → ℕ
pulled_word d driven = word_of (pulled_at d driven) connector_count

-- "an input shows its sample bit, push-pull its driven bit, open-drain high only if both are"
abbrev pub level_bit : (push drain sample driven : Bool) → Bool
level_bit push drain sample driven = cond push driven (cond drain (sample && driven) sample)

-- the levels, from the words of the push-pull and the open-drain connectors, any driven word and
-- the sample
abbrev pub level_in : (push drain driven sample : ℕ) → ℕ → Bool
level_in push drain driven sample k = level_bit (bit_at push k) (bit_at drain k) (bit_at sample k) (bit_at driven k)

unfoldable pub levels_from : (push drain driven sample : ℕ) → ℕ
levels_from push drain driven sample = word_of (level_in push drain driven sample) connector_count

-- a tick drives the connectors, and then they show their levels
unfoldable pub lines_of : (ℕ → Bool) → (ℕ → Bool) → Connectors → ℕ → Lines
lines_of now before d sample =
    let driven = driven_word now before d in
    record { driven = driven; pulled = pulled_word d driven; levels = levels_from d.push_pull d.open_drain driven sample }
