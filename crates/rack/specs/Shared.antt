-- Document 02, 12, "Up to four cards on one backplane": a tick of one card that shares its
-- backplane with others, over the number n of cells.
use Rattle.std.specs.Prelude.{ℕ, Bool, not, ◌&&◌, cond, eqb}
use Rattle.words.specs.Bits.{bit_at, word_of}
use Rattle.card.specs.declared.card.Card.{Card}
use Rattle.card.specs.Address.{connector_count, on_backplane}
use Rattle.ticks.specs.declared.connectors.Lines.{Lines}
use Rattle.ticks.specs.declared.view.Input.{Input}
use Rattle.ticks.specs.declared.tick.Ticked.{Ticked}
use Rattle.ticks.specs.Levels.{effective_sample}
use Rattle.ticks.specs.Tick.{lines_in, lines, tick_on}

-- the backplane lines that a card pulls low in a tick of a clock: by its settings now where the
-- clock is its own, else it "goes on driving what it drove last"; "before its first tick it drives
-- nothing", so the memory has none. The sample plays no part in it
unfoldable pub pulls : (n code : ℕ) → Card → ℕ
pulls n code c = cond (eqb code c.trigger) (lines_in n c.memory c.connectors 0).pulled c.memory.pulled

-- "A backplane line is high when the sample is high and no card drives it low; push-pull there
-- counts as open-drain"; a front connector's level is the card's own
abbrev pub shared_at : (own sample low : ℕ) → ℕ → Bool
shared_at own sample low k = cond (on_backplane k) (bit_at sample k && not (bit_at low k)) (bit_at own k)

unfoldable pub shared_levels : (own sample low : ℕ) → ℕ
shared_levels own sample low = word_of (shared_at own sample low) connector_count

-- what the card drives and pulls is its own
abbrev pub shared_lines : (n : ℕ) → Card → Input → (low : ℕ) → Lines
shared_lines n c input low =
    let l = lines n c input in
    record { driven = l.driven; pulled = l.pulled; levels = shared_levels l.levels (effective_sample input.sample input.attached) low }

-- a tick in which the lines of `low` are pulled low by some card
unfoldable pub shared_tick : (n : ℕ) (full : Bool) → Card → Input → (low : ℕ) → Ticked
shared_tick n full c input low = tick_on n full c input.code (shared_lines n c input low)
