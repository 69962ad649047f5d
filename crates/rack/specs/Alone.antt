-- What a rack shares with a card by itself: a quick tick wakes the cells that the rules name,
-- whatever lines are pulled low; a timer's promise holds; and a row of one card without push-pull
-- lines on the backplane ticks as that card alone. With such a line it may not: "push-pull there
-- counts as open-drain".
use Rattle.std.specs.Prelude.{ℕ, ◌<◌, ◌≡◌, Bool, true, false, [], ◌∷◌, get_or, replicate}
use Rattle.std.proofs.lemmas.List.Edits.{sets}
use Rattle.words.specs.Bits.{bit_at}
use Rattle.card.specs.declared.card.Card.{Card}
use Rattle.card.specs.Address.{connector_count, on_backplane}
use Rattle.card.specs.Fresh.{no_cell}
use Rattle.ticks.specs.declared.view.Input.{Input}
use Rattle.ticks.specs.Tick.{wires_of, named, outputs_below, tick}
use Rattle.ticks.specs.Runs.{Step}
use Rattle.ticks.specs.Timing.{TimerPromiseOn, IgnoresAllOn}
use Rattle.rack.specs.declared.tick.RackInput.{RackInput}
use Rattle.rack.specs.Shared.{shared_lines, shared_tick}
use Rattle.rack.specs.Supply.{most_cards}
use Rattle.rack.specs.Rack.{is_large, input_for, ticked_row, idle_answer, row_answers}

-- the woken set of a card in a rack tick is exactly the rules', on the levels that the card then
-- has
unfoldable pub SharedWoken : ℕ → Type 0
SharedWoken n = (c : Card) (input : Input) (low i : ℕ) → input.code ≡ c.trigger → i < n
    → let w = wires_of c.memory (shared_lines n c input low).levels in
    bit_at (shared_tick n false c input low).answer.woken i
    ≡ named n (get_or c.cells i no_cell) i c.edited w (outputs_below n false c.cells c.edited w i)

-- ticks of a card in a rack: of each whether it is full, what comes in with it, and the lines that
-- some card pulls low. Each is `shared_tick`
abbrev pub SharedTicks : Type 0
SharedTicks = Bool × (Input × ℕ)

abbrev pub shared_step : ℕ → Card → SharedTicks → Step
shared_step n c t = record { full = t.0; code = t.1.0.code; lines = shared_lines n c t.1.0 t.1.1 }

-- document 02, 14: the promise of timers holds in a rack too, whatever the other cards pull low in
-- each of its ticks
unfoldable pub SharedTimerPromise : ℕ → Type 0
SharedTimerPromise n = TimerPromiseOn n SharedTicks (shared_step n) × IgnoresAllOn n SharedTicks (shared_step n)

-- no line of the backplane is push-pull
abbrev pub NoPush : Card → Type 0
NoPush c = (k : ℕ) → k < connector_count → on_backplane k ≡ true → bit_at c.connectors.push_pull k ≡ false

unfoldable pub AloneInRow : ℕ → Type 0
AloneInRow n = (full : Bool) (input : RackInput) (c : Card) → is_large c ≡ false → input.count ≡ 1 → NoPush c
    → (ticked_row n full input (c ∷ []) ≡ (tick n full c (input_for input 0)).card ∷ [])
    × (row_answers n full input (c ∷ []) ≡ sets (replicate most_cards idle_answer) 0 ((tick n full c (input_for input 0)).answer ∷ []))
