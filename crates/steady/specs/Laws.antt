-- What the number of steady ticks promises: nothing but counts changes in them, a card at rest is
-- steady for ever, and as many ticks as are asked for are made as long as the card is steady.
use Rattle.std.specs.Prelude.{ℕ, ◌≤◌, ◌<◌, ◌≡◌, true, length, get_or}
use Rattle.cells.specs.State.{state, with_state}
use Rattle.card.specs.declared.card.Card.{Card}
use Rattle.card.specs.Fresh.{no_cell}
use Rattle.ticks.specs.declared.view.Input.{Input}
use Rattle.ticks.specs.declared.tick.Ticked.{Ticked}
use Rattle.ticks.specs.Rest.{AtRest}
use Rattle.steady.specs.Steady.{forever, quick_ticks, steady_for, advanced}

-- "nothing but counts changes": what ticks leave of a card whose first n cells count. They drive
-- what the last tick before them drove
pub record Keeps (n : ℕ) (c : Card) (t : Ticked) : Type 0 where
  pub edited : t.card.edited ≡ c.edited
  pub memory : t.card.memory ≡ c.memory
  pub connectors : t.card.connectors ≡ c.connectors
  pub cells : (i : ℕ) → i < n
      → let a = get_or c.cells i no_cell in
      let b = get_or t.card.cells i no_cell in
      b ≡ with_state a (state b.count a.bit a.pulse)
  pub driven : t.answer.ran ≡ true → t.answer.driven ≡ c.memory.driven

-- so a processor may sleep through a steady stretch, and through any part of it, with its outputs
-- as they are
unfoldable pub KeepsAll : ℕ → Type 0
KeepsAll n = (c : Card) (input : Input) (m : ℕ) → n ≤ length c.cells → n ≤ length c.tallies.cells → m ≤ steady_for n c input
    → Keeps n c (quick_ticks n c input m)

unfoldable pub RestsForever : ℕ → Type 0
RestsForever n = (c : Card) (input : Input) → AtRest n c input → steady_for n c input ≡ forever

unfoldable pub MakesAll : ℕ → Type 0
MakesAll n = (c : Card) (input : Input) (k : ℕ) → k ≤ steady_for n c input → (advanced n c input k).made ≡ k

-- a call makes progress, and never more than it is asked for
unfoldable pub MakesSome : ℕ → Type 0
MakesSome n = (c : Card) (input : Input) (k : ℕ) → (0 < k → 0 < (advanced n c input k).made) × ((advanced n c input k).made ≤ k)
