-- Document 02, "How far does one line reach", its last sentence: what is promised of every cell and
-- connector outside the set. Over the number n of cells.
use Rattle.std.specs.Prelude.{ℕ, ◌+◌, ◌-◌, ◌<◌, ◌≡◌, Bool, true, false, [], ◌∷◌}
use Rattle.words.specs.Bits.{bit_at}
use Rattle.card.specs.declared.card.Card.{Card}
use Rattle.card.specs.Address.{connector_count, first_cell, first_connector, among}
use Rattle.card.specs.Tally.{tally_of}
use Rattle.ticks.specs.declared.view.Input.{Input}
use Rattle.ticks.specs.declared.tick.Ticked.{Ticked}
use Rattle.ticks.specs.Tick.{tick}
use Rattle.ticks.specs.Rest.{total_of}
use Rattle.ticks.specs.Runs.{Ticks, after_tick, cell_at}
use Rattle.survey.specs.declared.Surveyed.{Surveyed}
use Rattle.survey.specs.Survey.{set_of, Survey}

-- ---- two runs that differ in one line

-- "samples that differ only in that one line"
abbrev pub SameBut : (k sample other : ℕ) → Type 0
SameBut k sample other = (j : ℕ) → j < connector_count → (j ≡ k → ⊥) → bit_at sample j ≡ bit_at other j

-- "the same ticks and attached words": two ticks, and two lists of them. The attached words, too,
-- may differ in that one line, so that a cable that is cut in one of the two runs is a case of it,
-- and equal words are another
pub record AlikeTick (k : ℕ) (t u : Bool × Input) : Type 0 where
  pub kind : t.0 ≡ u.0
  pub code : t.1.code ≡ u.1.code
  pub attached : SameBut k t.1.attached u.1.attached
  pub sample : SameBut k t.1.sample u.1.sample

unfoldable pub AlikeButLine : (k : ℕ) → Ticks → Ticks → Type 0
AlikeButLine k [] [] = Unit {0}
AlikeButLine k [] (u ∷ us) = ⊥
AlikeButLine k (t ∷ ts) [] = ⊥
AlikeButLine k (t ∷ ts) (u ∷ us) = AlikeTick k t u × AlikeButLine k ts us

-- ---- what agrees

-- two words agree at the cells, or at the connectors, outside the set
abbrev pub CellsOutside : (n : ℕ) (set : ℕ → Bool) (v w : ℕ) → Type 0
CellsOutside n set v w = (i : ℕ) → i < n → set (first_cell + i) ≡ false → bit_at v i ≡ bit_at w i

abbrev pub LinesOutside : (set : ℕ → Bool) (v w : ℕ) → Type 0
LinesOutside set v w = (j : ℕ) → j < connector_count → set (first_connector + j) ≡ false → bit_at v j ≡ bit_at w j

-- two ticks "agree .. in every cell and connector outside the set": settings and state, output,
-- level and driven bit, in the card and in the answer, whether a cell was worked out, and in how
-- many ticks it was named. What belongs to no cell and no connector agrees too
pub record AgreeOutside (n : ℕ) (set : ℕ → Bool) (a b : Ticked) : Type 0 where
  pub cells : (i : ℕ) → i < n → set (first_cell + i) ≡ false → cell_at a.card i ≡ cell_at b.card i
  pub outputs : CellsOutside n set a.card.memory.outputs b.card.memory.outputs
  pub levels : LinesOutside set a.card.memory.levels b.card.memory.levels
  pub driven : LinesOutside set a.card.memory.driven b.card.memory.driven
  pub connectors : a.card.connectors ≡ b.card.connectors
  pub trigger : a.card.trigger ≡ b.card.trigger
  pub pointer : a.card.pointer ≡ b.card.pointer
  pub edited : a.card.edited ≡ b.card.edited
  pub size : a.card.size ≡ b.card.size
  pub tallies : (i : ℕ) → i < n → set (first_cell + i) ≡ false → tally_of a.card.tallies i ≡ tally_of b.card.tallies i
  pub total : total_of a.card ≡ total_of b.card
  pub ran : a.answer.ran ≡ b.answer.ran
  pub woken : CellsOutside n set a.answer.woken b.answer.woken
  pub shown : CellsOutside n set a.answer.cells b.answer.cells
  pub drove : LinesOutside set a.answer.driven b.answer.driven

-- "after every tick"
unfoldable pub AlwaysOutside : (n : ℕ) (set : ℕ → Bool) → Card → Ticks → Card → Ticks → Type 0
AlwaysOutside n set c [] d [] = Unit {0}
AlwaysOutside n set c [] d (u ∷ us) = ⊥
AlwaysOutside n set c (t ∷ ts) d [] = ⊥
AlwaysOutside n set c (t ∷ ts) d (u ∷ us) =
    AgreeOutside n set (tick n t.0 c t.1) (tick n u.0 d u.1) × AlwaysOutside n set (after_tick n c t) ts (after_tick n d u) us

-- "Two equal cards": any card at all
unfoldable pub Unreached : ℕ → Type 0
Unreached n = (c : Card) (place : ℕ) (r : Surveyed) → Survey n c place r → among first_connector connector_count place ≡ true → (ts us : Ticks)
    → AlikeButLine (place - first_connector) ts us → AlwaysOutside n (set_of n r.cells r.connectors) c ts c us
