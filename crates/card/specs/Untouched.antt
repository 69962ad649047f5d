-- What every edit of settings has in common: it leaves the memory and the tallies, and a cell that
-- it changes is edited afterwards.
use Rattle.std.specs.Prelude.{◌≡◌, ℕ, ◌<◌, false, slice_index_or}
use Rattle.words.specs.Bits.{bit_at}
use Rattle.card.specs.declared.card.Card.{Card}
use Rattle.card.specs.Fresh.{no_cell}

-- the card d comes from c by an edit: the same memory, which has the outputs, the levels and the
-- driven word, and the same tallies; a cell that is not edited in d was not edited in c, and is as
-- it was
pub record Edit (n : ℕ) (c d : Card) : Type 0 where
  pub memory : d.memory ≡ c.memory
  pub tallies : d.tallies ≡ c.tallies
  pub unedited : (i : ℕ) → i < n → bit_at d.edited i ≡ false → bit_at c.edited i ≡ false
  pub kept : (i : ℕ) → i < n → bit_at d.edited i ≡ false → slice_index_or d.cells i no_cell ≡ slice_index_or c.cells i no_cell
