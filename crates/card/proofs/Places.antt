-- Laws of places: a base is one of some bases in a row, or lies below or above them.
use Rattle.std.proofs.Common.{◌≡◌, ℕ, ◌+◌, ◌<◌, ◌≤◌, Bool, true, false, cond, eqb, ltb, leb, lit≤, ltb-true, le-ltb, lt-ltb, le-leb, leb-true}
use mathlib.Core.Bool.{and-false}
use borrow.Author.Tests.{lt-leb}
use Rattle.words.proofs.Bools.{and_left, and_right}
use Rattle.card.specs.Address.{among, cell_count, cell_room, cells_for}

pub among_in : (first count b : ℕ) → first ≤ b → b < first + count → among first count b ≡ true
among_in first count b h k = rw (le-leb first b h, lt-ltb b (first + count) k)

pub among_below : (first count b : ℕ) → b < first → among first count b ≡ false
among_below first count b h = rw (lt-leb first b h)

pub among-above : (first count b : ℕ) → first + count ≤ b → among first count b ≡ false
among-above first count b h = rw (le-ltb b (first + count) h) (and-false (leb first b))

pub among-bounds : (first count b : ℕ) → among first count b ≡ true → (first ≤ b) × (b < first + count)
among-bounds first count b e = (
  leb-true first b (and_left (leb first b) (ltb b (first + count)) e),
  ltb-true b (first + count) (and_right (leb first b) (ltb b (first + count)) e),
)

-- a card has no more cells than there is room for, and no fewer than a small one
pub cells-most : (size : ℕ) → cells_for size ≤ cell_room
unfolding cells_for
cells-most size = go (eqb size cell_room)
  where
    go : (b : Bool) → cond b cell_room cell_count ≤ cell_room
    go true = lit≤ tt
    go false = lit≤ tt

pub cells-least : (size : ℕ) → cell_count ≤ cells_for size
unfolding cells_for
cells-least size = go (eqb size cell_room)
  where
    go : (b : Bool) → cell_count ≤ cond b cell_room cell_count
    go true = lit≤ tt
    go false = lit≤ tt
