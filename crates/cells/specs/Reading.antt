-- What slots read, as the card gives it: four words, one for each quarter of the addresses. What
-- the words hold is the card's business.
use Rattle.std.specs.Prelude.{ℕ, ◌/◌, ◌%◌, Bool, List, get_or}
use Rattle.words.specs.Bits.{bit_at}
use Rattle.cells.specs.declared.table.Slots.{Slots}
use Rattle.cells.specs.Table.{slots}

-- an address reads the bit of its base in the word of its quarter
unfoldable pub read_from : List ℕ → ℕ → Bool
read_from q a = bit_at (get_or q (a / 64) 0) (a % 64)

-- the readings of slots that hold the addresses x, y, z and f
abbrev pub slots_from : List ℕ → (x y z f : ℕ) → Slots
slots_from q x y z f = slots (read_from q x) (read_from q y) (read_from q z) (read_from q f)

-- the readings of the slots of a cell, which hold the addresses of a list
abbrev pub slots_at : (q s : List ℕ) → Slots
slots_at q s = slots_from q (get_or s 0 0) (get_or s 1 0) (get_or s 2 0) (get_or s 3 0)
