-- Document 01, "Addresses": the level at a base, what an address reads, and what a reader in a
-- cell's position sees.
use Rattle.std.specs.Prelude.{ℕ, ◌-◌, Bool, true, false, not, ◌&&◌, cond, List, ltb, eqb, get_or}
use Rattle.words.specs.Bits.{bit_at}
use Rattle.cells.specs.declared.table.Slots.{Slots}
use Rattle.cells.specs.Table.{slots}
use Rattle.card.specs.Address.{connector_count, first_cell, first_connector, among, base_of, is_inverted, is_edge}

-- the level at a base: "base 0 is always low", then the cells, whose bases a card of n cells has up
-- to n, and the connectors; every other base is reserved, and low
unfoldable pub level_at : (n : ℕ) (cells connectors : ℕ → Bool) (b : ℕ) → Bool
level_at n cells connectors b =
    cond (among first_cell n b) (cells (b - first_cell)) (cond (among first_connector connector_count b) (connectors (b - first_connector)) false)

-- "0-63 reads the level, 64-127 its inverse, 128-191 is high in a tick where the level rose,
-- 192-255 where it fell"
unfoldable pub reads_levels : (inverted edge now before : Bool) → Bool
reads_levels inverted edge now before = cond edge (cond inverted (not now && before) (now && not before)) (cond inverted (not now) now)

-- by base, inverted and edge, as the chart has them; "Exception: 192 is high in every tick, 128
-- never": 128 is never high because base 0 is always low
unfoldable pub reads : (ℕ → Bool) → (ℕ → Bool) → ℕ → Bool
reads now before a = cond (eqb a 192) true (reads_levels (is_inverted a) (is_edge a) (now (base_of a)) (before (base_of a)))

-- the readings of the four slots of a cell
unfoldable pub slots_read : (ℕ → Bool) → (ℕ → Bool) → List ℕ → Slots
slots_read now before s = slots (reads now before (get_or s 0 0)) (reads now before (get_or s 1 0)) (reads now before (get_or s 2 0)) (reads now before (get_or s 3 0))

-- "Cell i sees this tick's output of a cell j below i, otherwise last tick's"
unfoldable pub mixed : (i below others j : ℕ) → Bool
mixed i below others j = cond (ltb j i) (bit_at below j) (bit_at others j)

-- what a reader in position i sees at each base, of n cells: the cell word of one tick below i, of
-- the tick before it otherwise, and the levels
unfoldable pub view : (n i below others levels : ℕ) → ℕ → Bool
view n i below others levels b = level_at n (mixed i below others) (bit_at levels) b
