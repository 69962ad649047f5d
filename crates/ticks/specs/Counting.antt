-- Document 02, "Counter cells", over any list of ticks that find the reset of a counter low: its
-- count grows by the number of ticks that ran with its clock high while it was active, up to 65535.
-- Said of all four counters, of any card and of ticks of either kind.
use Rattle.std.specs.Prelude.{ℕ, ◌<◌, ◌≡◌, eqb}
use Rattle.cells.specs.declared.table.CounterKind.{CounterKind}
use Rattle.cells.specs.Counting.{counter_type, counted_in, grown}
use Rattle.card.specs.declared.card.Card.{Card}
use Rattle.ticks.specs.Runs.{Ticks, after_ticks, cell_at, readings, ResetLow}

-- the count grows by what the readings have a counter count that keeps the cell's bit and has its
-- count
unfoldable pub CountsOn : ℕ → Type 0
CountsOn n = (k : CounterKind) (c : Card) (ts : Ticks) (i : ℕ) → i < n → (cell_at c i).kind ≡ counter_type k → ResetLow (readings n c ts i)
    → let cell = cell_at c i in
    (cell_at (after_ticks n c ts) i).count.0 ≡ grown cell.count.0 (counted_in k cell.bit (eqb cell.count.0 0) (readings n c ts i))
