-- Document 02, "Counter cells", said of a list: which of the ticks a counter counts, by what its
-- slots read in each of them and a low reset. Another view of specs/Work; a law says that they
-- agree.
use Rattle.std.specs.Prelude.{ℕ, ◌+◌, Bool, not, ◌&&◌, ◌||◌, cond, List, [], ◌∷◌, ltb}
use Rattle.words.specs.Bits.{bit_number}
use Rattle.cells.specs.declared.table.Slots.{Slots}
use Rattle.cells.specs.declared.table.CounterKind.{CounterKind}
use Rattle.cells.specs.declared.table.CounterKind.TheVariants.{WhileBoth, WhileEither, FromStart, FromStartAtZero}
use Rattle.cells.specs.Work.{largest_count}
use Rattle.cells.specs.Wake.{has_start}

-- the type number of each counter
abbrev pub counter_type : CounterKind → ℕ
counter_type WhileBoth = 19
counter_type WhileEither = 20
counter_type FromStart = 21
counter_type FromStartAtZero = 22

-- "19 is active while A and B are high, 20 while either is. 21 becomes active at start and inactive
-- at stop; stop wins over start. 22 obeys start only while its count is 0": by what it kept, and
-- whether its count is 0
abbrev pub active_in : CounterKind → (kept at_zero : Bool) → Slots → Bool
active_in WhileBoth kept at_zero r = r.x && r.f
active_in WhileEither kept at_zero r = r.x || r.f
active_in FromStart kept at_zero r = not r.f && (r.x || kept)
active_in FromStartAtZero kept at_zero r = not r.f && ((r.x && at_zero) || kept)

-- "While active, a clock edge adds 1"
abbrev pub counts_in : CounterKind → (kept at_zero : Bool) → Slots → Bool
counts_in k kept at_zero r = active_in k kept at_zero r && r.y

-- 21 and 22 keep whether they are active
abbrev pub kept_in : CounterKind → (kept at_zero : Bool) → Slots → Bool
kept_in k kept at_zero r = cond (has_start k) (active_in k kept at_zero r) kept

-- how many of the readings a counter counts, from what it kept and whether its count is 0 when they
-- begin
unfoldable pub counted_in : CounterKind → (kept at_zero : Bool) → List Slots → ℕ
counted_in k kept at_zero [] = 0
counted_in k kept at_zero (r ∷ rs) =
    bit_number (counts_in k kept at_zero r) + counted_in k (kept_in k kept at_zero r) (at_zero && not (counts_in k kept at_zero r)) rs

-- "adds 1 to a count below 65535": what becomes of a count with this many more. One that is given
-- above 65535 stays
abbrev pub grown : (count more : ℕ) → ℕ
grown count more = cond (ltb count largest_count) (cond (ltb (count + more) largest_count) (count + more) largest_count) count
