-- Document 02, "Wake tallies": what the card keeps of its ticks, and what a tick that ran adds to
-- it.
use Rattle.std.specs.Prelude.{ℕ, ◌+◌, Bool, cond, ◌&&◌, ◌++◌, get_or, drop, replicate, nat_lt, slice_index_or}
use Rattle.words.specs.Listed.{listed}
use Rattle.cells.specs.declared.cell.Ticks.{Ticks}
use Rattle.card.specs.declared.tallies.Tallies.{Tallies}
use Rattle.card.specs.Address.{cell_room}

-- a number of ticks
abbrev pub ticks : ℕ → Ticks
ticks v = record { 0 = v }

-- "Once the tick total is 4,294,967,295 all of them stand still"
abbrev pub standstill : ℕ
standstill = 4294967295

-- "A load clears them"
abbrev pub no_tallies : Tallies
no_tallies = record { cells = replicate cell_room (ticks 0); total = ticks 0 }

-- the tally of cell i, and how many ticks ran
abbrev pub tally_of : Tallies → ℕ → ℕ
tally_of t i = (get_or t.cells i (ticks 0)).0

-- "in how many ticks the waking rules named it": one more where it is named, and "a tally at that
-- number never counts on"
unfoldable pub counted : (named : Bool) → Ticks → Ticks
counted named v = cond (named && nat_lt v.0 standstill) (ticks (v.0 + 1)) v

-- a tick that ran, in which the rules named the cells of `named`, on a card of n cells: below the
-- standstill the total counts it, and each of the n tallies; those past n stay
unfoldable pub tallied_by : (n : ℕ) → (named : ℕ → Bool) → Tallies → Tallies
tallied_by n named t =
    cond (nat_lt t.total.0 standstill)
    (record { cells = listed (λ i. counted (named i) (slice_index_or t.cells i (ticks 0))) n ++ drop n t.cells; total = ticks (t.total.0 + 1) }) t
