-- What CCA F and Z do to each kind of state, what they are refused, and rows of the address chart,
-- by computation.
use Rattle.std.specs.Prelude.{◌≡◌, ℕ, Bool, true, false, List, [], ◌∷◌, map, refl}
use Rattle.words.specs.Bits.{bit_number}
use Rattle.cells.specs.declared.cell.Cell.{Cell}
use Rattle.cells.specs.Table.{row_of}
use Rattle.cells.specs.State.{state, cell_of}
use Rattle.cells.specs.Work.{pulses}
use Rattle.card.specs.declared.chart.Entry.{Entry}
use Rattle.card.specs.Address.{cell_count, permitted_base}
use Rattle.card.specs.Chart.{entry_of}
use Rattle.card.specs.Edits.{configured_state, configured, stated_as, stated}
use Rattle.card.specs.Context.{config_shown}
use Rattle.card.specs.Valid.{bad_config, no_config, bad_state_as, bad_state}

-- bit, count and pulse
abbrev Shown : Type 0
Shown = Bool × ℕ × Bool

-- a cell of a type with configuration 5, its bit set, count 3 and in a pulse
full : ℕ → Cell
full kind = cell_of kind 5 [] (state (pulses 3) true true)

shown : Cell → Shown
shown cell = (cell.bit, cell.count.0, cell.pulse)

-- given, expected
abbrev states : List (Shown × Shown)
states =
    -- F: "0 or 1 for flip-flops, the count for timers, ending a pulse"; of a counter "the count and
    -- leaves "active" as it is"
    (shown (stated (full 1) 0), (false, 3, true))
    ∷ (shown (stated (full 9) 7), (true, 7, false))
    ∷ (shown (stated (full 19) 7), (true, 7, true))
    ∷ (shown (stated (full 22) 0), (true, 0, true))
    -- document 02, "Long exposures": a timer's count "to 4,294,967,295"
    ∷ (shown (stated (full 9) 4294967295), (true, 4294967295, false))
    ∷ (shown (stated (full 16) 65536), (true, 65536, false))
    -- Z "clears a timer's state"
    ∷ (shown (configured (full 9) 7), (false, 0, false))
    ∷ (shown (configured (full 2) 7), (true, 3, true))
    ∷ []

state-table : map (λ (e : Shown × Shown). e.0) states ≡ map (λ (e : Shown × Shown). e.1) states
unfolding full shown row_of configured_state configured stated_as stated
state-table = refl

-- what `36CCA Z?` gives: the configuration, and "a CCA Z read gives the count" of a counter
abbrev reads : List (ℕ × ℕ)
reads = (config_shown (full 9), 5) ∷ (config_shown (full 4), 5) ∷ (config_shown (full 20), 3) ∷ (config_shown (full 21), 3) ∷ []

read_table : map (λ (e : ℕ × ℕ). e.0) reads ≡ map (λ (e : ℕ × ℕ). e.1) reads
unfolding full row_of config_shown
read_table = refl

-- the tests for 9 and 12. Of a counter: "CCA Z writes are refused with 9", a read is not, and "A
-- counter's F over 65535 gives 12". Timers go to 4,294,967,295,
-- "lookup codes, constants and counter cells do not"
abbrev tests : List (Bool × Bool)
tests =
    (bad_config 19 0, true)
    ∷ (bad_config 22 1, true)
    ∷ (no_config 20, false)
    ∷ (no_config 5, true)
    ∷ (bad_state 21 65535, false)
    ∷ (bad_state 21 65536, true)
    ∷ (bad_state 8 4294967295, false)
    ∷ (bad_config 17 4294967295, false)
    ∷ (bad_config 4 65535, false)
    ∷ (bad_config 4 65536, true)
    ∷ (bad_config 0 2, true)
    ∷ []

test_table : map (λ (e : Bool × Bool). e.0) tests ≡ map (λ (e : Bool × Bool). e.1) tests
unfolding row_of bad_config no_config bad_state_as bad_state
test_table = refl

-- the address chart: address, base, inverted, edge, permitted
row : ℕ → List ℕ
row a =
    let e : Entry = entry_of cell_count a in
    a ∷ e.base ∷ bit_number e.inverted ∷ bit_number e.edge ∷ bit_number e.permitted ∷ []

abbrev rows : List (List ℕ × List ℕ)
rows =
    (row 0, 0 ∷ 0 ∷ 0 ∷ 0 ∷ 1 ∷ [])
    ∷ (row 16, 16 ∷ 16 ∷ 0 ∷ 0 ∷ 1 ∷ [])
    ∷ (row 17, 17 ∷ 17 ∷ 0 ∷ 0 ∷ 0 ∷ [])
    ∷ (row 48, 48 ∷ 48 ∷ 0 ∷ 0 ∷ 1 ∷ [])
    ∷ (row 64, 64 ∷ 0 ∷ 1 ∷ 0 ∷ 1 ∷ [])
    ∷ (row 128, 128 ∷ 0 ∷ 0 ∷ 1 ∷ 1 ∷ [])
    ∷ (row 192, 192 ∷ 0 ∷ 1 ∷ 1 ∷ 1 ∷ [])
    ∷ (row 255, 255 ∷ 63 ∷ 1 ∷ 1 ∷ 0 ∷ [])
    ∷ []

row-table : map (λ (e : List ℕ × List ℕ). e.0) rows ≡ map (λ (e : List ℕ × List ℕ). e.1) rows
unfolding row permitted_base
row-table = refl
