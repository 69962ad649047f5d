-- Document 01, "Presets": what each preset sets, and the card after it.
use Rattle.std.specs.Prelude.{ℕ, ◌+◌, Bool, true, false, cond, ◌&&◌, ◌||◌, List, [], ◌∷◌, ◌++◌, map, drop, ◌==◌, nat_le, slice_index_or}
use Rattle.std.proofs.Math.Option
use Rattle.std.proofs.Math.Option.{Option, none, some}
use Rattle.words.specs.Bits.{bit_at, word_of}
use Rattle.words.specs.Listed.{listed}
use Rattle.cells.specs.declared.cell.Cell.{Cell}
use Rattle.cells.specs.State.{cell_of}
use Rattle.card.specs.declared.card.Card.{Card}
use Rattle.card.specs.declared.card.Connector.{Connector}
use Rattle.card.specs.Address.{cell_count, cell_room, connector_count, first_cell}
use Rattle.card.specs.Connectors.{push_pull_type, connector_at, from_each}
use Rattle.card.specs.Edits.{with_settings}
use Rattle.card.specs.Fresh.{clear_state, no_cell}

-- ---- the cells that presets set

-- "a cell is set whole, slots not named 0, its state cleared"
abbrev pub whole : (kind config : ℕ) (slots : List ℕ) → Cell
whole kind config slots = cell_of kind config slots clear_state

-- by type, in the order of "Cells"
abbrev pub constant : ℕ → Cell
constant v = whole 0 v (0 ∷ 0 ∷ 0 ∷ 0 ∷ [])

abbrev pub d_flop : (d clock : ℕ) → Cell
d_flop d clock = whole 1 0 (d ∷ clock ∷ 0 ∷ 0 ∷ [])

abbrev pub lookup3 : (code x y z : ℕ) → Cell
lookup3 code x y z = whole 3 code (x ∷ y ∷ z ∷ 0 ∷ [])

abbrev pub and2 : (x y : ℕ) → Cell
and2 x y = whole 5 0 (x ∷ y ∷ 0 ∷ 0 ∷ [])

abbrev pub and4 : (x y z f : ℕ) → Cell
and4 x y z f = whole 10 0 (x ∷ y ∷ z ∷ f ∷ [])

-- ---- the entries

-- what a preset sets: cells by their number, and front connectors BNC1-8 by theirs, each with its
-- source address
pub record Setting : Type 0 where
  pub cells : List (ℕ × Cell)
  pub sources : List (ℕ × ℕ)

-- an entry of the table: the preset's number, and what it sets
abbrev pub Entry : Type 0
Entry = ℕ × Setting

-- a preset that sets cells, and one that sources connectors
abbrev pub sets : ℕ → List (ℕ × Cell) → Entry
sets v cells = (v, record { cells = cells; sources = [] })

abbrev pub routes : ℕ → List (ℕ × ℕ) → Entry
routes v sources = (v, record { cells = []; sources = sources })

-- the numbers from `first` on
abbrev pub numbers : (first count : ℕ) → List ℕ
numbers first count = listed (λ i. first + i) count

-- all sixteen cells, each by its number
abbrev pub every_cell : (ℕ → Cell) → List (ℕ × Cell)
every_cell f = map (λ (n : ℕ). (n, f n)) (numbers first_cell cell_count)

-- the BNCs from `first` on, from the addresses from `a` on
abbrev pub along : (first count a : ℕ) → List (ℕ × ℕ)
along first count a = listed (λ i. (first + i, a + i)) count

-- the number is one of these
abbrev pub is_in : ℕ → List ℕ → Bool
is_in n [] = false
is_in n (m ∷ ms) = n == m || is_in n ms

-- the laser presets "source the BNCs named in the source's Description from 10, the group's others
-- from 0"
abbrev pub laser : (group lit : List ℕ) → List (ℕ × ℕ)
laser group lit = map (λ (b : ℕ). (b, cond (is_in b lit) 10 0)) group

-- the presets of a group, each with the BNCs that it lights
abbrev pub lasers : List ℕ → List (ℕ × List ℕ) → List Entry
lasers group presets = map (λ (p : ℕ × List ℕ). routes p.0 (laser group p.1)) presets

-- ---- the table

-- "0, 2, 3, 10, 11, 22: constants. 4: D-flops"; 15 and 21; AND2 in 12, 17, 18, 26, 36
abbrev pub cell_presets : List Entry
cell_presets =
    sets 0 (every_cell (λ n. constant 0))
    ∷ sets 2 ((1, constant 0) ∷ [])
    ∷ sets 3 ((1, constant 1) ∷ [])
    ∷ sets 4 (every_cell (λ n. d_flop (64 + n) (191 + n)))
    ∷ sets 10 ((8, constant 0) ∷ [])
    ∷ sets 11 ((8, constant 1) ∷ [])
    ∷ sets 12 ((10, and2 42 8) ∷ [])
    ∷ sets 15 ((3, d_flop 67 130) ∷ (4, d_flop 68 195) ∷ [])
    ∷ sets 17 ((2, and2 106 64) ∷ [])
    ∷ sets 18 ((2, and2 108 64) ∷ [])
    ∷ sets 21 ((3, d_flop 67 130) ∷ (4, constant 0) ∷ [])
    ∷ sets 22 ((3, constant 0) ∷ (4, constant 0) ∷ [])
    ∷ sets 26 ((2, and2 44 64) ∷ [])
    ∷ sets 36 ((10, and2 8 64) ∷ [])
    ∷ []

-- "13: cell 12 type 3 code 168 (44, 10, 1), BNC4 from 12. 31: AND4 6 ... for BNC5, 7 and 7 ... for
-- BNC6, 8"
abbrev pub mixed_presets : List Entry
mixed_presets =
    (13, record { cells = (12, lookup3 168 44 10 1) ∷ []; sources = (4, 12) ∷ [] })
    ∷ (
      31,
      record {
        cells = (6, and4 42 8 108 64) ∷ (7, and4 42 8 44 64) ∷ [];
        sources = (5, 6) ∷ (6, 7) ∷ (7, 6) ∷ (8, 7) ∷ [];
      },
    )
    ∷ []

-- "19, 20, 23-25, 27, 35, 52: sources as described"
abbrev pub source_presets : List Entry
source_presets =
    routes 19 (along 1 8 9)
    ∷ routes 20 (along 5 4 13)
    ∷ routes 23 (along 1 8 41)
    ∷ routes 24 ((3, 1) ∷ [])
    ∷ routes 25 ((3, 8) ∷ [])
    ∷ routes 27 ((3, 10) ∷ [])
    ∷ routes 35 ((3, 11) ∷ [])
    ∷ routes 52 ((3, 46) ∷ [])
    ∷ []

-- "5-9, 28-30 over BNC5-8": the BNCs that each lights; 9 lights none
abbrev pub four_lasers : List (ℕ × List ℕ)
four_lasers =
    (5, 5 ∷ [])
    ∷ (6, 6 ∷ [])
    ∷ (7, 7 ∷ [])
    ∷ (8, 8 ∷ [])
    ∷ (9, [])
    ∷ (28, 6 ∷ 7 ∷ [])
    ∷ (29, 5 ∷ 6 ∷ 7 ∷ [])
    ∷ (30, 5 ∷ 6 ∷ 7 ∷ 8 ∷ [])
    ∷ []

-- "37-50, 53-59 over BNC1-7"; 50 lights none, and 47 lights BNC5 and 7
abbrev pub seven_lasers : List (ℕ × List ℕ)
seven_lasers =
    (37, 1 ∷ [])
    ∷ (38, 2 ∷ [])
    ∷ (39, 3 ∷ [])
    ∷ (40, 4 ∷ [])
    ∷ (41, 5 ∷ [])
    ∷ (42, 6 ∷ [])
    ∷ (43, 7 ∷ [])
    ∷ (44, 2 ∷ 4 ∷ [])
    ∷ (45, 3 ∷ 5 ∷ [])
    ∷ (46, 4 ∷ 6 ∷ [])
    ∷ (47, 5 ∷ 7 ∷ [])
    ∷ (48, 1 ∷ 3 ∷ 5 ∷ [])
    ∷ (49, 2 ∷ 4 ∷ 6 ∷ [])
    ∷ (50, [])
    ∷ (53, 1 ∷ 6 ∷ [])
    ∷ (54, 1 ∷ 4 ∷ 6 ∷ [])
    ∷ (55, 1 ∷ 4 ∷ [])
    ∷ (56, 2 ∷ 5 ∷ [])
    ∷ (57, 3 ∷ 6 ∷ [])
    ∷ (58, 1 ∷ 5 ∷ [])
    ∷ (59, 2 ∷ 6 ∷ [])
    ∷ []

-- all presets that every card offers
unfoldable pub preset_table : List Entry
preset_table =
    cell_presets ++ (mixed_presets ++ (source_presets ++ (lasers (numbers 5 4) four_lasers ++ lasers (numbers 1 7) seven_lasers)))

-- document 02, "Thirty-two cells": "preset 51 is offered", BNC1-8 from cells 17-24; it sets no cell
abbrev pub large_preset : ℕ
large_preset = 51

abbrev pub large_sources : List (ℕ × ℕ)
large_sources = along 1 8 17

-- the number is that preset's, on a card that has those cells
abbrev pub is_large : (n v : ℕ) → Bool
is_large n v = nat_le cell_room n && v == large_preset

-- ---- what the table says of a preset

-- what a list has at a number
abbrev pub find : {A : Type 0} → ℕ → List (ℕ × A) → Option A
find n [] = none
find n (e ∷ es) = cond (n == e.0) (some e.1) (find n es)

-- whether there is anything
abbrev pub has : {A : Type 0} → Option A → Bool
has none = false
has (some a) = true

-- the table's entry for a preset
unfoldable pub setting_of : ℕ → Option Setting
setting_of v = find v preset_table

-- "Offered": the table has the number, or the card is large and it is 51
unfoldable pub offered : (n v : ℕ) → Bool
offered n v = is_large n v || has (setting_of v)

-- what it sets; a number that the table has not sets nothing
abbrev pub cells_of : Option Setting → List (ℕ × Cell)
cells_of none = []
cells_of (some s) = s.cells

abbrev pub sources_of : Option Setting → List (ℕ × ℕ)
sources_of none = []
sources_of (some s) = s.sources

-- what a preset makes of the cell at an index, and the source of the connector at an index; BNC1 is
-- at 0
unfoldable pub preset_cell : (v i : ℕ) → Option Cell
preset_cell v i = find (first_cell + i) (cells_of (setting_of v))

unfoldable pub preset_source : (n v k : ℕ) → Option ℕ
preset_source n v k = find (1 + k) (cond (is_large n v) large_sources (sources_of (setting_of v)))

-- it makes BNC1 an output
unfoldable pub sets_front : (n v : ℕ) → Bool
sets_front n v = has (preset_source n v 0)

-- ---- the card after a preset

-- "connectors become push-pull"
abbrev pub sourced : Option ℕ → Connector → Connector
sourced none old = old
sourced (some a) old = record { kind = push_pull_type; source = a }

-- a cell or a connector after a preset: as the preset sets it, or as it was
abbrev pub cell_with_preset : Card → (v i : ℕ) → Cell
cell_with_preset c v i = Option.get_or (preset_cell v i) (slice_index_or c.cells i no_cell)

abbrev pub connector_with_preset : (n : ℕ) → Card → (v k : ℕ) → Connector
connector_with_preset n c v k = sourced (preset_source n v k) (connector_at c.connectors k)

-- a cell is edited by "a preset that sets it"
abbrev pub edited_with_preset : Card → (v i : ℕ) → Bool
edited_with_preset c v i = bit_at c.edited i || has (preset_cell v i)

-- what the preset does not set stays; so does all else of the card
unfoldable pub preset : (n : ℕ) → Card → (v : ℕ) → Card
preset n c v =
    with_settings c c.trigger (listed (cell_with_preset c v) n ++ drop n c.cells) (from_each (listed (connector_with_preset n c v) connector_count))
    (word_of (edited_with_preset c v) n)
