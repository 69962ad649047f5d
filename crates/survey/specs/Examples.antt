-- Surveys by computation, worked out from document 02, 11: rounds find the two words, and the next
-- round adds nothing. Law `settles-shown` makes each row a row of the call.
use Rattle.std.specs.Prelude.{ℕ, ◌-◌, ◌≡◌, refl, List, [], ◌∷◌, set}
use Rattle.words.specs.Bits.{bit_at, word_of}
use Rattle.cells.specs.declared.cell.Cell.{Cell}
use Rattle.words.specs.Listed.{listed}
use Rattle.cells.specs.Table.{row_of}
use Rattle.card.specs.declared.card.Card.{Card}
use Rattle.card.specs.declared.card.Connector.{Connector}
use Rattle.card.specs.declared.card.Connectors.{Connectors}
use Rattle.card.specs.Address.{cell_count, cell_room, first_connector}
use Rattle.card.specs.Connectors.{open_drain_type, push_pull_type, kind_at, source_at, with_source, from_each}
use Rattle.card.specs.Fresh.{fresh_of, fresh_connectors}
use Rattle.card.specs.Presets.{whole}
use Rattle.ticks.specs.Reading.{level_at}
use Rattle.survey.specs.declared.Surveyed.{Surveyed}
use Rattle.survey.specs.Survey.{reads_set, driven_from, Survey}
use Rattle.survey.specs.Rounds.{start_of, readers_of, followers_of, rounds, Settles}

wire : (kind source : ℕ) → Connector
wire kind source = record { kind = kind; source = source }

or2 : (x y : ℕ) → Cell
or2 x y = whole 6 0 (x ∷ y ∷ 0 ∷ 0 ∷ [])

-- ---- sixteen cells

-- cell 1 reads TTL0 (41); cells 2 and 3 read each other, and 2 reads 1; cell 4 reads BNC1 (33),
-- which cell 2 drives; cell 5, a one-shot, is triggered by the rise of TTL2 (171); cell 6 reads the
-- inverse of TTL3 (108), and its unused slots hold TTL1 (42); cell 7 is clocked by the fall of TTL4
-- (237)
abbrev cells : List Cell
cells =
    or2 41 0
    ∷ or2 1 3
    ∷ or2 2 0
    ∷ or2 33 0
    ∷ whole 8 9 (171 ∷ 128 ∷ 0 ∷ 0 ∷ [])
    ∷ whole 5 0 (108 ∷ 64 ∷ 42 ∷ 42 ∷ [])
    ∷ whole 1 0 (64 ∷ 237 ∷ 0 ∷ 0 ∷ [])
    ∷ []

-- BNC1 is push-pull from cell 2, BNC2 open-drain from cell 4, BNC3 push-pull from the inverse of
-- cell 5 (69); TTL1 is an input whose source is cell 1, TTL2 is open-drain from 0, and the others
-- are inputs
abbrev connectors : Connectors
connectors =
    from_each
    (wire push_pull_type 2
    ∷ wire open_drain_type 4
    ∷ wire push_pull_type 69
    ∷ wire 0 0
    ∷ wire 0 0
    ∷ wire 0 0
    ∷ wire 0 0
    ∷ wire 0 0
    ∷ wire 0 0
    ∷ wire 0 1
    ∷ wire open_drain_type 0
    ∷ [])

-- the place, after how many rounds, the cells and the connectors
abbrev Row : (place m x y : ℕ) → Type 0
Row place m x y = Settles cell_count cells connectors (place - first_connector) m x y

-- TTL0: cell 1, the loop of cells 2 and 3, BNC1, cell 4 by the level of BNC1, BNC2. TTL1 is an
-- input, whatever its source
chain : Row 41 5 0x000f 0x0103
unfolding wire or2 bit_at word_of listed kind_at source_at with_source from_each row_of level_at reads_set driven_from start_of readers_of followers_of rounds
chain = record { found = refl; stays = refl }

-- a push-pull line reaches nothing, though cell 4 reads it
push-pull : Row 33 0 0 0
unfolding wire or2 bit_at word_of listed kind_at source_at with_source from_each row_of level_at reads_set driven_from start_of readers_of followers_of rounds
push-pull = record { found = refl; stays = refl }

-- open-drain lines hold themselves: BNC2, which nobody reads, and TTL2, whose rise triggers cell 5,
-- whose inverse drives BNC3
open-drain : Row 34 0 0 0x0002
unfolding wire or2 bit_at word_of listed kind_at source_at with_source from_each row_of level_at reads_set driven_from start_of readers_of followers_of rounds
open-drain = record { found = refl; stays = refl }

edges : Row 43 2 0x0010 0x0404
unfolding wire or2 bit_at word_of listed kind_at source_at with_source from_each row_of level_at reads_set driven_from start_of readers_of followers_of rounds
edges = record { found = refl; stays = refl }

-- TTL1: the slots that hold it are not used
unused : Row 42 0 0 0x0200
unfolding wire or2 bit_at word_of listed kind_at source_at with_source from_each row_of level_at reads_set driven_from start_of readers_of followers_of rounds
unused = record { found = refl; stays = refl }

-- TTL3 by its inverse, TTL4 by its fall
inverse : Row 44 1 0x0020 0x0800
unfolding wire or2 bit_at word_of listed kind_at source_at with_source from_each row_of level_at reads_set driven_from start_of readers_of followers_of rounds
inverse = record { found = refl; stays = refl }

fall : Row 45 1 0x0040 0x1000
unfolding wire or2 bit_at word_of listed kind_at source_at with_source from_each row_of level_at reads_set driven_from start_of readers_of followers_of rounds
fall = record { found = refl; stays = refl }

-- ---- thirty-two cells

-- cell 32 reads the rise of TTL0 (169), cell 20 the fall of cell 32 (224), and BNC1 is driven from
-- cell 20
abbrev upper : List Cell
upper = set (set (fresh_of cell_room).cells 31 (or2 169 0)) 19 (or2 224 0)

-- on sixteen cells nothing sees cells 17 to 32
large : Settles cell_room upper (with_source fresh_connectors 0 20) 8 3 0x80080000 0x0101
unfolding wire or2 bit_at word_of listed kind_at source_at with_source from_each row_of level_at reads_set driven_from start_of readers_of followers_of rounds
large = record { found = refl; stays = refl }

small : Settles cell_count upper (with_source fresh_connectors 0 20) 8 0 0 0x0100
unfolding wire or2 bit_at word_of listed kind_at source_at with_source from_each row_of level_at reads_set driven_from start_of readers_of followers_of rounds
small = record { found = refl; stays = refl }

-- ---- other places

-- "Another place gives 5 and zero words": the places around the connectors', an address of a
-- connector's inverse, and a number past all addresses
abbrev Refused : ℕ → Type 0
Refused place = (n : ℕ) (c : Card) (r : Surveyed) → Survey n c place r → r ≡ record { k = 5; cells = 0; connectors = 0 }

below : Refused 32
below n c r surveyed = surveyed.refused refl

behind : Refused 49
behind n c r surveyed = surveyed.refused refl

inverted : Refused 97
inverted n c r surveyed = surveyed.refused refl

past : Refused 256
past n c r surveyed = surveyed.refused refl
