-- Document 02, "Thirty-two cells", by computation: what a card of sixteen cells and one of
-- thirty-two say of the same address, place and preset, what a preset sets on the larger one, and
-- what the two reads of its cell word give. And "a 16-cell card ... otherwise answers as before":
-- where a definition took the number of cells with that request, at sixteen it is what it was.
use Rattle.std.specs.Prelude.{◌≡◌, ℕ, ◌+◌, ◌*◌, Bool, true, false, List, [], ◌∷◌, ◌++◌, map, get_or, replicate, slice_index_or, refl}
use Rattle.words.specs.Bits.{bit_at, word_of}
use Rattle.words.specs.Listed.{listed}
use Rattle.card.specs.declared.card.Card.{Card}
use Rattle.card.specs.declared.card.Connector.{Connector}
use Rattle.card.specs.declared.context.Context.{Context}
use Rattle.card.specs.Address.{cell_count, cell_room, cells_for, permitted_base}
use Rattle.card.specs.Connectors.{kind_at, source_at, each, from_each}
use Rattle.card.specs.Context.{lower_read, upper_read}
use Rattle.card.specs.Fresh.{fresh_of, no_cell}
use Rattle.card.specs.Edits.{home}
use Rattle.card.specs.Presets.{preset_table, setting_of, has, find, sources_of, offered, preset_cell, preset_source, sets_front, preset}
use Rattle.card.specs.Valid.{bad_place, bad_address}

-- ---- which numbers are cells

sizes-table : map cells_for (32 ∷ 16 ∷ 0 ∷ 31 ∷ 33 ∷ 255 ∷ []) ≡ 32 ∷ 16 ∷ 16 ∷ 16 ∷ 16 ∷ 16 ∷ []
unfolding cells_for
sizes-table = refl

-- given on 16 cells and on 32, expected
abbrev Both : Type 0
Both = (Bool × Bool) × (Bool × Bool)

at : (ℕ → ℕ → Bool) → ℕ → Bool × Bool
at test v = (test cell_count v, test cell_room v)

abbrev tests : List Both
tests =
    -- "addresses 17 to 32 (with inverse and edges) take the new cells"
    (at bad_address 16, (false, false))
    ∷ (at bad_address 17, (true, false))
    ∷ (at bad_address 20, (true, false))
    ∷ (at bad_address 32, (true, false))
    ∷ (at bad_address 84, (true, false))
    ∷ (at bad_address 148, (true, false))
    ∷ (at bad_address 212, (true, false))
    ∷ (at bad_address 33, (false, false))
    ∷ (at bad_address 49, (true, true))
    ∷ (at bad_address 256, (true, true))
    -- the pointer
    ∷ (at bad_place 0, (true, true))
    ∷ (at bad_place 16, (false, false))
    ∷ (at bad_place 17, (true, false))
    ∷ (at bad_place 32, (true, false))
    ∷ (at bad_place 33, (false, false))
    ∷ (at bad_place 49, (true, true))
    -- "preset 51 is offered"
    ∷ (at offered 51, (false, true))
    ∷ (at offered 50, (true, true))
    ∷ (at offered 60, (false, false))
    ∷ (at offered 1, (false, false))
    -- and makes BNC1 an output, which trigger 4 refuses
    ∷ (at sets_front 51, (false, true))
    ∷ (at sets_front 0, (false, false))
    ∷ []

test_table : map (λ (e : Both). e.0) tests ≡ map (λ (e : Both). e.1) tests
unfolding at permitted_base bad_place bad_address preset_table setting_of offered preset_source sets_front listed
test_table = refl

-- ---- presets of the larger card

-- a connector's type in the hundreds, and its source
shown : Connector → ℕ
shown k = 100 * k.kind + k.source

-- preset 51: BNC1-8 push-pull from cells 17 to 24, and nothing else
large-preset : map shown (each (preset cell_room (fresh_of cell_room) 51).connectors)
    ≡ map (λ (k : ℕ). 200 + k) (17 ∷ 18 ∷ 19 ∷ 20 ∷ 21 ∷ 22 ∷ 23 ∷ 24 ∷ []) ++ replicate 8 0
unfolding shown preset preset_table setting_of preset_source kind_at source_at each from_each bit_at word_of listed
large-preset = refl

-- "preset 0 still sets cells 1 to 16", and 4 too: these are edited and no others; HOME edits all
-- thirty-two
edits-table : (home cell_room (fresh_of cell_room)).edited ∷ map (λ (v : ℕ). (preset cell_room (fresh_of cell_room) v).edited) (0 ∷ 4 ∷ 51 ∷ [])
    ≡ 4294967295 ∷ 65535 ∷ 65535 ∷ 0 ∷ []
unfolding preset home preset_table setting_of preset_cell bit_at word_of listed
edits-table = refl

kind-at : Card → ℕ → ℕ
kind-at c i = (get_or c.cells i no_cell).kind

-- preset 4 makes sixteen D-flops
sixteen-set : map (kind-at (preset cell_room (fresh_of cell_room) 4)) (0 ∷ 15 ∷ 16 ∷ 31 ∷ []) ≡ 1 ∷ 1 ∷ 0 ∷ 0 ∷ []
unfolding kind-at preset preset_table setting_of preset_cell listed
sixteen-set = refl

-- ---- reads: "`36RDADC F?` reads cells 17 to 32 and `Z?` the lower sixteen"

reading : ℕ → Context
reading outputs =
    let c = fresh_of cell_room in
    record {
      pointer = 1;
      trigger = 0;
      at_cell = true;
      cell = slice_index_or c.cells 0 no_cell;
      connector = record { kind = 0; source = 0 };
      levels = 0;
      outputs = outputs;
      size = cell_room;
    }

read_table : lower_read (reading 0x50003) ∷ upper_read (reading 0x50003) ∷ upper_read (reading 0xffffffff) ∷ lower_read
    (reading 0xffffffff) ∷ [] ≡ 3 ∷ 5 ∷ 65535 ∷ 65535 ∷ []
unfolding reading
read_table = refl

-- ---- at sixteen cells as before

offered-before : (v : ℕ) → offered cell_count v ≡ has (setting_of v)
unfolding offered
offered-before v = refl

source-before : (v k : ℕ) → preset_source cell_count v k ≡ find (1 + k) (sources_of (setting_of v))
unfolding preset_source
source-before v k = refl
