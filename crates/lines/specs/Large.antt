-- Document 02, "Thirty-two cells": the numbers that a card of sixteen cells and one of thirty-two
-- give to the same line, by computation.
use Rattle.std.specs.Prelude.{ℕ, ◌≡◌, refl, List, [], ◌∷◌, map}
use Prim.Native.String.{String}
use Rattle.words.specs.Bits.{with_bit, word_of, bit_at}
use Rattle.words.specs.Listed.{listed}
use Rattle.text.specs.Digits.{value_by}
use Rattle.text.specs.Decimal.{is_digit, digits_of, leads, plain, number_in, number_at}
use Rattle.text.specs.Written.{bytes_of}
use Rattle.cells.specs.Table.{row_of}
use Rattle.card.specs.Connectors.{kind_at, source_at, with_kind, with_source, each, from_each, well_formed}
use Rattle.card.specs.declared.card.Card.{Card}
use Rattle.card.specs.Address.{cell_count, cell_room}
use Rattle.card.specs.Edits.{current_cell, current_connector, put_cell, typed, set_type, set_trigger}
use Rattle.card.specs.Change.{changed}
use Rattle.card.specs.Fresh.{fresh_of}
use Rattle.card.specs.Valid.{permitted_base, bad_place, unused_slot, bad_address}
use Rattle.card.specs.Presets.{preset_table, setting_of, offered, preset_cell, preset_source, sets_front, preset}
use Rattle.grammar.specs.Grammar.{is_word, is_whole, to_end, slot_of, pair_read, steps, pairs_of, cca_form, ccb_form}
use Rattle.grammar.specs.Grammar.{read_form, card_form, plain_form, addressed, parse}
use Rattle.lines.specs.Refusal.{refusal}
use Rattle.lines.specs.Line.{change_for, response_to, decision, decision_for, line_decision, line_outcome}

-- the number of a line with room for its reply and a store of some length, on a card of each size
-- made from a fresh one
both : (ℕ → Card → Card) → (store : ℕ) → String → ℕ × ℕ
both made store text = (
  (line_outcome cell_count (made cell_count (fresh_of cell_count)) (bytes_of text) 16 store).k,
  (line_outcome cell_room (made cell_room (fresh_of cell_room))
      (bytes_of text) 16 store).k,
)

fresh : ℕ → Card → Card
fresh n c = c

-- cell 1 an AND2; trigger 4
and2 : ℕ → Card → Card
and2 n c = set_type n c 5

front : ℕ → Card → Card
front n c = set_trigger c 4

-- given, expected
abbrev numbers : List ((ℕ × ℕ) × (ℕ × ℕ))
numbers =
    -- "`36RDADC F?` reads cells 17 to 32"
    (both fresh 0 "36RDADC F?", (2, 0))
    ∷ (both fresh 0 "35RDADC F?", (2, 3))
    ∷ (both fresh 0 "36RDADC Z?", (0, 0))
    ∷ (both fresh 0 "36RDADC F", (2, 2))
    ∷ (both fresh 0 "36RDADC Q?", (2, 2))
    -- "The pointer ... and addresses 17 to 32 (with inverse and edges) take the new cells"
    ∷ (both fresh 0 "M E=17", (5, 0))
    ∷ (both fresh 0 "M E=32", (5, 0))
    ∷ (both fresh 0 "M E=49", (5, 5))
    ∷ (both and2 0 "36CCB X=20", (11, 0))
    ∷ (both and2 0 "36CCB X=20 Y=224", (11, 0))
    ∷ (both and2 0 "36CCB X=49", (11, 11))
    -- "preset 51 is offered", and 13 under trigger 4
    ∷ (both fresh 0 "36CCA X=51", (8, 0))
    ∷ (both front 0 "36CCA X=51", (8, 13))
    -- "516 bytes"
    ∷ (both fresh 308 "36SS Z", (0, 1))
    ∷ (both fresh 515 "36SS Z", (0, 1))
    ∷ (both fresh 516 "36SS Z", (0, 0))
    ∷ []

number-table : map (λ (e : (ℕ × ℕ) × (ℕ × ℕ)). e.0) numbers ≡ map (λ (e : (ℕ × ℕ) × (ℕ × ℕ)). e.1) numbers
unfolding both fresh and2 front listed with_bit word_of bit_at value_by is_digit digits_of leads plain number_in number_at row_of current_cell
    current_connector put_cell typed set_type set_trigger permitted_base bad_place unused_slot bad_address preset_table setting_of offered preset_cell preset_source
    sets_front preset
    is_word is_whole to_end slot_of pair_read steps pairs_of cca_form ccb_form read_form card_form plain_form
    addressed parse refusal changed change_for response_to decision decision_for line_decision line_outcome kind_at source_at with_kind with_source
    each from_each well_formed
number-table = refl
