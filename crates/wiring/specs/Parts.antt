-- The parts in which a wiring is written, and how many bytes each has at most, on any card: a card
-- that no calls reach prints too.
use Rattle.std.specs.Prelude.{ℕ, ◌+◌, ◌*◌, Bool, cond, List, [], ◌∷◌, ◌++◌, map}
use Rattle.text.specs.Decimal.{decimal, max_digits}
use Rattle.cells.specs.declared.cell.Cell.{Cell}
use Rattle.cells.specs.Table.{row_of, any_slot}
use Rattle.card.specs.Address.{cell_room, connector_count}
use Rattle.grammar.specs.declared.grammar.Command.{Command}
use Rattle.grammar.specs.declared.grammar.Command.TheVariants.{SetSlots}
use Rattle.grammar.specs.Texts.{command_text}
use Rattle.wiring.specs.Wiring.{only, pairs_in}

-- the byte that ends a line
abbrev pub line_feed : ℕ
line_feed = 10

-- "Each ends LF"
unfoldable pub lines_text : List (List ℕ) → List ℕ
lines_text [] = []
lines_text (line ∷ lines) = line ++ (line_feed ∷ lines_text lines)

unfoldable pub commands_text : List Command → List ℕ
commands_text commands = lines_text (map command_text commands)

-- a number after a word and before an ending, where it is given
unfoldable pub part : Bool → List ℕ → ℕ → List ℕ → List ℕ
part given word v ending = cond given (word ++ (decimal v ++ ending)) []

-- the line of the slots that are used
unfoldable pub slots_text : Cell → List ℕ
slots_text cell = commands_text (only (any_slot (row_of cell.kind).used) (SetSlots (pairs_in cell)))

-- a line of one number, whose words have eight bytes at most; a slot's pair; a line of four pairs
-- after `36CCB`
abbrev pub number_most : ℕ
number_most = 8 + (max_digits + 1)

abbrev pub pair_most : ℕ
pair_most = 3 + max_digits

abbrev pub slots_most : ℕ
slots_most = 5 + (4 * pair_most + 1)

-- a cell, a connector, a card
abbrev pub cell_most : ℕ
cell_most = 3 * number_most + slots_most

abbrev pub connector_most : ℕ
connector_most = 3 * number_most

abbrev pub cells_most : ℕ
cells_most = cell_room * cell_most

abbrev pub text_most : ℕ
text_most = cells_most + (connector_count * connector_most + number_most)
