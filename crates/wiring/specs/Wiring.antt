-- The settings of a card as a list of commands, and as the lines that say them. Document 01,
-- "Lines", has the commands' forms.
use Rattle.std.specs.Prelude.{ℕ, suc, ◌+◌, Bool, cond, List, [], ◌∷◌, ◌++◌, map, get_or, is_some, Option, Some, None}
use Rattle.cells.specs.declared.cell.Cell.{Cell}
use Rattle.cells.specs.Table.{row_of, any_slot}
use Rattle.card.specs.declared.card.Connector.{Connector}
use Rattle.card.specs.Address.{first_cell, first_connector}
use Rattle.grammar.specs.declared.grammar.Pairs.{Pairs}
use Rattle.grammar.specs.declared.grammar.Command.{Command}
use Rattle.grammar.specs.declared.grammar.Command.TheVariants.{Move, Trigger, SetKind, SetConfig, SetSlots}
use Rattle.grammar.specs.Texts.{command_text}

-- a command, where the test holds
abbrev pub only : Bool → Command → List Command
only test command = cond test (command ∷ []) []

-- the address in a slot that is used
abbrev pub slot_in : (used : Bool) → ℕ → Option ℕ
slot_in used a = cond used (Some a) None

-- the slots that a cell uses, with the addresses that they hold
abbrev pub pairs_in : Cell → Pairs
pairs_in cell =
    let used = (row_of cell.kind).used in
    record {
      x = slot_in used.x (get_or cell.slots 0 0);
      y = slot_in used.y (get_or cell.slots 1 0);
      z = slot_in used.z (get_or cell.slots 2 0);
      f = slot_in used.f (get_or cell.slots 3 0);
    }

-- a cell: the pointer, the type, the configuration where the type has one, and the slots where it
-- uses any
unfoldable pub cell_commands : ℕ → Cell → List Command
cell_commands i cell =
    Move (first_cell + i)
    ∷ SetKind cell.kind
    ∷ only (is_some (row_of cell.kind).largest) (SetConfig cell.config) ++ only (any_slot (row_of cell.kind).used) (SetSlots (pairs_in cell))

-- a connector: the pointer, the type, the source
unfoldable pub connector_commands : ℕ → Connector → List Command
connector_commands k connector = Move (first_connector + k) ∷ SetKind connector.kind ∷ SetConfig connector.source ∷ []

-- the commands of a list, counted from i
unfoldable pub commands_from : {A : Type 0} → (ℕ → A → List Command) → ℕ → List A → List Command
commands_from f i [] = []
commands_from f i (x ∷ xs) = f i x ++ commands_from f (suc i) xs

-- all settings; the trigger last, so that no command "makes BNC1 an output while trigger is 4"
unfoldable pub wiring : ℕ → List Cell → List Connector → List Command
wiring trigger cells connectors = commands_from cell_commands 0 cells ++ (commands_from connector_commands 0 connectors ++ (Trigger trigger ∷ []))

-- the lines that set all settings
abbrev pub wiring_lines : ℕ → List Cell → List Connector → List (List ℕ)
wiring_lines trigger cells connectors = map command_text (wiring trigger cells connectors)
