-- Document 01, row 15 of "When the card says no", "record value no line could set": what lines make
-- of a cell that is to have a cell's settings.
use Rattle.std.specs.Prelude.{cond, is_some}
use Rattle.cells.specs.declared.cell.Cell.{Cell}
use Rattle.cells.specs.Table.{row_of}
use Rattle.card.specs.Edits.{typed, configured, wired}

-- a cell that got the type, and the configuration where the type has one
unfoldable pub configured_as : Cell → Cell
configured_as cell = cond (is_some (row_of cell.kind).largest) (configured (typed cell.kind) cell.config) (typed cell.kind)

-- and then the addresses of the slots that the type uses
unfoldable pub written : Cell → Cell
written cell = wired (configured_as cell) (row_of cell.kind).used cell.slots
