-- `card::valid::valid_settings` meets its contract: arrays of sixteen have sixteen entries, and each part is tested by its own function.
use Rattle.std.proofs.Common.{◌≡◌, length, take, arith, length-take-le, rules, eq-eqb}
use mathlib.Core.Bool.{and-true}
use Rattle.card.proofs.Places.{cells-most}
use Rattle.card.proofs.Settings.{every-all}
use Rattle.card.specs.Address.{cell_room, cells_for, connector_count}
use Rattle.card.specs.Valid.{valid, valid_cell, valid_connector}
use Rattle.card.proofs.valid.valid_settings.Goals as goal

pub returns : goal.returns
unfolding valid
returns c =
    let a = c.args in
    let room : length a.cells ≡ cell_room = search (rules, c.well_formed) in
    let n = cells_for a.size in
    let taken = eq-eqb (length (take n a.cells)) n (length-take-le n a.cells (omega (arith, cells-most a.size))) in
    let others : length a.connectors ≡ connector_count = search (rules, c.well_formed) in
    rw (
      c.bad_clock.ensures,
      c.front_driven.ensures,
      c.valid_cells.ensures,
      c.cells_for-n.ensures.value,
      c.valid_connectors.ensures,
      taken,
      others,
      every-all (valid_cell (cells_for a.size)) (take (cells_for a.size) a.cells),
      every-all (valid_connector (cells_for a.size)) a.connectors,
      and-true,
    )
