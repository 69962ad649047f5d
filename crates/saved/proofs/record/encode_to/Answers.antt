-- `saved::record::encode_to` meets its contract: the fields are stored in three goes, each after the last.
use mathlib.Core.Path.{refl}
use native.Mathlib.Omega.{arith}
use lib.ListN.{take}
use Rattle.text.proofs.Stores.{sets-three}
use Rattle.saved.specs.Record.{encode, trigger_field, cell_field, connector_field, fields_from}
use Rattle.saved.proofs.record.encode_to.Goals as goal

pub returns : goal.returns
unfolding encode
returns c =
    let a = c.args in
    let cells = fields_from (cell_field a.width) 0 (take a.n a.cells) in
    let connectors = fields_from connector_field 0 a.connectors in
    sets-three a.out.now (trigger_field a.trigger) cells connectors 0 4 _ c.copy.ensures.out_after refl c.put_cells.ensures.out_after
    (omega (arith, c.put_cells.ensures.cells_len, c.connectors_at-at.ensures.value)) c.put_connectors.ensures
