-- `rack::rack_calls::rack_load` meets its contract.
use Rattle.std.proofs.Common.{Ok, Err, ◌∙◌}
use Rattle.rack.proofs.Takes.{load_row}
use Rattle.rack.proofs.rack_calls.rack_load.Goals as goal

pub returns-in-Ok : goal.returns-in-Ok
returns-in-Ok c =
    let a = c.args in
    let l = load_row a.row.now a.number a.bytes.now (Ok _) c.in-Ok.ensures in
    (l.0, l.1)

pub returns-in-Err : goal.returns-in-Err
returns-in-Err c =
    let a = c.args in
    let l = load_row a.row.now a.number a.bytes.now (Err c.in-Err.refused) c.in-Err.ensures in
    (c.number.ensures ∙ l.0, l.1)
