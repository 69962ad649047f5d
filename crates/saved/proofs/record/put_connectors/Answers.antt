-- `saved::record::put_connectors` meets its contract: after k turns the fields of the first k entries are stored.
use mathlib.Core.Path.{◌≡◌, refl}
use native.Mathlib.Omega.{arith}
use lib.ListN.{length, take}
use lib.Seq.{take_all}
use borrow.Author.Rules.{rules}
use Rattle.card.specs.Connectors.{no_connector}
use Rattle.card.specs.Address.{connector_count}
use Rattle.saved.specs.Record.{connector_length, connector_field}
use Rattle.saved.proofs.Fields.{fields-none, fields-stored-next}
use Rattle.saved.proofs.record.put_connectors.Goals as goal

pub loop-k-init : goal.loop-k-init
loop-k-init c =
    let a = c.args in
    fields-none connector_field connector_length a.start (length a.out.now) connector_count a.connectors a.out.now refl

pub loop-k-preserved : goal.loop-k-preserved
loop-k-preserved c =
    let a = c.args in
    let l = c.loop-k in
    let made = c.connector_bytes-bytes in
    fields-stored-next connector_field connector_length a.start l.k a.connectors no_connector made.result (search rules) made.ensures l.invariant.2
    (length a.out.now) connector_count a.out.now l.out _ _ l.invariant (search rules) (search rules) (omega arith) c.copy.ensures.out_after

pub returns : goal.returns
returns c =
    let l = c.loop-k in
    let connectors = c.args.connectors in
    let all : take l.k connectors ≡ connectors = take_all l.k connectors (search rules) in
    rw all at l.invariant.1
