-- `saved::record::connectors_in` meets its contract: after k turns the first k entries are those of the record.
use Prim.Native.Nat.{zero-le}
use mathlib.Core.Path.{◌≡◌, refl}
use native.Mathlib.Omega.{arith}
use borrow.Author.Rules.{rules}
use Rattle.words.specs.Listed.{listed}
use Rattle.words.proofs.Listed.{listed_next, listed-done}
use Rattle.card.specs.Address.{connector_count}
use Rattle.card.specs.Connectors.{no_connector}
use Rattle.saved.specs.Record.{connector_in}
use Rattle.saved.proofs.record.connectors_in.Goals as goal

pub loop-k-init : goal.loop-k-init
unfolding listed
loop-k-init c = (zero-le, refl)

pub loop-k-preserved : goal.loop-k-preserved
loop-k-preserved c =
    let l = c.loop-k in
    let a = c.args in
    let f = connector_in a.n a.width a.bytes.now in
    (omega arith, listed_next f l.k a.connectors l.next _ no_connector l.invariant.1 c.connector_in-c.ensures (search rules))

pub returns : goal.returns
returns c =
    let l = c.loop-k in
    let a = c.args in
    let end : l.k ≡ connector_count = omega arith in
    listed-done (connector_in a.n a.width a.bytes.now) connector_count a.connectors l.next (rw end at l.invariant.1) (search rules)
