-- `wiring::parts::put_connectors` meets its contract: after k turns the lines of the first k entries are written.
use mathlib.Core.Path.{◌≡◌, ap}
use mathlib.Core.List.{List}
use lib.Seq.{take_all}
use Rattle.card.specs.declared.card.Connector.{Connector}
use native.Mathlib.Omega.{arith}
use lib.ListN.{take}
use borrow.Author.Rules.{rules}
use Rattle.card.specs.Address.{connector_count}
use Rattle.card.specs.Connectors.{no_connector}
use Rattle.wiring.specs.Wiring.{connector_commands, commands_from}
use Rattle.wiring.specs.Parts.{commands_text}
use Rattle.wiring.proofs.PartLaws.{placed-as, written_none, written_next}
use Rattle.wiring.proofs.parts.put_connectors.Goals as goal

pub loop-k-init : goal.loop-k-init
loop-k-init c = written_none connector_commands

pub put_connector-at-requires : goal.put_connector-at-requires
put_connector-at-requires c =
    let l = c.loop-k in record {
      k_lt_connector_count = search rules;
      connector_most_bound = omega (arith, l.invariant.within, c.requires);
    }

pub loop-k-preserved : goal.loop-k-preserved
loop-k-preserved c =
    let l = c.loop-k in
    let e = c.put_connector-at.ensures in
    written_next connector_commands no_connector l.invariant (search rules) (search rules) e.out_after e.value e.upper_bound

pub returns : goal.returns
returns c =
    let l = c.loop-k in
    let a = c.args in
    let end : l.k ≡ connector_count = omega arith in
    let all : take l.k a.connectors ≡ a.connectors = take_all l.k a.connectors (search rules) in
    let whole = placed-as (ap (λ (ks : List Connector). commands_text (commands_from connector_commands 0 ks)) all) l.invariant.placed in record {
      out_after = whole.bytes;
      value = whole.at-end;
      upper_bound = omega (arith, l.invariant.within, end);
    }
