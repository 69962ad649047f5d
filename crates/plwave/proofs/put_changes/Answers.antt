-- `plwave::put_changes` meets its contract: after i turns the bits below i are stored, in at most four bytes each.
use Prim.Native.Nat.{◌≤◌, ◌*◌, ◌-◌}
use mathlib.Core.Path.{◌≡◌, refl}
use native.Mathlib.Omega.{arith}
use lib.ListN.{length}
use Rattle.text.proofs.Stores.{Stored}
use Rattle.plwave.specs.Dump.{changes}
use Rattle.plwave.proofs.Dumps.{stored-change}
use borrow.Author.Rules.{rules}
use Rattle.plwave.proofs.put_changes.Goals as goal

pub loop-i-init : goal.loop-i-init
unfolding changes
loop-i-init c = (omega arith, (omega arith, (refl, record { bytes = refl; at-end = refl })))

pub loop-i-preserved : goal.loop-i-preserved
loop-i-preserved c =
    let put = c.put_change-at.ensures in
    let a = c.args in
    let inv = c.loop-i.invariant in
    let next = stored-change a.from a.word a.set c.loop-i.i c.bit.ensures c.bit-in-loop-i.ensures inv.1.1.1 (put.out_after, put.value) in
    (search rules, (omega (arith, put.upper_bound, inv.1.0), (search rules, next)))

pub returns : goal.returns
returns c =
    let l = c.loop-i in
    let end : l.i ≡ c.args.count = search rules in
    let all = l.invariant.1.1.1 in record {
      out_after = rw end at all.bytes;
      value = rw end at all.at-end;
      upper_bound = search rules;
    }
