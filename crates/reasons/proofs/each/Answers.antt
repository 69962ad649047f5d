-- `reasons::each` meets its contract: after i turns the first i entries are the reasons of the first i cells.
use Prim.Native.Nat.{zero-le}
use mathlib.Core.Path.{◌≡◌, refl}
use native.Mathlib.Omega.{arith}
use borrow.Author.Rules.{rules}
use Rattle.words.specs.Listed.{listed}
use Rattle.words.proofs.Listed.{listed_next}
use Rattle.reasons.specs.Reasons.{no_reasons}
use Rattle.reasons.proofs.each.Goals as goal
use Rattle.reasons.proofs.each.Invariants.{at}

pub loop-i-init : goal.loop-i-init
unfolding listed
loop-i-init c = (zero-le, refl)

pub loop-i-preserved : goal.loop-i-preserved
loop-i-preserved c =
    let a = c.args in
    let l = c.loop-i in
    let f = at a.n a.cells a.edited a.w a.below in
    (omega arith, listed_next f l.i a.blank l.next _ no_reasons l.invariant.1 c.reasons_at-r.ensures (search rules))

pub returns : goal.returns
returns c =
    let a = c.args in
    let l = c.loop-i in
    let end : l.i ≡ a.n = omega arith in
    rw end at l.invariant.1
