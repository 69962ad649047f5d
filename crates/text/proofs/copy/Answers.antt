-- `text::copy` meets its contract: one byte more is one store more.
use mathlib.Core.Path.{◌≡◌, ap, ◌∙◌}
use native.Mathlib.Omega.{arith}
use lib.ListN.{length, take}
use lib.Seq.{sets, length-sets, take_all}
use Rattle.text.proofs.Stores.{sets-next}
use Rattle.text.proofs.copy.Goals as goal
use Rattle.text.proofs.copy.Goals.{At-loop-i}

-- a store keeps the length
kept : (c : At-loop-i) → length c.loop-i.out ≡ length c.args.out.now
kept c = rw c.loop-i.invariant (length-sets c.args.out.now c.args.at (take c.loop-i.i c.args.bytes.now))

pub bounds-out-at : goal.bounds-out-at
bounds-out-at c = omega (arith, kept (goal.at.bounds-out-at c).At-loop-i)

pub loop-i-preserved : goal.loop-i-preserved
loop-i-preserved c =
    let a = c.args in
    rw c.loop-i.invariant (sets-next a.out.now a.at a.bytes.now c.loop-i.i 0 (omega arith))

pub returns-clause-out_after : goal.returns-clause-out_after
returns-clause-out_after c =
    let a = c.args in
    c.loop-i.invariant ∙ ap (sets a.out.now a.at) (take_all c.loop-i.i a.bytes.now (omega arith))
