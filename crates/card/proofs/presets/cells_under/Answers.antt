-- `card::presets::cells_under` meets its contract: after i turns the first i cells are those under the row.
use Rattle.std.proofs.Common.{◌≡◌, refl, zero-le, arith, rules}
use Rattle.words.specs.Listed.{listed}
use Rattle.words.proofs.Listed.{listed_next}
use Rattle.card.specs.Fresh.{no_cell}
use Rattle.card.proofs.presets.cells_under.Goals as goal
use Rattle.card.proofs.presets.cells_under.Invariants.{under}

pub loop-i-init : goal.loop-i-init
unfolding listed
loop-i-init c = (zero-le, refl)

pub loop-i-preserved : goal.loop-i-preserved
loop-i-preserved c =
    let a = c.args in
    let l = c.loop-i in (
      omega arith,
      listed_next (under a.row.0 a.row.1 a.cells) l.i a.cells l.next _ no_cell l.invariant.1 c.cell_under.ensures (search rules),
    )

pub returns : goal.returns
returns c =
    let l = c.loop-i in
    let end : l.i ≡ c.args.n = omega arith in
    rw end at l.invariant.1
