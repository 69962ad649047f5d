-- `words::lowest` meets its contract: the count of zeros below the lowest bit is its place.
use Prim.Native.Nat.{◌^◌, ◌<◌}
use borrow.Author.Rules.{rules}
use Rattle.words.proofs.SetBits.{trailing-lowest, lowest-lt}
use Rattle.words.proofs.lowest.Statement.{statement}
use Rattle.words.proofs.lowest.Tie as tie

returns : tie.Need-returns
returns c =
    let w = c.args.w in
    let fits : w < 2 ^ 64 = search rules in
    let some : 0 < w = search rules in
    let low = trailing-lowest 64 w some fits in
    (low, lowest-lt 64 w _ fits low)

pub lowest_spec : {M : Type 1} → statement M
lowest_spec = tie.close (tie.spec returns)
