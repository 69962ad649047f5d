-- `words::with_set` meets its contract, by the law of `|` with one bit.
use mathlib.Core.Path.{ap, ◌∙◌}
use mathlib.Core.Bool.{true}
use lib.Bits.{bit_or}
use Rattle.words.proofs.Laws.{shifted, set-bit}
use borrow.Author.Rules.{rules}
use Rattle.words.proofs.with_set.Statement.{statement}
use Rattle.words.proofs.with_set.Tie as tie

returns : tie.Need-returns
returns c =
    ap (bit_or c.args.w) (shifted 64 c.args.i true (search rules))
    ∙ set-bit c.args.w 64 c.args.i (search rules) (search rules)

pub with_set_spec : {M : Type 1} → statement M
with_set_spec = tie.close (tie.spec (λ c. search rules) returns)
