-- `words::pushed` meets its contract: the word and the shifted bit have no digit in common.
use mathlib.Core.Path.{ap, ◌∙◌}
use Prim.Native.Nat.{◌*◌, ◌^◌}
use native.Mathlib.Nat.{add_comm}
use lib.Bits.{bit_or, or_shifted_r}
use Rattle.words.specs.Bits.{bit_number}
use Rattle.words.proofs.Laws.{shifted}
use borrow.Author.Rules.{rules}
use Rattle.words.proofs.pushed.Statement.{statement}
use Rattle.words.proofs.pushed.Tie as tie

returns : tie.Need-returns
returns c =
    let top = bit_number c.args.b in
    ap (bit_or c.args.w) (shifted 64 c.args.i c.args.b (search rules))
    ∙ or_shifted_r top c.args.i c.args.w (search rules) ∙ add_comm (top * 2 ^ c.args.i) c.args.w

pub pushed_spec : {M : Type 1} → statement M
pushed_spec = tie.close (tie.spec (λ c. search rules) (λ c. search rules) returns)
