-- `words::bit` meets its contract: the low digit of the shifted word is the one that bit_at tests.
use mathlib.Core.Path.{ap}
use Prim.Native.Nat.{ℕ, ◌/◌, ◌^◌}
use lib.Dec.{eqb}
use lib.Bits.{and_mask}
use Rattle.words.specs.Bits.{bit_at}
use borrow.Author.Rules.{rules}
use Rattle.words.proofs.bit.Statement.{statement}
use Rattle.words.proofs.bit.Tie as tie

returns : tie.Need-returns
unfolding bit_at
returns c = ap (λ (x : ℕ). eqb x 1) (and_mask (c.args.w / 2 ^ c.args.i) 1)

pub bit_spec : {M : Type 1} → statement M
bit_spec = tie.close (tie.spec (λ c. search rules) returns)
