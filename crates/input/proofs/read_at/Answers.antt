-- `input::read_at` meets its contract: what is before the place is as it was.
use native.Mathlib.Omega.{arith}
use lib.ListN.{take}
use lib.Seq.{take_at, length-take-le}
use borrow.Author.Rules.{rules}
use Rattle.input.proofs.read_at.Goals as goal

pub returns : goal.returns
returns c =
    let a = c.args in record {
      n_le_block_length = search rules;
      block_unchanged = take_at (take a.at a.block.now) _ a.at (length-take-le a.at a.block.now (omega (arith, c.requires)));
    }
