-- `input::read_behind` meets its contract: the line is at the front of the block, and the read leaves it there.
use Rattle.std.proofs.Common.{◌≡◌, ◌≤◌, ℕ, arith, length, take, sym, ap, ◌∙◌}
use lib.Seq.{length-take-le}
use Rattle.text.proofs.Stores.{front}
use Rattle.input.proofs.read_behind.Goals as goal

pub returns-clause-block_after : goal.returns-clause-block_after
returns-clause-block_after c =
    let a = c.args in
    let size : length (take a.len a.line.now) ≡ a.len = length-take-le a.len a.line.now c.requires.len_in_bounds in
    let fits : length (take a.len a.line.now) ≤ length a.block.now = omega (arith, c.requires.block_length_in_bounds, size) in
    c.read_at.ensures.block_unchanged ∙ ap (take a.len) c.copy.ensures.out_after ∙ front a.block.now (take a.len a.line.now) a.len (sym size) fits
