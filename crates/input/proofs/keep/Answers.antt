-- `input::keep` meets its contract: `text::copy` stores the first bytes, as many as there is room for.
use Rattle.std.proofs.Common.{◌≡◌, ℕ, arith}
use Rattle.std.proofs.Math.ListN.{length-take}
use Rattle.input.proofs.Lines.{kept-cut}
use Rattle.input.proofs.keep.Goals as goal

pub returns-clause-line_after : goal.returns-clause-line_after
returns-clause-line_after c =
    let n = c.min-n.result in
    let size = length-take n c.args.text.now in
    let len : c.copy.result ≡ n = omega (arith, size, c.copy.ensures.value, c.min-n.ensures) in
    rw (len, c.copy.ensures.out_after) (kept-cut c.args.line.now c.args.text.now n c.min-n.ensures)
