-- `lines::line::put_number` meets its contract: the ending is CR LF.
use native.Mathlib.Omega.{arith}
use borrow.Author.Rules.{rules}
use Rattle.lines.proofs.line.put_number.Statement.{statement}
use Rattle.lines.proofs.line.put_number.Tie as tie

returns : tie.Need-returns
returns c =
    let whole = c.put_numbered.ensures in
    (whole.0, (whole.1.0, omega (arith, whole.1.1, c.requires)))

pub put_number_spec : {M : Type 1} → statement M
put_number_spec =
    tie.close
    (tie.spec
    (λ c. search rules)
    (λ c. search rules)
    returns)
