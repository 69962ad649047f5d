-- `plwave::put_code` meets its contract: one byte or two, by the definition's test.
use native.Mathlib.Omega.{arith}
use borrow.Author.Tests.{lt-ltb, le-ltb}
use Rattle.plwave.specs.Dump.{code_of}
use borrow.Author.Rules.{rules}
use Rattle.plwave.proofs.put_code.Statement.{statement}
use Rattle.plwave.proofs.put_code.Tie as tie

returns : tie.Need-returns-then-i-lt94
unfolding code_of
returns c =
    let put = c.copy.ensures in
    rw (lt-ltb _ _ c.if-i-lt94.true) (put.0, (put.1, omega (arith, put.1)))

returns-2 : tie.Need-returns
unfolding code_of
returns-2 c =
    let put = c.copy-2.ensures in
    rw (le-ltb _ _ c.if-i-lt94.false) (put.0, (put.1, omega (arith, put.1)))

pub put_code_spec : {M : Type 1} → statement M
put_code_spec =
    tie.close
    (tie.spec
    (λ c. search rules)
    (λ c. search rules)
    (λ c. search rules)
    (λ c κs. search rules)
    (λ c. search rules)
    returns
    (λ c. search rules)
    (λ c. search rules)
    (λ c. search rules)
    (λ c κs. search rules)
    (λ c. search rules)
    returns-2)
