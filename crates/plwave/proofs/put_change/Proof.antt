-- `plwave::put_change` meets its contract: nothing where the wire is not shown, else its value, its identifier and LF.
use mathlib.Core.Path.{refl, sym}
use mathlib.Core.List.{[], ◌∷◌}
use native.Mathlib.Nat.{add-zero}
use native.Mathlib.Omega.{arith}
use borrow.Author.Tests.{not-true, not-false}
use Rattle.text.proofs.Stores.{placed-then}
use Rattle.plwave.specs.Dump.{code_of, change_of}
use borrow.Author.Rules.{rules}
use Rattle.plwave.proofs.put_change.Statement.{statement}
use Rattle.plwave.proofs.put_change.Tie as tie

returns : tie.Need-returns-then-not-shown
unfolding change_of
returns c =
    let a = c.args in
    rw (not-true a.shown c.if-not-shown.true-raw) (refl, (sym (add-zero a.at), omega arith))

returns-2 : tie.Need-returns
unfolding change_of
returns-2 c =
    let last = c.copy.ensures in
    let a = c.args in
    let identifier = c.put_code-end.ensures in
    let first = c.copy-code.ensures in
    let named = placed-then {l = a.out.now} {x = c.digit.result ∷ []} (record { bytes = first.0; at-end = first.1 }) (code_of a.i) identifier.0 identifier.1.0 in
    let text = placed-then named (10 ∷ []) last.0 last.1 in
    rw (not-false a.shown c.if-not-shown.false-raw, ← c.digit.ensures) (text.bytes, (text.at-end, omega (arith, last.1, identifier.1.1, first.1)))

pub put_change_spec : {M : Type 1} → statement M
put_change_spec =
    tie.close
    (tie.spec
    returns
    (λ c. search rules)
    (λ c. search rules)
    (λ c. search rules)
    (λ c. search rules)
    (λ c. search rules)
    (λ c. search rules)
    returns-2)
