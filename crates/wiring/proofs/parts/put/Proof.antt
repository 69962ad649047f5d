-- `wiring::parts::put` meets its contract: three stores, one after the other.
use Prim.Native.Nat.{◌+◌, ◌≤◌}
use mathlib.Core.Path.{refl, sym}
use mathlib.Core.List.{append_assoc}
use native.Mathlib.Nat.{add-zero}
use native.Mathlib.Omega.{arith}
use lib.Dec.{lit≤}
use lib.ListN.{length}
use Rattle.text.specs.Decimal.{decimal, max_digits}
use Rattle.text.proofs.DecimalLaws.{decimal-length}
use borrow.Author.Tests.{not-true, not-false}
use Rattle.wiring.specs.Parts.{part}
use Rattle.wiring.proofs.PartLaws.{Placed, placed-then, placed-as}
use borrow.Author.Rules.{rules}
use Rattle.wiring.proofs.parts.put.Statement.{statement}
use Rattle.wiring.proofs.parts.put.Tie as tie

returns : tie.Need-returns-then-not-given
unfolding part
returns c =
    let none = not-true c.args.given c.if-not-given.true-raw in
    rw none (refl, (sym (add-zero c.args.at), omega arith))

copy-requires-2 : tie.Need-copy-requires
copy-requires-2 c κs =
    omega (arith, decimal-length c.args.v max_digits (lit≤ tt) (search rules), c.put_decimal-end.ensures.1, c.copy-number.ensures.1, c.requires)

returns-2 : tie.Need-returns
unfolding part
returns-2 c =
    let a = c.args in
    let first : Placed a.out.now a.at _ a.word.now _ = record { bytes = c.copy-number.ensures.0; at-end = c.copy-number.ensures.1 } in
    let number = placed-then first (decimal a.v) c.put_decimal-end.ensures.0 c.put_decimal-end.ensures.1 in
    let all = placed-then number a.ending.now c.copy.ensures.0 c.copy.ensures.1 in
    let whole = placed-as (append_assoc a.word.now (decimal a.v) a.ending.now) all in
    let digits = decimal-length a.v max_digits (lit≤ tt) (search rules) in
    let size : c.copy.result ≤ a.at + (length a.word.now + (max_digits + length a.ending.now))
    = omega (arith, digits, c.put_decimal-end.ensures.1, c.copy-number.ensures.1, c.copy.ensures.1) in
    rw (not-false a.given c.if-not-given.false-raw) (whole.bytes, (whole.at-end, size))

pub put_spec : {M : Type 1} → statement M
put_spec =
    tie.close
    (tie.spec
    returns
    (λ c κs. search rules)
    (λ c κs. search rules)
    copy-requires-2
    returns-2)
