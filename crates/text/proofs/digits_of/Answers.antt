-- `text::digits_of` meets its contract, by what one byte more says of the digits.
use mathlib.Core.Path.{sym, ◌∙◌}
use mathlib.Core.List.{append-nil, append_assoc}
use native.Mathlib.Omega.{arith}
use borrow.Author.Tests.{not-true, not-false}
use lib.Seq.{take_all}
use Rattle.std.proofs.lemmas.List.{take_more}
use Rattle.text.proofs.DecimalLaws.{digits-next, digits-end, digits-past}
use Rattle.text.proofs.digits_of.Goals as goal

pub returns-then-not-is_digit : goal.returns-then-not-is_digit
returns-then-not-is_digit c =
    let t = c.args.text.now in
    let e = sym c.is_digit.ensures ∙ not-true c.is_digit.result c.if-not-is_digit.true-raw in
    rw (c.loop-i.invariant, digits-end t c.loop-i.i (omega arith) e, append-nil)

pub loop-i-preserved : goal.loop-i-preserved
loop-i-preserved c =
    let t = c.args.text.now in
    let e = sym c.is_digit.ensures ∙ not-false c.is_digit.result c.if-not-is_digit.false-raw in
    rw (c.loop-i.invariant, digits-next t c.loop-i.i (omega arith) e, take_more t c.loop-i.i 0 (omega arith), append_assoc)

pub returns : goal.returns
returns c = rw (c.loop-i.invariant, digits-past c.args.text.now c.loop-i.i (omega arith), append-nil) (sym (take_all c.loop-i.i c.args.text.now (omega arith)))
