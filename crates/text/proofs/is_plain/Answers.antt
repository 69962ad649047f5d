-- `text::is_plain` meets its contract: the cases of its match are those of the form.
use mathlib.Core.Path.{sym}
use native.Mathlib.Omega.{arith}
use Rattle.text.proofs.DecimalLaws.{plain-short, plain-long, plain-between}
use Rattle.text.proofs.is_plain.Goals as goal

pub returns-in-0 : goal.returns-in-0
returns-in-0 c = rw (plain-short c.args.digits.now (omega arith), c.in-0.is)

pub returns-in-1 : goal.returns-in-1
returns-in-1 c = rw (plain-short c.args.digits.now (omega arith), c.in-1.is)

pub returns-in-2-to-10 : goal.returns-in-2-to-10
returns-in-2-to-10 c = sym (plain-between c.args.digits.now (omega arith) (omega arith))

pub returns-in_default : goal.returns-in_default
returns-in_default c = sym (plain-long c.args.digits.now (omega arith))
