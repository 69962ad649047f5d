-- `text::is_digit` meets its contract: its range is the definition's two tests.
use mathlib.Core.Bool.{and-false}
use native.Mathlib.Omega.{arith}
use lib.Dec.{leb}
use borrow.Author.Tests.{le-leb, lt-leb}
use Rattle.text.specs.Decimal.{is_digit}
use Rattle.text.proofs.is_digit.Goals as goal

pub returns-in-48-to-57 : goal.returns-in-48-to-57
unfolding is_digit
returns-in-48-to-57 c = rw (le-leb 48 c.args.b (omega arith), le-leb c.args.b 57 (omega arith))

pub returns-in_default : goal.returns-in_default
unfolding is_digit
returns-in_default c = rw (lt-leb 48 c.args.b (omega arith))

pub returns-in_default-2 : goal.returns-in_default-2
unfolding is_digit
returns-in_default-2 c = rw (lt-leb c.args.b 57 (omega arith), and-false (leb 48 c.args.b))
