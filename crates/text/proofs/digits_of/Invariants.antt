-- `text::digits_of` meets its contract. The invariant: what was passed are the first digits.
use mathlib.Core.Path.{◌≡◌}
use mathlib.Core.List.{◌++◌}
use lib.ListN.{take, drop}
use Rattle.text.specs.Decimal.{digits_of}
use Rattle.text.proofs.digits_of.Given as goal

abbrev pub invariant-loop-i : goal.invariant-loop-i
invariant-loop-i l = digits_of l.text ≡ take l.i l.text ++ digits_of (drop l.i l.text)
