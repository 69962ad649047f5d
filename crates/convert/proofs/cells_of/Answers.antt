-- `convert::cells_of` meets its contract: on either side of the test.
use native.Mathlib.Omega.{arith}
use borrow.Author.Tests.{eq-eqb, ne_eqb}
use Rattle.convert.specs.Convert.{large_length}
use Rattle.convert.proofs.cells_of.Goals as goal

pub returns-then-bytes-eq-LARGE_LENGTH : goal.returns-then-bytes-eq-LARGE_LENGTH
returns-then-bytes-eq-LARGE_LENGTH c = record {
  value = rw (eq-eqb _ large_length c.if-bytes-eq-LARGE_LENGTH.true);
  lower_bound = omega arith;
  upper_bound = omega arith;
}

pub returns-else-bytes-eq-LARGE_LENGTH : goal.returns-else-bytes-eq-LARGE_LENGTH
returns-else-bytes-eq-LARGE_LENGTH c = record {
  value = rw (ne_eqb _ large_length c.if-bytes-eq-LARGE_LENGTH.false);
  lower_bound = omega arith;
  upper_bound = omega arith;
}
