-- `convert::other_form` meets its contract: on either side of the test.
use native.Mathlib.Omega.{arith}
use borrow.Author.Tests.{eq-eqb, ne_eqb}
use Rattle.card.specs.Address.{cell_count}
use Rattle.saved.specs.Record.{narrow_width, record_length}
use Rattle.convert.proofs.other_form.Goals as goal

pub returns-then-bytes-eq-NARROW_LENGTH : goal.returns-then-bytes-eq-NARROW_LENGTH
returns-then-bytes-eq-NARROW_LENGTH c =
    let narrow = eq-eqb _ (record_length cell_count narrow_width) c.if-bytes-eq-NARROW_LENGTH.true in record {
      width_value = rw narrow;
      width_le_config_width = omega arith;
      len_value = rw narrow;
    }

pub returns-else-bytes-eq-NARROW_LENGTH : goal.returns-else-bytes-eq-NARROW_LENGTH
returns-else-bytes-eq-NARROW_LENGTH c =
    let wide = ne_eqb _ (record_length cell_count narrow_width) c.if-bytes-eq-NARROW_LENGTH.false in record {
      width_value = rw wide;
      width_le_config_width = omega arith;
      len_value = rw wide;
    }
