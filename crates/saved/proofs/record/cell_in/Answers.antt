-- `saved::record::cell_in` meets its contract: each byte is read at its place, and the configuration from as many as the form says.
use Prim.Native.Nat.{◌+◌, ◌*◌, ◌≤◌, ◌<◌}
use native.Mathlib.Omega.{arith}
use lib.ListN.{length}
use Rattle.saved.specs.Record.{trigger_length, cell_length, cell_in}
use Rattle.saved.proofs.Forms.{cell-inside}
use borrow.Author.Rules.{rules}
use Rattle.saved.proofs.record.cell_in.Goals as goal
use Rattle.saved.proofs.record.cell_in.Goals.{Start}

-- the field lies before those of the connectors
inside : (s : Start) → let a = s.args in
    trigger_length + a.i * cell_length a.width + cell_length a.width ≤ length a.bytes.now
inside s =
    let a = s.args in
    let h : a.i < a.i + 1 = omega arith in
    omega (arith, cell-inside (a.i + 1) a.width a.i h, s.requires.width_in_bounds)

pub overflow_mul-at : goal.overflow_mul-at
overflow_mul-at c = omega (arith, inside (goal.at.overflow_mul-at c).Start)

pub overflow_add-at-2 : goal.overflow_add-at-2
overflow_add-at-2 c = omega (arith, inside (goal.at.overflow_add-at-2 c).Start)

pub overflow_add-slots-2 : goal.overflow_add-slots-2
overflow_add-slots-2 c = omega (arith, inside (goal.at.overflow_add-slots-2 c).Start)

pub bounds-bytes-at : goal.bounds-bytes-at
bounds-bytes-at c = omega (arith, inside (goal.at.bounds-bytes-at c).Start)

pub overflow_add-slots-4 : goal.overflow_add-slots-4
overflow_add-slots-4 c = omega (arith, inside (goal.at.overflow_add-slots-4 c).Start)

pub bounds-bytes-at-2 : goal.bounds-bytes-at-2
bounds-bytes-at-2 c = omega (arith, inside (goal.at.bounds-bytes-at-2 c).Start)

pub overflow_add-slots-6 : goal.overflow_add-slots-6
overflow_add-slots-6 c = omega (arith, inside (goal.at.overflow_add-slots-6 c).Start)

pub bounds-bytes-at-3 : goal.bounds-bytes-at-3
bounds-bytes-at-3 c = omega (arith, inside (goal.at.bounds-bytes-at-3 c).Start)

pub overflow_add-slots-8 : goal.overflow_add-slots-8
overflow_add-slots-8 c = omega (arith, inside (goal.at.overflow_add-slots-8 c).Start)

pub bounds-bytes-at-4 : goal.bounds-bytes-at-4
bounds-bytes-at-4 c = omega (arith, inside (goal.at.bounds-bytes-at-4 c).Start)

pub overflow_add-result : goal.overflow_add-result
overflow_add-result c = omega (arith, inside (goal.at.overflow_add-result c).Start)

pub bounds-bytes-at-5 : goal.bounds-bytes-at-5
bounds-bytes-at-5 c = omega (arith, inside (goal.at.bounds-bytes-at-5 c).Start)

pub overflow_add-at-3 : goal.overflow_add-at-3
overflow_add-at-3 c = omega (arith, inside (goal.at.overflow_add-at-3 c).Start)

pub config_in-requires : goal.config_in-requires
config_in-requires c = record {
  width_in_bounds = omega (arith, inside (goal.at.config_in-requires c).Start);
  width_le_config_width = search rules;
}

pub returns : goal.returns
unfolding cell_in
returns c = rw c.config_in.ensures
