-- `saved::record::width_of` meets its contract: on either side of the test.
use Prim.Native.Nat.{ℕ}
use mathlib.Core.Path.{◌≡◌, refl, sym, ap, ◌∙◌}
use mathlib.Core.Bool.{Bool, true, false, not, ◌&&◌, cond}
use native.Mathlib.Omega.{arith}
use lib.Dec.{eqb, leb}
use Rattle.card.specs.Address.{cell_count, cell_room, cells_for}
use Rattle.saved.specs.Record.{narrow_width, config_width, record_length}
use Rattle.saved.proofs.record.width_of.Goals as goal

-- the length shows the old form only on a small card
told : (size len : ℕ) → let n = cells_for size in
    cond (leb n cell_count && eqb len (record_length n narrow_width)) narrow_width config_width
    ≡ cond (not (eqb size cell_room) && eqb len (record_length cell_count narrow_width)) narrow_width config_width
unfolding cells_for
told size len = go (eqb size cell_room)
  where
    go : (b : Bool) → let n = cond b cell_room cell_count in
        cond (leb n cell_count && eqb len (record_length n narrow_width)) narrow_width config_width
        ≡ cond (not b && eqb len (record_length cell_count narrow_width)) narrow_width config_width
    go true = refl
    go false = refl

pub returns-then-size-bytes : goal.returns-then-size-bytes
returns-then-size-bytes c = record {
  value = sym (told _ _ ∙ ap (λ (b : Bool). cond b narrow_width config_width) c.if-size-bytes.true);
  upper_bound = omega arith;
}

pub returns-else-size-bytes : goal.returns-else-size-bytes
returns-else-size-bytes c = record {
  value = sym (told _ _ ∙ ap (λ (b : Bool). cond b narrow_width config_width) c.if-size-bytes.false);
  upper_bound = omega arith;
}
