-- Laws of the printed rows: a row written field by field, and the rows of the first addresses.
use Prim.Native.Nat.{ℕ, ◌+◌, ◌*◌, ◌≤◌, ◌<◌}
use mathlib.Core.Path.{◌≡◌, refl, sym, ap, ◌∙◌}
use mathlib.Core.Bool.{Bool, true, false}
use mathlib.Core.List.{List, ◌++◌}
use native.Mathlib.Nat.{add-mul}
use native.Mathlib.Numerals.{add-one}
use native.Mathlib.Omega.{arith}
use lib.ListN.{length}
use lib.Seq.{sets}
use mir.Val.{bool_byte}
use Rattle.text.proofs.Stores.{Placed, placed-then, placed-as}
use Rattle.words.specs.Bits.{bit_number}
use Rattle.card.specs.declared.chart.Entry.{Entry}
use Rattle.card.specs.Address.{address_count}
use Rattle.card.specs.Chart.{entry_of}
use Rattle.plchart.specs.Rows.{blank, line_feed, field_text, row_text, rows_below, row_most}

-- a bit that the code casts
digit : (b : Bool) → bool_byte b ≡ bit_number b
digit true = refl
digit false = refl

pub row-bits : (a : ℕ) (e : Entry)
    → field_text a blank
    ++ (field_text e.base blank
    ++ (field_text (bool_byte e.inverted) blank ++ (field_text (bool_byte e.edge) blank ++ field_text (bool_byte e.permitted) line_feed)))
    ≡ row_text a e
unfolding row_text
row-bits a e = rw (digit e.inverted, digit e.edge, digit e.permitted)

-- after a addresses: their rows are written from the front on, with room for the others
pub record Written (n : ℕ) (out₀ out : List ℕ) (at a : ℕ) : Type 0 where
  pub turns : a ≤ address_count
  pub placed : Placed out₀ 0 out (rows_below n a) at
  pub within : at ≤ a * row_most

module _ {n : ℕ} {out₀ : List ℕ} where
  pub written_none : Written n out₀ out₀ 0 0
  unfolding rows_below
  written_none = record { turns = omega arith; placed = record { bytes = refl; at-end = refl }; within = omega arith }

  pub written_next : {out after : List ℕ} {at end a : ℕ} (e : Entry) → Written n out₀ out at a → a < address_count → e ≡ entry_of n a
      → after ≡ sets out at (row_text a e) → end ≡ at + length (row_text a e) → end ≤ at + row_most → Written n out₀ after end (a + 1)
  unfolding rows_below
  written_next {a = a} e w below known stored next most =
      let row : rows_below n a ++ row_text a e ≡ rows_below n (a + 1)
      = ap (λ (e : Entry). rows_below n a ++ row_text a e) known ∙ ap (rows_below n) (sym (add-one a)) in
      record {
        turns = omega arith;
        placed = placed-as row (placed-then w.placed (row_text a e) stored next);
        within = omega (arith, w.within, add-mul a 1 row_most);
      }
