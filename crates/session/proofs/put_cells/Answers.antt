-- `session::put_cells` meets its contract: two words of four digits, or one.
use Prim.Native.Nat.{ℕ, ◌+◌, ◌/◌, ◌%◌, ◌≤◌}
use mathlib.Core.Path.{◌≡◌, sym, ap, ap₂, ◌∙◌}
use mathlib.Core.List.{List, ◌++◌, append_assoc}
use native.Mathlib.Omega.{arith}
use lib.ListN.{length, length-append}
use lib.Seq.{sets}
use borrow.Author.Tests.{eq-eqb, ne_eqb}
use Rattle.text.specs.Hex.{hex_digits, hex4}
use Rattle.text.proofs.HexLaws.{hex-length}
use Rattle.text.proofs.Stores.{sets-append}
use Rattle.card.specs.Address.{cell_room, cells_for}
use Rattle.session.specs.Session.{cell_digits}
use Rattle.session.proofs.Chains.{four_low, eight}
use Rattle.session.proofs.put_cells.Goals as goal

-- the digits of a card of a size
large_is : (size w : ℕ) → size ≡ cell_room → cell_digits (cells_for size) w ≡ hex_digits 8 w
unfolding cell_digits cells_for
large_is size w e = rw (eq-eqb size cell_room e)

small_is : (size w : ℕ) → (size ≡ cell_room → ⊥) → cell_digits (cells_for size) w ≡ hex4 w
unfolding cell_digits cells_for
small_is size w e = rw (ne_eqb size cell_room e)

-- stored in two goes
module _ (out byte : List ℕ) (at w size : ℕ) (one : length byte ≡ 1) where
  abbrev Post : List ℕ → ℕ → Type 0
  Post last r = ((last ≡ sets out at (cell_digits (cells_for size) w ++ byte)) × (r ≡ at + length (cell_digits (cells_for size) w ++ byte))) × (r ≤ at + 9)

  large : size ≡ cell_room → (mid last : List ℕ) (next r : ℕ) → mid ≡ sets out at (hex4 (w / 65536)) → next ≡ at + 4
      → last ≡ sets mid next (hex4 (w % 65536) ++ byte) → r ≡ next + 5 → Post last r
  large e mid last next r em en el er =
      let hi = hex4 (w / 65536) in
      let lo = hex4 (w % 65536) in
      let digits = sym (append_assoc hi lo byte) ∙ ap (λ (l : List ℕ). l ++ byte) (eight w ∙ sym (large_is size w e)) in
      let place = en ∙ ap (λ (k : ℕ). at + k) (sym (hex-length 4 (w / 65536))) in
      let stored = el ∙ ap₂ (λ (b : List ℕ) (k : ℕ). sets b k (lo ++ byte)) em place ∙ sets-append out at hi (lo ++ byte) in
      let long = length-append (cell_digits (cells_for size) w) byte in
      let eights = ap length (large_is size w e) ∙ hex-length 8 w in
      ((stored ∙ ap (sets out at) digits, omega (arith, long, eights, er, en, one)), omega (arith, er, en))

  small : (size ≡ cell_room → ⊥) → (last : List ℕ) (r : ℕ) → last ≡ sets out at (hex4 (w % 65536) ++ byte) → r ≡ at + 5 → Post last r
  small e last r el er =
      let digits = ap (λ (l : List ℕ). l ++ byte) (four_low w ∙ sym (small_is size w e)) in
      let long = length-append (cell_digits (cells_for size) w) byte in
      let fours = ap length (small_is size w e) ∙ hex-length 4 w in
      ((el ∙ ap (sets out at) digits, omega (arith, long, fours, er, one)), omega (arith, er))

pub returns-then-size-eq-LARGE : goal.returns-then-size-eq-LARGE
returns-then-size-eq-LARGE c =
    let a = c.args in
    let put = c.put_word in
    let s = large a.out.now a.byte.now a.at a.w a.size c.requires.byte_len c.if-size-eq-LARGE.true _ _ c.put_hex4-next.result put.result
    c.put_hex4-next.ensures.out_after c.put_hex4-next.ensures.value put.ensures.0 put.ensures.1 in
    record { out_after = s.0; upper_bound = s.1 }

pub returns : goal.returns
returns c =
    let a = c.args in
    let put = c.put_word-2 in
    let s = small a.out.now a.byte.now a.at a.w a.size c.requires.byte_len c.if-size-eq-LARGE.false _ put.result put.ensures.0 put.ensures.1 in
    record { out_after = s.0; upper_bound = s.1 }
