-- A row that is a rack: its cards have sixteen cells, and a number of a card in it has a place.
use Prim.Native.Nat.{ℕ, zero, suc, ◌-◌, ◌<◌}
use mathlib.Core.Path.{◌≡◌, ap}
use mathlib.Core.Bool.{Bool, false, cond}
use mathlib.Core.List.{List, [], ◌∷◌}
use native.Mathlib.Nat.{not-suc-le-zero, le_of_suc-le-suc}
use native.Mathlib.Omega.{arith}
use lib.Dec.{ltb}
use lib.ListN.{length, get_or}
use borrow.Author.Tests.{ltb-false}
use Rattle.words.proofs.Bools.{or_left, or_right}
use Rattle.card.specs.declared.card.Card.{Card}
use Rattle.card.specs.Address.{cell_count, cell_room, cells_for}
use Rattle.rack.specs.Rack.{is_large, any_large, bad_length, bad_row, bad_number, card_of}

-- a card that has not thirty-two cells
pub small : (c : Card) → is_large c ≡ false → cells_for c.size ≡ cell_count
unfolding cells_for
small c e = ap (λ (b : Bool). cond b cell_room cell_count) e

none-large : (cards : List Card) (i : ℕ) (d : Card) → any_large cards ≡ false → i < length cards → is_large (get_or cards i d) ≡ false
none-large [] i d e h = absurd (not-suc-le-zero h)
none-large (c ∷ cs) zero d e h = or_left (is_large c) (any_large cs) e
none-large (c ∷ cs) (suc i) d e h = none-large cs i d (or_right (is_large c) (any_large cs) e) (le_of_suc-le-suc h)

pub in-range : (cards : List Card) (number : ℕ) → bad_number cards number ≡ false → number - 1 < length cards
in-range cards number e =
    let r = or_right (bad_row cards) _ e in
    let low = ltb-false number 1 (or_left _ _ r) in
    let high = ltb-false (length cards) number (or_right (ltb number 1) _ r) in
    omega (arith, low, high)

pub taken-size : (cards : List Card) (number : ℕ) → bad_number cards number ≡ false → cells_for (card_of cell_count cards number).size ≡ cell_count
taken-size cards number e =
    small (card_of cell_count cards number)
    (none-large cards (number - 1) _ (or_right (bad_length (length cards)) _ (or_left (bad_row cards) _ e)) (in-range cards number e))
