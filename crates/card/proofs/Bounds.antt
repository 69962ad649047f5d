-- How large a number is that a row of "When the card says no" lets pass: what the layers above go by, in place of the tests themselves.
use Rattle.std.proofs.Common.{◌≡◌, ℕ, ◌+◌, ◌<◌, ◌≤◌, Bool, true, false, ◌||◌, sym, refl, arith, ltb-false, leb-false}
use mathlib.Core.Bool.{false≢true}
use borrow.Author.Tests.{not-false}
use Rattle.cells.specs.Table.{type_count}
use Rattle.card.specs.Address.{cell_room, first_cell, first_connector, connector_count, among}
use Rattle.card.specs.Connectors.{push_pull_type}
use Rattle.card.specs.Valid.{largest_clock, bad_place, bad_cell_type, bad_connector_type, bad_clock}
use Rattle.card.proofs.Places.{among-bounds}

place-cases : (n v : ℕ) (a b : Bool) → n ≤ cell_room → a ≡ among first_cell n v → b ≡ among first_connector connector_count v → (a || b) ≡ true
    → v < first_connector + connector_count
place-cases n v true b room ea eb h = let g = among-bounds first_cell n v (sym ea) in omega arith
place-cases n v false true room ea eb h = let g = among-bounds first_connector connector_count v (sym eb) in omega arith
place-cases n v false false room ea eb h = absurd (false≢true h)

-- a place comes before the end of the connectors
pub place-most : (n v : ℕ) → n ≤ cell_room → bad_place n v ≡ false → v < first_connector + connector_count
unfolding bad_place
place-most n v room h = place-cases n v _ _ room refl refl (not-false _ h)

-- a clock code, a cell's type, a connector's type
pub clock-most : (v : ℕ) → bad_clock v ≡ false → v ≤ largest_clock
unfolding bad_clock
clock-most v h = ltb-false largest_clock v h

pub kind-most : (v : ℕ) → bad_cell_type v ≡ false → v < type_count
unfolding bad_cell_type
kind-most v h = leb-false type_count v h

pub connector-kind-most : (v : ℕ) → bad_connector_type v ≡ false → v ≤ push_pull_type
unfolding bad_connector_type
connector-kind-most v h = ltb-false push_pull_type v h
