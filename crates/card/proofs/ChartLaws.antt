-- Laws of the chart: the rule at each entry, from the test over the whole table, and the refusal of an address by its entry.
use Rattle.std.proofs.Common.{◌≡◌, ℕ, ◌<◌, Bool, true, false, cond, not, ◌&&◌, ◌||◌, eqb, ltb, leb, List, get_or, refl, ap, ◌∙◌, arith, le-ltb}
use mathlib.Core.Bool.{or-false}
use Rattle.words.specs.Listed.{listed}
use Rattle.card.specs.Address.{cell_count, cell_room, cells_for, address_count, permitted_base}
use Rattle.card.specs.Chart.{entry_of, chart, entry_in, Charted}
use Rattle.card.specs.Valid.{largest_address, bad_address}
use Rattle.card.proofs.PresetRows.{listed-agree}

-- each word of the table holds the entry of its address
pub entry_at : (words : List ℕ) → Charted words → (a : ℕ) → a < address_count → entry_in (get_or words a 0) ≡ entry_of cell_count a
unfolding Charted chart
entry_at words test a h = listed-agree (λ a. entry_in (get_or words a 0)) (entry_of cell_count) address_count a test h

-- an address that there is, is refused where its entry is not permitted
pub entry-refused : (n a : ℕ) → a < address_count → bad_address n a ≡ not (entry_of n a).permitted
unfolding bad_address
entry-refused n a h = rw (le-ltb largest_address a (omega arith))

not-not : (b : Bool) → not (not b) ≡ b
not-not true = refl
not-not false = refl

pub entry_allowed : (n a : ℕ) → a < address_count → not (bad_address n a) ≡ (entry_of n a).permitted
entry_allowed n a h = ap not (entry-refused n a h) ∙ not-not (entry_of n a).permitted

-- the bases that only a large card has, permitted beside those of a small one
large-bases : (b : ℕ) → b < 64 → (permitted_base cell_count b || (ltb cell_count b && leb b cell_room)) ≡ permitted_base cell_room b
unfolding listed permitted_base
large-bases b h = listed-agree (λ b. permitted_base cell_count b || (ltb cell_count b && leb b cell_room)) (permitted_base cell_room) 64 b refl h

pub bases-for : (size b : ℕ) → b < 64
    → (permitted_base cell_count b || (eqb size cell_room && (ltb cell_count b && leb b cell_room))) ≡ permitted_base (cells_for size) b
unfolding cells_for
bases-for size b h = go (eqb size cell_room)
  where
    go : (q : Bool) → (permitted_base cell_count b || (q && (ltb cell_count b && leb b cell_room))) ≡ permitted_base (cond q cell_room cell_count) b
    go true = large-bases b h
    go false = or-false (permitted_base cell_count b)
