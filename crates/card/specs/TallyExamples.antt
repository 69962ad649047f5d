-- Document 02, "Wake tallies", by computation: what a tick that ran adds, at the limit and past the
-- card's cells.
use Rattle.std.specs.Prelude.{◌≡◌, ℕ, List, [], ◌∷◌, map, take, refl}
use Rattle.words.specs.Bits.{bit_at}
use Rattle.words.specs.Listed.{listed}
use Rattle.cells.specs.declared.cell.Ticks.{Ticks}
use Rattle.card.specs.declared.tallies.Tallies.{Tallies}
use Rattle.card.specs.Tally.{ticks, no_tallies, counted, tallied_by}

-- this total, and these tallies of cells 1 to 3
handed : (total one two three : ℕ) → Tallies
handed total one two three = record { cells = ticks one ∷ ticks two ∷ ticks three ∷ []; total = ticks total }

-- the total and the first three, after a tick that named the cells of a word, on a card of n cells
after : (n named : ℕ) → Tallies → List ℕ
after n named t =
    let u = tallied_by n (bit_at named) t in
    u.total.0 ∷ map (λ (v : Ticks). v.0) (take 3 u.cells)

-- given, expected
abbrev table : List (List ℕ × List ℕ)
table =
    (after 3 0x5 (handed 7 5 6 7), 8 ∷ 6 ∷ 6 ∷ 8 ∷ [])
    -- the tick that reaches the limit still counts, and a tally at it never counts on
    ∷ (after 3 0x3 (handed 4294967294 5 4294967295 7), 4294967295 ∷ 6 ∷ 4294967295 ∷ 7 ∷ [])
    ∷ (after 3 0x3 (handed 7 4294967294 4294967295 7), 8 ∷ 4294967295 ∷ 4294967295 ∷ 7 ∷ [])
    -- "Once the tick total is 4,294,967,295 all of them stand still"
    ∷ (after 3 0x7 (handed 4294967295 5 4294967294 7), 4294967295 ∷ 5 ∷ 4294967294 ∷ 7 ∷ [])
    -- tallies past the card's cells stay
    ∷ (after 2 0x7 (handed 7 5 6 7), 8 ∷ 6 ∷ 7 ∷ 7 ∷ [])
    -- a card that powers up has counted nothing
    ∷ (after 3 0x0 no_tallies, 1 ∷ 0 ∷ 0 ∷ 0 ∷ [])
    ∷ []

examples : map (λ (e : List ℕ × List ℕ). e.0) table ≡ map (λ (e : List ℕ × List ℕ). e.1) table
unfolding handed after bit_at listed counted tallied_by
examples = refl
