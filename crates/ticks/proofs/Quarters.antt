-- Reading goes by the chart: what an address reads is what its entry says, and the arithmetic by
-- which the code reads words, quarter and base, gives the entry's own.
use Prim.Native.Nat.{ℕ, ◌+◌, ◌*◌, ◌/◌, ◌≤◌, ◌<◌}
use mathlib.Core.Path.{◌≡◌, refl, sym, ap, ap₂, ◌∙◌}
use mathlib.Core.Bool.{Bool, true, false, ◌||◌, cond}
use mathlib.Core.List.{List}
use mathlib.Core.Logic.{◌⊎◌, inl, inr}
use native.Mathlib.Decide.{dec_lt}
use native.Mathlib.Omega.{arith}
use lib.Dec.{eqb}
use lib.ListN.{get_or}
use borrow.Author.Tests.{le-leb, lt-leb}
use Rattle.words.specs.Bits.{bit_at, bit_number}
use Rattle.cells.specs.Reading.{read_from}
use Rattle.card.specs.declared.chart.Entry.{Entry}
use Rattle.card.specs.Address.{address_count, edge_address, is_inverted, is_edge}
use Rattle.card.specs.Chart.{entry_of}
use Rattle.card.proofs.Places.{among_in, among_below, among-above}
use Rattle.ticks.specs.Reading.{reads_levels, reads}

-- an address of quarter q
abbrev pub Quarter : (a q : ℕ) (inverted edge : Bool) → Type 0
Quarter a q inverted edge = (a / 64 ≡ q) × (is_inverted a ≡ inverted) × (is_edge a ≡ edge)

-- 0-63, 64-127, 128-191 or 192-255
abbrev pub InQuarter : ℕ → Type 0
InQuarter a = Quarter a 0 false false ⊎ (Quarter a 1 true false ⊎ (Quarter a 2 false true ⊎ Quarter a 3 true true))

pub in-quarter : (a : ℕ) → a < address_count → InQuarter a
in-quarter a h = level (dec_lt a 64)
  where
    fall : Dec (a < 192) → 128 ≤ a → InQuarter a
    fall (yes k) g =
        inr (inr (inl (omega arith, ap₂ ◌||◌ (among-above 64 64 a g) (among_below 192 64 a k), le-leb edge_address a g)))
    fall (no k) g =
        inr (inr (inr (omega arith, ap₂ ◌||◌ (among-above 64 64 a g) (among_in 192 64 a (omega arith) h), le-leb edge_address a g)))

    inverse : Dec (a < 128) → 64 ≤ a → InQuarter a
    inverse (yes k) g =
        inr (inl (omega arith, ap₂ ◌||◌ (among_in 64 64 a g k) (among_below 192 64 a (omega arith)), lt-leb edge_address a k))
    inverse (no k) g = fall (dec_lt a 192) (omega arith)

    level : Dec (a < 64) → InQuarter a
    level (yes k) =
        inl (omega arith, ap₂ ◌||◌ (among_below 64 64 a k) (among_below 192 64 a (omega arith)), lt-leb edge_address a (omega arith))
    level (no k) = inverse (dec_lt a 128) (omega arith)

-- the quarter of an entry
abbrev pub quarter_of : Entry → ℕ
quarter_of e = 2 * bit_number e.edge + bit_number e.inverted

-- the arithmetic gives it
pub quarter-entry : (n a : ℕ) → a < address_count → a / 64 ≡ quarter_of (entry_of n a)
quarter-entry n a h = go (in-quarter a h)
  where
    at : (q : ℕ) (inverted edge : Bool) → Quarter a q inverted edge → q ≡ 2 * bit_number edge + bit_number inverted → a / 64 ≡ quarter_of (entry_of n a)
    at q inverted edge e same = e.0 ∙ same ∙ sym (ap₂ (λ (i d : Bool). 2 * bit_number d + bit_number i) e.1 e.2)

    go : InQuarter a → a / 64 ≡ quarter_of (entry_of n a)
    go (inl e) = at 0 false false e refl
    go (inr (inl e)) = at 1 true false e refl
    go (inr (inr (inl e))) = at 2 false true e refl
    go (inr (inr (inr e))) = at 3 true true e refl

-- so an address is read from the word of its entry's quarter, at its entry's base
pub read-entry : (n : ℕ) (q : List ℕ) (a : ℕ) → a < address_count → read_from q a ≡ bit_at (get_or q (quarter_of (entry_of n a)) 0) (entry_of n a).base
unfolding read_from
read-entry n q a h = ap (λ (k : ℕ). bit_at (get_or q k 0) (entry_of n a).base) (quarter-entry n a h)

-- and what it reads goes by its entry: at its base, by inverted and edge
pub reads-entry : (n : ℕ) (now before : ℕ → Bool) (a : ℕ)
    → (let e = entry_of n a in reads now before a ≡ cond (eqb a 192) true (reads_levels e.inverted e.edge (now e.base) (before e.base)))
unfolding reads
reads-entry n now before a = refl
