-- Laws of the table by cell type: a test that holds of every row, columns that follow from others,
-- and the row of a number past the table.
use Prim.Native.Nat.{ℕ, zero, suc, ◌≤◌, ◌<◌}
use mathlib.Core.Path.{◌≡◌, refl, ◌∙◌}
use mathlib.Core.Bool.{Bool, true, false, ◌&&◌, cond}
use mathlib.Core.List.{List, [], ◌∷◌}
use native.Mathlib.Omega.{arith}
use lib.Dec.{eqb, ltb}
use borrow.Author.Tests.{ltb-true, ne_eqb}
use Rattle.words.proofs.Bools.{and_left, and_right}
use Rattle.cells.specs.declared.table.Row.{Row}
use Rattle.cells.specs.declared.table.Class.{Class}
use Rattle.cells.specs.Table.{ChartLine, chart, kept_by, row_as, row_among, row_in, row_of, no_row, type_count}

-- a test passes at each row that the lines give, and at the row of a number past the table
abbrev all_among : (Row → Bool) → ChartLine → List (ℕ × Class) → Bool
all_among P l [] = true
all_among P l (t ∷ ts) = P (row_as l t.1) && all_among P l ts

abbrev pub all_rows : (Row → Bool) → List ChartLine → Bool
all_rows P [] = P no_row
all_rows P (l ∷ ls) = all_among P l l.types && all_rows P ls

either : (P : Row → Type 0) (b : Bool) (v w : Row) → P v → P w → P (cond b v w)
either P true v w p q = p
either P false v w p q = q

among-all : (P : Row → Bool) (n : ℕ) (l : ChartLine) (ts : List (ℕ × Class)) (other : Row)
    → all_among P l ts ≡ true → P other ≡ true → P (row_among n l ts other) ≡ true
among-all P n l [] other a o = o
among-all P n l (t ∷ ts) other a o =
    let here = and_left (P (row_as l t.1)) (all_among P l ts) a in
    let rest = and_right (P (row_as l t.1)) (all_among P l ts) a in
    either (λ (w : Row). P w ≡ true) (eqb n t.0) (row_as l t.1) (row_among n l ts other) here (among-all P n l ts other rest o)

in_all : (P : Row → Bool) (n : ℕ) (ls : List ChartLine) → all_rows P ls ≡ true → P (row_in n ls) ≡ true
in_all P n [] a = a
in_all P n (l ∷ ls) a =
    among-all P n l l.types (row_in n ls) (and_left (all_among P l l.types) (all_rows P ls) a)
    (in_all P n ls (and_right (all_among P l l.types) (all_rows P ls) a))

-- the rule at each entry, from the test over the whole table
pub every-row : (P : Row → Bool) → all_rows P chart ≡ true → (n : ℕ) → P (row_of n) ≡ true
unfolding row_of
every-row P a n = in_all P n chart a

-- a type keeps what its class keeps
Keeps : Row → Type 0
Keeps w = w.kept ≡ kept_by w.class

among-keeps : (n : ℕ) (l : ChartLine) (ts : List (ℕ × Class)) (other : Row) → Keeps other → Keeps (row_among n l ts other)
unfolding Keeps
among-keeps n l [] other o = o
among-keeps n l (t ∷ ts) other o = either Keeps (eqb n t.0) (row_as l t.1) (row_among n l ts other) refl (among-keeps n l ts other o)

in-keeps : (n : ℕ) (ls : List ChartLine) → Keeps (row_in n ls)
unfolding Keeps
in-keeps n [] = refl
in-keeps n (l ∷ ls) = among-keeps n l l.types (row_in n ls) (in-keeps n ls)

pub row_keeps : (n : ℕ) → (row_of n).kept ≡ kept_by (row_of n).class
unfolding row_of Keeps
row_keeps n = in-keeps n chart

-- the lines name no type from m on
below_all : ℕ → List (ℕ × Class) → Bool
below_all m [] = true
below_all m (t ∷ ts) = ltb t.0 m && below_all m ts

below_lines : ℕ → List ChartLine → Bool
below_lines m [] = true
below_lines m (l ∷ ls) = below_all m l.types && below_lines m ls

past-among : (m n : ℕ) (l : ChartLine) (ts : List (ℕ × Class)) (other : Row) → below_all m ts ≡ true → m ≤ n → row_among n l ts other ≡ other
unfolding below_all
past-among m n l [] other a h = refl
past-among m n l (t ∷ ts) other a h =
    let below : t.0 < m = ltb-true t.0 m (and_left (ltb t.0 m) (below_all m ts) a) in
    let miss : n ≡ t.0 → ⊥ = omega arith in
    rw (ne_eqb n t.0 miss) (past-among m n l ts other (and_right (ltb t.0 m) (below_all m ts) a) h)

past-lines : (m n : ℕ) (ls : List ChartLine) → below_lines m ls ≡ true → m ≤ n → row_in n ls ≡ no_row
unfolding below_lines
past-lines m n [] a h = refl
past-lines m n (l ∷ ls) a h =
    past-among m n l l.types (row_in n ls) (and_left (below_all m l.types) (below_lines m ls) a) h
    ∙ past-lines m n ls (and_right (below_all m l.types) (below_lines m ls) a) h

-- a number past the table has the row that does nothing
pub past-table : (n : ℕ) → type_count ≤ n → row_of n ≡ no_row
unfolding row_of below_all below_lines
past-table n h = past-lines type_count n chart refl h

-- what the last arm of a match by type says: the number is none of the first k
abbrev pub Missed : ℕ → ℕ → Type 0
Missed n zero = Unit {0}
Missed n (suc k) = Missed n k × (n ≡ k → ⊥)

pub missed : (n k : ℕ) → Missed n k → k ≤ n
missed n zero m = omega arith
missed n (suc k) m =
    let h : k ≤ n = missed n k m.0 in
    let other : n ≡ k → ⊥ = m.1 in
    omega arith

-- so with all types named before it, it is past the table
pub past-types : (n : ℕ) → Missed n type_count → row_of n ≡ no_row
past-types n m = past-table n (missed n type_count m)
