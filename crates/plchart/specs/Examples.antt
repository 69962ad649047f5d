-- Rows of the printed chart, and how long it is, by computation.
use Rattle.std.specs.Prelude.{ℕ, ◌≡◌, refl, List, [], ◌∷◌, ◌++◌, map, length}
use Rattle.text.specs.Decimal.{decimal_from, decimal}
use Rattle.text.specs.Written.{bytes_of}
use Rattle.card.specs.Address.{cell_count, permitted_base}
use Rattle.card.specs.Chart.{entry_of}
use Rattle.plchart.specs.Rows.{line_feed, field_text, row_text, rows_below, chart_text}

row : ℕ → List ℕ
row a = row_text a (entry_of cell_count a)

-- a row, then LF
abbrev rows : List (List ℕ × List ℕ)
rows =
    (rows_below cell_count 2, bytes_of "0 0 0 0 1" ++ (line_feed ∷ bytes_of "1 1 0 0 1") ++ (line_feed ∷ []))
    ∷ (row 17, bytes_of "17 17 0 0 0" ++ (line_feed ∷ []))
    ∷ (row 64, bytes_of "64 0 1 0 1" ++ (line_feed ∷ []))
    ∷ (row 128, bytes_of "128 0 0 1 1" ++ (line_feed ∷ []))
    ∷ (row 192, bytes_of "192 0 1 1 1" ++ (line_feed ∷ []))
    ∷ (row 255, bytes_of "255 63 1 1 0" ++ (line_feed ∷ []))
    ∷ []

row-table : map (λ (e : List ℕ × List ℕ). e.0) rows ≡ map (λ (e : List ℕ × List ℕ). e.1) rows
unfolding row decimal_from decimal permitted_base field_text row_text rows_below
row-table = refl

-- 256 rows
chart-length : length (chart_text cell_count) ≡ 3178
unfolding decimal_from decimal permitted_base field_text row_text rows_below
chart-length = refl
