-- Document 02, "The address chart": what the program prints, over the chart's entries.
use Rattle.std.specs.Prelude.{ℕ, zero, suc, ◌+◌, ◌*◌, List, [], ◌∷◌, ◌++◌}
use Rattle.text.specs.Decimal.{decimal, max_digits}
use Rattle.words.specs.Bits.{bit_number}
use Rattle.card.specs.declared.chart.Entry.{Entry}
use Rattle.card.specs.Address.{address_count}
use Rattle.card.specs.Chart.{entry_of}

-- the byte between fields and the one that ends a row
abbrev pub blank : ℕ
blank = 32

abbrev pub line_feed : ℕ
line_feed = 10

-- a number, and what follows it
unfoldable pub field_text : ℕ → ℕ → List ℕ
field_text v mark = decimal v ++ (mark ∷ [])

-- "the address, its base, inverted 0 or 1, edge 0 or 1, permitted 0 or 1, separated by one blank",
-- "and each ends LF"
unfoldable pub row_text : ℕ → Entry → List ℕ
row_text a e =
    field_text a blank
    ++ (field_text e.base blank
    ++ (field_text (bit_number e.inverted) blank ++ (field_text (bit_number e.edge) blank ++ field_text (bit_number e.permitted) line_feed)))

-- the rows of the addresses below k, on a card of n cells
unfoldable pub rows_below : ℕ → ℕ → List ℕ
rows_below n zero = []
rows_below n (suc a) = rows_below n a ++ row_text a (entry_of n a)

-- "rows run from 0 to 255"
abbrev pub chart_text : ℕ → List ℕ
chart_text n = rows_below n address_count

-- the most bytes of a field, of a row and of all rows
abbrev pub field_most : ℕ
field_most = max_digits + 1

abbrev pub row_most : ℕ
row_most = 5 * field_most

abbrev pub text_most : ℕ
text_most = address_count * row_most
