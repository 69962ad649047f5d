-- Document 02, "The address chart": what it says of each address, and how the code's table holds
-- it.
use Rattle.std.specs.Prelude.{◌≡◌, ℕ, ◌/◌, ◌^◌, List, slice_index}
use Rattle.words.specs.Bits.{bit_at}
use Rattle.words.specs.Listed.{listed}
use Rattle.card.specs.declared.chart.Entry.{Entry}
use Rattle.card.specs.Address.{cell_count, address_count, base_of, is_inverted, is_edge, permitted_base}

-- the entry of an address on a card of n cells: "its base, inverted 0 or 1, edge 0 or 1, permitted
-- 0 or 1"; "permitted is 1 unless the base is reserved"
abbrev pub entry_of : (n a : ℕ) → Entry
entry_of n a = record { base = base_of a; inverted = is_inverted a; edge = is_edge a; permitted = permitted_base n (base_of a) }

-- "a chart of all 256 addresses", "rows run from 0 to 255"
unfoldable pub chart : ℕ → List Entry
chart n = listed (entry_of n) address_count

-- a word of the code's table, by bytes from the high end: base, inverted, edge, permitted
unfoldable pub entry_in : ℕ → Entry
entry_in w = record { base = w / 2 ^ 24; inverted = bit_at w 16; edge = bit_at w 8; permitted = bit_at w 0 }

-- "That every row follows the address rules is shown for the chart as a body": the code's table is
-- the chart of its cells
unfoldable pub Charted : List ℕ → Type 0
Charted words = listed (λ a. entry_in (slice_index words a)) address_count ≡ chart cell_count
