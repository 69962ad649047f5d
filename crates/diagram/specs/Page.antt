-- The limits of the picture.
use Rattle.std.specs.Prelude.{ℕ, ◌+◌, ◌≤◌}
use Rattle.diagram.specs.declared.places.Strip.{Strip}

-- the ticks that are kept, and those that are side by side
abbrev pub kept_ticks : ℕ
kept_ticks = 300

abbrev pub columns : ℕ
columns = 60

-- the rows that there can be: sixteen connectors as inputs, thirty-two cells, sixteen connectors as outputs
abbrev pub most_rows : ℕ
most_rows = 64

-- no strip is higher
abbrev pub highest_strip : ℕ
highest_strip = 1500

-- a strip of kept ticks that has room side by side
abbrev pub Fits : Strip → Type 0
Fits s = (s.start ≤ s.end) × ((s.end ≤ kept_ticks) × (s.end ≤ s.start + columns))
