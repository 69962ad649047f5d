-- Document 01, "Cells", and document 02, "Counter cells": the table by cell type.
-- A slot set and the readings of the slots are both `Slots`: one bit for each of X, Y, Z, F.
use Rattle.std.specs.Prelude.{ℕ, Bool, true, false, not, ◌&&◌, ◌||◌, cond, List, [], ◌∷◌, eqb, Option, None, Some}
use Rattle.cells.specs.declared.table.Slots.{Slots}
use Rattle.cells.specs.declared.table.Row.{Row}
use Rattle.cells.specs.declared.table.Class.{Class}
use Rattle.cells.specs.declared.table.Kept.{Kept}
use Rattle.cells.specs.declared.table.Kept.TheVariants.{Stateless, Bit, Count, Counted}
use Rattle.cells.specs.declared.table.Class.TheVariants.{Nothing, Constant, Gate, Flop, OneShot, Delay, Counter}
use Rattle.cells.specs.declared.table.GateKind.TheVariants.{Lookup, And2, Or2, Xor2, And4, Or4}
use Rattle.cells.specs.declared.table.FlopKind.TheVariants.{DFlop, SyncDFlop, ClearDFlop, Jk}
use Rattle.cells.specs.declared.table.CounterKind.TheVariants.{WhileBoth, WhileEither, FromStart, FromStartAtZero}

abbrev pub slots : Bool → Bool → Bool → Bool → Slots
slots x y z f = record { x = x; y = y; z = z; f = f }

-- a line of the table: its types, each with what it does; the slots used; the edge slots; the
-- largest configuration, none where there is none
pub record ChartLine : Type 0 where
  pub types : List (ℕ × Class)
  pub used : Slots
  pub edge : Slots
  pub config : Option ℕ

-- the sets of slots that the table names
abbrev pub no_slot : Slots
no_slot = slots false false false false

abbrev pub XY : Slots
XY = slots true true false false

abbrev pub XYZ : Slots
XYZ = slots true true true false

abbrev pub XYZF : Slots
XYZF = slots true true true true

abbrev pub XYF : Slots
XYF = slots true true false true

abbrev pub only_y : Slots
only_y = slots false true false false

abbrev pub only_z : Slots
only_z = slots false false true false

-- the largest code of a lookup of four slots
abbrev pub largest_code : ℕ
largest_code = 65535

-- document 02, "Long exposures": "Durations and counts of the timer types 8, 9 and 14 to 17 go to
-- 4,294,967,295". No configuration is larger
abbrev pub largest_duration : ℕ
largest_duration = 4294967295

abbrev pub largest_config : ℕ
largest_config = largest_duration

-- document 02, "Constants are 0 or 1": the type of constants, and the largest of them
abbrev pub constant_type : ℕ
constant_type = 0

abbrev pub largest_constant : ℕ
largest_constant = 1

-- a one-shot or a delay takes a trigger while it is busy (retriggerable), or ignores it; specs/Work
-- says when each is busy
abbrev pub retriggerable : Bool
retriggerable = true

abbrev pub not_retriggerable : Bool
not_retriggerable = false

abbrev pub chart_line : List (ℕ × Class) → Slots → Slots → Option ℕ → ChartLine
chart_line types used edge config = record { types = types; used = used; edge = edge; config = config }

-- the table of "Cells", in its order, and the counters: "19 and 20 take A, clock, reset, B with the
-- clock edge-sensitive; 21 and 22 take start, clock, reset, stop with all but reset
-- edge-sensitive"; they have no configuration
abbrev pub chart : List ChartLine
chart =
    chart_line ((constant_type, Constant) ∷ []) no_slot no_slot (Some largest_constant)
    ∷ chart_line ((1, Flop DFlop) ∷ (12, Flop SyncDFlop) ∷ []) XYZF only_y None
    ∷ chart_line ((2, Gate Lookup) ∷ []) XY no_slot (Some 15)
    ∷ chart_line ((3, Gate Lookup) ∷ []) XYZ no_slot (Some 255)
    ∷ chart_line ((4, Gate Lookup) ∷ []) XYZF no_slot (Some largest_code)
    ∷ chart_line ((5, Gate And2) ∷ (6, Gate Or2) ∷ (7, Gate Xor2) ∷ []) XY no_slot None
    ∷ chart_line ((8, OneShot retriggerable) ∷ (14, OneShot not_retriggerable) ∷ []) XYZ XY (Some largest_duration)
    ∷ chart_line ((9, Delay retriggerable) ∷ (15, Delay not_retriggerable) ∷ []) XYZ XY (Some largest_duration)
    ∷ chart_line ((10, Gate And4) ∷ (11, Gate Or4) ∷ []) XYZF no_slot None
    ∷ chart_line ((13, Flop Jk) ∷ []) XYZ only_z None
    ∷ chart_line ((16, OneShot not_retriggerable) ∷ (17, Delay not_retriggerable) ∷ []) XYZF XYF (Some largest_duration)
    ∷ chart_line ((18, Flop ClearDFlop) ∷ []) XYZF only_y None
    ∷ chart_line ((19, Counter WhileBoth) ∷ (20, Counter WhileEither) ∷ []) XYZF only_y None
    ∷ chart_line ((21, Counter FromStart) ∷ (22, Counter FromStartAtZero) ∷ []) XYZF XYF None
    ∷ []

-- the number of cell types: "Type codes now go to 22"
abbrev pub type_count : ℕ
type_count = 23

-- what a class keeps between ticks: "a flip-flop's bit, a timer's count and pulse", a counter's
-- count and "active"
abbrev pub kept_by : Class → Kept
kept_by Nothing = Stateless
kept_by Constant = Stateless
kept_by (Gate g) = Stateless
kept_by (Flop f) = Bit
kept_by (OneShot t) = Count
kept_by (Delay t) = Count
kept_by (Counter k) = Counted

-- what a line says of a type that does k
abbrev pub row_as : ChartLine → Class → Row
row_as l k = record { used = l.used; edge = l.edge; largest = l.config; class = k; kept = kept_by k }

-- a number past the table: no slots, and nothing done
abbrev pub no_row : Row
no_row = record { used = no_slot; edge = no_slot; largest = None; class = Nothing; kept = Stateless }

-- a line's row for type n, if n is one of its types, else what the other lines say
abbrev pub row_among : ℕ → ChartLine → List (ℕ × Class) → Row → Row
row_among n l [] other = other
row_among n l (t ∷ ts) other = cond (eqb n t.0) (row_as l t.1) (row_among n l ts other)

abbrev pub row_in : ℕ → List ChartLine → Row
row_in n [] = no_row
row_in n (l ∷ ls) = row_among n l l.types (row_in n ls)

-- what the table says of type n
unfoldable pub row_of : ℕ → Row
row_of n = row_in n chart

-- the readings of the slots of a set; a slot outside it reads low
abbrev pub masked : Slots → Slots → Slots
masked s r = slots (s.x && r.x) (s.y && r.y) (s.z && r.z) (s.f && r.f)

-- some slot is in the set
abbrev pub any_slot : Slots → Bool
any_slot s = (s.x || s.y) || (s.z || s.f)

-- the level slots: the used slots that are no edge slots
abbrev pub level_slots : Row → Slots
level_slots w =
    slots (w.used.x && not w.edge.x) (w.used.y && not w.edge.y) (w.used.z && not w.edge.z) (w.used.f && not w.edge.f)
