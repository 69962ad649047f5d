-- The words that addresses are read from, as what they read: the code keeps four words for what a
-- reader reads, and four for what has changed since the last tick.
use Rattle.std.specs.Prelude.{ℕ, ◌^◌, ◌<◌, ◌≡◌, Bool, not, ◌||◌, List}
use Rattle.std.specs.Bool.{beq}
use Rattle.words.specs.Bits.{bit_at}
use Rattle.cells.specs.Reading.{read_from}
use Rattle.card.specs.declared.card.Memory.{Memory}
use Rattle.ticks.specs.declared.view.Wires.{Wires}
use Rattle.ticks.specs.Reading.{reads}

-- every address reads from the words what it reads by these two views
unfoldable pub ReadsAs : List ℕ → (ℕ → Bool) → (ℕ → Bool) → Type 0
ReadsAs q now before = (a : ℕ) → a < 256 → read_from q a ≡ reads now before a

-- an address is set where it reads differently in the two sets of words
unfoldable pub Differ : List ℕ → List ℕ → List ℕ → Type 0
Differ d p q = (a : ℕ) → a < 256 → read_from d a ≡ not (beq (read_from p a) (read_from q a))

-- an address is set where its reading has changed since the last tick
unfoldable pub MovesAs : List ℕ → (now last earlier : ℕ → Bool) → Type 0
MovesAs d now last earlier = (a : ℕ) → a < 256 → read_from d a ≡ not (beq (reads now last a) (reads last earlier a))

-- cell i's output changed in one of the last two ticks
unfoldable pub shifted_at : ℕ → Wires → Bool
shifted_at i w = not (beq (bit_at w.outputs i) (bit_at w.outputs2 i)) || not (beq (bit_at w.outputs2 i) (bit_at w.outputs3 i))

-- the cell words have no bit above the first n
abbrev pub Fits : ℕ → Wires → Type 0
Fits n w = (w.outputs < 2 ^ n) × (w.outputs2 < 2 ^ n) × (w.outputs3 < 2 ^ n)

abbrev pub FitsMemory : ℕ → Memory → Type 0
FitsMemory n m = (m.outputs < 2 ^ n) × (m.outputs2 < 2 ^ n) × (m.outputs3 < 2 ^ n)
