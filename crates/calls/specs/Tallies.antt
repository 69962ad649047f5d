-- Document 02, "Wake tallies": what the tallies are after any list of calls, said of its ticks and
-- not of the card's own fields. Over the number n of cells.
use Rattle.std.specs.Prelude.{ℕ, zero, suc, ◌+◌, ◌≤◌, ◌<◌, ◌≡◌, Bool, false, ◌&&◌, cond, List, eqb, ltb, get_or}
use Rattle.words.specs.Bits.{bit_at, bit_number, count_of}
use Rattle.cells.specs.State.{state_of}
use Rattle.cells.specs.Wake.{wakes}
use Rattle.card.specs.declared.card.Card.{Card}
use Rattle.card.specs.Fresh.{fresh_of, no_cell}
use Rattle.card.specs.Tally.{standstill, tally_of}
use Rattle.ticks.specs.declared.connectors.Lines.{Lines}
use Rattle.ticks.specs.Tick.{read_on, tick_on}
use Rattle.ticks.specs.Exact.{cell_named}
use Rattle.ticks.specs.Rest.{total_of}
use Rattle.saved.specs.Record.{load_number}
use Rattle.calls.specs.Runs.{since}
use Rattle.calls.specs.Calls.{Call, after_call, end}
use Rattle.calls.specs.Calls.Call.{line, load, tick}
use Rattle.calls.specs.History.{edited_since, read_since, low_readings}

-- the sum of f over the first m numbers
unfoldable pub sum_of : (ℕ → ℕ) → ℕ → ℕ
sum_of f zero = 0
sum_of f (suc m) = sum_of f m + f m

-- ticks that ran, and something that was added up in them
pub record Summed : Type 0 where
  pub ran : ℕ
  pub sum : ℕ

abbrev pub nothing : Summed
nothing = record { ran = 0; sum = 0 }

-- something that each tick has more of
abbrev pub PerTick : Type 0
PerTick = Bool → Card → Lines → ℕ

module _ (n : ℕ) where
  -- after a call: "Once the tick total is 4,294,967,295 all of them stand still", and until then a
  -- tick that ran counts; "A load clears them", if it is accepted; nothing else counts
  unfoldable pub sum_next : PerTick → Card → Call → Summed → Summed
  sum_next more c (line text reply store) was = was
  sum_next more c (load bytes) was = cond (eqb (load_number n bytes) 0) nothing was
  sum_next more c (tick full code on) was =
      cond ((tick_on n full c code (on c)).answer.ran && ltb was.ran standstill) (record { ran = was.ran + 1; sum = was.sum + more full c (on c) }) was

  -- "tick by tick up to the standstill": over a list of calls on a fresh card, since its start or
  -- the last accepted load
  abbrev pub summed : PerTick → List Call → ℕ
  summed more calls = (since (after_call n) (sum_next more) (fresh_of n) calls nothing).sum

  -- a card's tallies are what the list says
  pub record Tallied (c : Card) (calls : List Call) : Type 0 where
    -- "how many ticks ran"
    pub ran : total_of c ≡ summed (λ full c l. 1) calls
    -- "for each cell, in how many ticks the waking rules named it, also in full ticks"
    pub times : (i : ℕ) → i < n
        → tally_of c.tallies i ≡ summed (λ full c l. bit_number (cell_named n full c l.levels i)) calls
    -- "the sum taken cell by cell equals the sum, tick by tick up to the standstill, of the sizes
    -- of the sets that the rules name (in a full tick too)"
    pub sums : sum_of (tally_of c.tallies) n ≡ summed (λ full c l. count_of (cell_named n full c l.levels) n) calls
    -- "no cell's tally exceeds the tick total"
    pub most : (i : ℕ) → i < n → tally_of c.tallies i ≤ total_of c

  -- "Over every list of calls since a load or a fresh start"
  unfoldable pub EveryListTallied : Type 0
  EveryListTallied = (calls : List Call) → Tallied (end n (fresh_of n) calls) calls

  -- whom the rules name after a list, in a tick of either kind: by the calls since the last tick
  -- that ran and by what it read, as WhoWakes has it
  unfoldable pub WhoIsNamed : Type 0
  WhoIsNamed = (calls : List Call) (full : Bool) (l : Lines) (i : ℕ) → i < n
      → let c = end n (fresh_of n) calls in
      let cell = get_or c.cells i no_cell in
      cell_named n full c l.levels i
      ≡ wakes cell.kind (state_of cell) (edited_since n (fresh_of n) calls i false) (read_on n full c l.levels i cell.slots)
      (read_since n (fresh_of n) calls i low_readings cell.slots)

  -- on any card, in a quick tick that runs: a tally that is below the limit grows exactly where the
  -- answer's set has a bit
  unfoldable pub GrowsAsAnswered : Type 0
  GrowsAsAnswered = (c : Card) (code : ℕ) (l : Lines) (i : ℕ) → i < n → code ≡ c.trigger → total_of c < standstill → tally_of c.tallies i < standstill
      → let t = tick_on n false c code l in
      tally_of t.card.tallies i ≡ tally_of c.tallies i + bit_number (bit_at t.answer.woken i)
