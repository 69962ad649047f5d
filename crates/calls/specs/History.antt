-- Document 01, "Lists of calls": ""Who wakes" goes by the calls made since the last tick that ran,
-- or since the start, and by what that tick read." What a list of calls has edited, what its last
-- tick read and what its last ticks were, said of the calls and not of the card's own fields; and
-- who wakes after it.
use Rattle.std.specs.Prelude.{ℕ, ◌<◌, ◌≡◌, Bool, true, false, ◌||◌, cond, List, eqb, length, get_or}
use Rattle.words.specs.Bits.{bit_at}
use Rattle.cells.specs.declared.table.Slots.{Slots}
use Rattle.cells.specs.State.{state_of}
use Rattle.cells.specs.Wake.{wakes}
use Rattle.card.specs.declared.card.Card.{Card}
use Rattle.card.specs.declared.card.Memory.{Memory}
use Rattle.card.specs.Change.{edits_cell}
use Rattle.card.specs.Fresh.{no_cell, no_memory, fresh_of}
use Rattle.ticks.specs.declared.connectors.Lines.{Lines}
use Rattle.ticks.specs.Reading.{slots_read}
use Rattle.ticks.specs.Tick.{trimmed, moved, read_on, tick_on}
use Rattle.saved.specs.Record.{load_number}
use Rattle.lines.specs.Line.{line_change}
use Rattle.calls.specs.Runs.{since}
use Rattle.calls.specs.Calls.{Call, after_call, end}
use Rattle.calls.specs.Calls.Call.{line, load, tick}

-- the readings of four slots by their addresses: slots may be wired anew after the tick
abbrev pub Readings : Type 0
Readings = List ℕ → Slots

-- "Everything before the first tick counts as low": every level, and every level before it
unfoldable pub low_readings : Readings
low_readings = slots_read (λ b. false) (λ b. false)

module _ (n : ℕ) where
  -- ---- which cells are edited

  -- whether cell i is edited after a call, given whether it was before: a line edits what its
  -- change edits, and a refused one changes nothing; a tick that ran clears the edits, an accepted
  -- load sets them all
  unfoldable pub edited_next : Card → Call → ℕ → Bool → Bool
  edited_next c (line text reply store) i was =
      was || edits_cell n c (line_change n c text (length reply) (length store)) i
  edited_next c (load bytes) i was = cond (eqb (load_number n bytes) 0) true was
  edited_next c (tick full code on) i was = cond (tick_on n full c code (on c)).answer.ran false was

  -- whether cell i was edited since the last tick that ran, or since the start of the list
  abbrev pub edited_since : Card → List Call → ℕ → Bool → Bool
  edited_since c calls i was = since (after_call n) (λ d call. edited_next d call i) c calls was

  -- ---- what the last tick that ran read

  -- after a call: a tick that ran is the last that read; an accepted load starts anew; nothing else
  -- counts
  unfoldable pub read_next : Card → Call → ℕ → Readings → Readings
  read_next c (line text reply store) i was = was
  read_next c (load bytes) i was = cond (eqb (load_number n bytes) 0) low_readings was
  read_next c (tick full code on) i was = cond (tick_on n full c code (on c)).answer.ran (read_on n full c (on c).levels i) was

  -- what a reader in position i read in the last tick that ran
  abbrev pub read_since : Card → List Call → ℕ → Readings → Readings
  read_since c calls i was = since (after_call n) (λ d call. read_next d call i) c calls was

  -- ---- "Who wakes", said of a list

  -- of a card that a list of calls has left: the set that a quick tick on the card's own clock
  -- answers, whatever its lines, has a cell exactly where the rules hold of the calls since the
  -- last tick that ran, or since the start, of what the cell's slots read now, and of what they
  -- read in that tick
  abbrev pub Wakes : Card → List Call → Type 0
  Wakes c calls = (code : ℕ) (l : Lines) (i : ℕ) → i < n
      → let cell = get_or c.cells i no_cell in
      code ≡ c.trigger
      → bit_at (tick_on n false c code l).answer.woken i
      ≡ wakes cell.kind (state_of cell) (edited_since (fresh_of n) calls i false) (read_on n false c l.levels i cell.slots)
      (read_since (fresh_of n) calls i low_readings cell.slots)

  -- after any list of calls from a fresh card
  unfoldable pub WhoWakes : Type 0
  WhoWakes = (calls : List Call) → Wakes (end n (fresh_of n) calls) calls

  -- ---- what the last ticks were

  -- a tick that ran comes before the earlier ones; an accepted load starts anew; nothing else
  -- counts
  unfoldable pub last_next : Card → Call → Memory → Memory
  last_next c (line text reply store) was = was
  last_next c (load bytes) was = cond (eqb (load_number n bytes) 0) no_memory was
  last_next c (tick full code on) was =
      let l = on c in
      let a = (tick_on n full c code l).answer in
      cond a.ran (moved (trimmed n was) (record { driven = a.driven; pulled = l.pulled; levels = l.levels }) a.cells) was

  -- the cell words of the last three ticks that ran, the levels of the last two, and of the last
  -- the driven word and what it pulled low
  abbrev pub last_since : Card → List Call → Memory → Memory
  last_since = since (after_call n) last_next
