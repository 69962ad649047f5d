-- Document 01, "One run": the lines of an input (`takes_all` says which they are) are entered to one
-- card, one after the other.
use Rattle.std.specs.Prelude.{ℕ, ◌+◌, ◌-◌, ◌*◌, ◌≤◌, ◌<◌, ◌≡◌, true, ◌&&◌, List, [], ◌++◌, ltb, length, get_or, take, drop, replicate}
use Rattle.card.specs.Address.{cells_for}
use Rattle.card.specs.Fresh.{fresh_of}
use Rattle.saved.specs.Record.{config_width, record_length}
use Rattle.session.specs.Session.{longest_print, Entry, entered}
use Rattle.input.specs.Lines.{Taken, takes_all, part, kept, cut_to, block_length, most_reads}
use Rattle.session.specs.declared.run.State.{State}
use Rattle.session.specs.declared.run.Run.{Run}
use Rattle.session.specs.declared.run.Lines.{Lines}
use Rattle.session.specs.declared.run.Over.{Over}

-- ---- what bytes of input do, to a card of its size

-- after some bytes of input: the card, the store and all that has been printed, and the line that
-- has not ended
abbrev pub RunState : Type 0
RunState = Taken Entry

-- "Fresh: ...", and by document 02 "The program's store starts as 308 zeros"
unfoldable pub start_state : ℕ → RunState
start_state n = record { done = record { card = fresh_of n; store = replicate (record_length n config_width) 0; printed = [] }; line = [] }

-- a line is entered, and what it prints comes after what is printed already
abbrev pub enters : Entry → List ℕ → Entry
enters d line =
    let e = entered (cells_for d.card.size) d.card line d.store in
    record { card = e.card; store = e.store; printed = d.printed ++ e.printed }

-- ---- what the program keeps

-- of a line that has not ended. A longer one is malformed, and cut to these bytes it still is (law
-- `entered-cut`)
abbrev pub kept_of : RunState → RunState
kept_of s = cut_to kept s

-- what a block of input can print at most
abbrev pub output_length : ℕ
output_length = longest_print * block_length

-- the state of a run, by what it holds: the line and what is printed are the front of their buffers
abbrev pub state_of : State → (store line out : List ℕ) → RunState
state_of s store line out = record { done = record { card = s.card; store = store; printed = take s.used out }; line = take s.len line }

abbrev pub run_state_of : Run → (store line out : List ℕ) → RunState
run_state_of r = state_of (record { card = r.card; len = r.len; used = r.used })

-- the line from one place of a block to another has not ended
abbrev pub standing : Lines → (block store out : List ℕ) → RunState
standing r block store out =
    record { done = record { card = r.card; store = store; printed = take r.used out }; line = part r.start r.end block }

-- where the lines of the first n bytes of a block stop: at their end, or at an LF, where the room
-- that is left is too small for what some lines print. Nothing is touched beyond what is printed
pub record Stopped (s : State) (r : Lines) (n : ℕ) (block before after : List ℕ) : Type 0 where
  pub order : r.start ≤ r.end
  pub behind : s.len ≤ r.end
  pub within : r.end ≤ n
  pub at_lf : r.end < n → get_or block r.end 0 ≡ 10
  pub no_room : r.end < n → length before < r.used + longest_print
  pub few : r.used ≤ s.used + longest_print * (r.start - s.len)
  pub fits : r.used ≤ length before
  pub size : length after ≡ length before
  pub beyond : drop r.used after ≡ drop r.used before

-- what was printed has been given to write
abbrev pub flushed : RunState → RunState
flushed s = record { done = record { card = s.done.card; store = s.done.store; printed = [] }; line = s.line }

-- the totals grow by a block a read at most, and by what a block prints, so that they do not wrap
pub record Counted (r : Run) : Type 0 where
  pub by_reads : r.taken + block_length * r.left ≤ block_length * most_reads
  pub by_bytes : r.printed ≤ longest_print * r.taken

-- a run that has taken this input: as many bytes as its reads gave have brought card and line where
-- they are, and what they print is as long as what was given to write
pub record Ran (n : ℕ) (r : Run) (input : List ℕ) : Type 0 where
  pub taken : length input ≡ r.taken
  pub card : r.card ≡ (takes_all enters (start_state n) input).done.card
  pub len : r.len ≡ length (take kept (takes_all enters (start_state n) input).line)
  pub printed : r.printed ≡ length (takes_all enters (start_state n) input).done.printed

-- a run over the bytes of a buffer: those that it took have brought the card where it is, and what
-- they print, all of it and no more, is at the front of the output. It takes all, unless it stops
-- at an LF, where the room that is left is too small for what some lines print
pub record RanOver (n : ℕ) (r : Over) (input before after : List ℕ) : Type 0 where
  pub within : r.taken ≤ length input
  pub card : r.card ≡ (takes_all enters (start_state n) (take r.taken input)).done.card
  pub output : after ≡ (takes_all enters (start_state n) (take r.taken input)).done.printed ++ drop r.printed before
  pub printed : r.printed ≡ length (takes_all enters (start_state n) (take r.taken input)).done.printed
  pub few : r.printed ≤ longest_print * r.taken
  pub stops : r.taken < length input → (get_or input r.taken 0 ≡ 10) × (length before < r.printed + longest_print)

-- one read, and what its lines print: the bytes that it gave are taken on from an empty output, and
-- the totals grow by what they are and print
pub record Turned (run r : Run) (store line out : List ℕ) (block' store' line' out' : List ℕ) : Type 0 where
  pub few : r.got ≤ block_length
  pub state : run_state_of r store' line' out' ≡ kept_of
      (takes_all enters (flushed (run_state_of run store line out)) (part run.len (run.len + r.got) block'))
  pub going : r.going ≡ (ltb 0 r.got && r.wrote)
  pub short : r.len ≤ kept
  pub whole : length line' ≡ kept
  pub taken : r.taken ≡ run.taken + r.got
  pub printed : r.printed ≡ run.printed + r.used
  pub left : r.left + 1 ≡ run.left
  pub counted : Counted r
  pub within : run.len + r.got ≤ length block'
  pub fits : r.used ≤ length out'

-- what ended a run: a read that gave no byte, since the input has ended or the read failed; a write
-- that failed; or the last of its reads. It has read, and every read but the last gave a byte or
-- more
pub record Ended (r : Run) : Type 0 where
  pub by : r.going ≡ (ltb 0 r.got && r.wrote)
  pub last : r.going ≡ true → r.left ≡ 0
  pub read : r.left < most_reads
  pub gave : most_reads ≤ r.taken + r.left + 1
