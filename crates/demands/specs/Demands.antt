-- The demands on the card and the promises of the requests, each as one record with a field for
-- each sentence, over the number n of cells. The proof is one theorem, `demands` in
-- proofs/Demands.antt, for both sizes of a card: a law that is weakened or lost no longer fits its
-- field.
use Rattle.std.specs.Prelude.{ℕ, ◌+◌, ◌^◌, ◌≤◌, ◌<◌, ◌≡◌, Bool, true, false, not, ◌&&◌, ◌||◌, cond, List, [], eqb, ltb, length, take, drop, get_or}
use Rattle.words.specs.Bits.{bit_at, word_of}
use Rattle.cells.specs.declared.table.Slots.{Slots}
use Rattle.cells.specs.declared.cell.State.{State}
use Rattle.cells.specs.State.{state_of}
use Rattle.cells.specs.Timing.{is_timer, takes}
use Rattle.cells.specs.Work.{slots_of, looked, decides_and, decides_or, work_out}
use Rattle.card.specs.declared.card.Card.{Card}
use Rattle.card.specs.Address.{cell_count, cell_room, connector_count, first_cell, first_connector, on_backplane}
use Rattle.card.specs.Chart.{entry_of}
use Rattle.card.specs.Edits.{cleared_cell, home}
use Rattle.card.specs.Fresh.{no_cell, fresh_of}
use Rattle.card.specs.Valid.{valid_card}
use Rattle.ticks.specs.Counting.{CountsOn}
use Rattle.ticks.specs.Exact.{WorksExactly}
use Rattle.ticks.specs.Levels.{effective_sample}
use Rattle.ticks.specs.Reading.{reads, reads_levels, view}
use Rattle.ticks.specs.Runs.{Step, step_runs, step_reads, cell_at}
use Rattle.ticks.specs.Timing.{class_of, TakesTrigger, TimerPromise, IgnoresAll}
use Rattle.survey.specs.Unreached.{Unreached}
use Rattle.saved.specs.Headers.{Bytes, headed_either}
use Rattle.saved.specs.Record.{load_number, loaded}
use Rattle.convert.specs.Convert.{convert_number, convert_length, other_form, converted_to}
use Rattle.convert.specs.Conversion.{Conversion}
use Rattle.grammar.specs.Texts.{Texts}
use Rattle.lines.specs.Line.{shortest_reply, line_reply, line_result}
use Rattle.calls.specs.Calls.{Call, saved_bytes, end}
use Rattle.calls.specs.Demand3 as Lists
use Rattle.calls.specs.History.{WhoWakes}
use Rattle.calls.specs.RequiredExamples.{RequiredExamples}
use Rattle.calls.specs.Rest.{RestLasts}
use Rattle.calls.specs.SaveLoad.{SaveLoad}
use Rattle.calls.specs.Sizes.{SizeKept}
use Rattle.calls.specs.Tallies.{EveryListTallied, WhoIsNamed, GrowsAsAnswered}
use Rattle.wiring.specs.Feeds.{FeedsBack}
use Rattle.wiring.specs.Longest.{Longest}
use Rattle.wiring.specs.Print.{wiring_text, print_number, print_length, printed_to}
use Rattle.wiring.specs.Settable.{ValidIsSettable}
use Rattle.rack.specs.Alone.{AloneInRow, SharedTimerPromise}
use Rattle.rack.specs.Calls.{RackBuffers}
use Rattle.rack.specs.Cards.{IsCard, Reached}
use Rattle.rack.specs.Demand3.{RackDemand3, WithinSupply, ShareGuaranteed}
use Rattle.steady.specs.Laws.{KeepsAll, RestsForever, MakesAll, MakesSome}
use Rattle.steady.specs.Lists.{StandsForTicks, AnswersForTicks}

-- ---- Demand 1: "Every lent buffer comes back holding what document 01 says, untouched beyond.
-- Every call ends; a refused one gives its number and changes nothing in the card." That every call
-- ends is part of each function's proof

-- a buffer after a call that wrote these bytes: they are at its front, and beyond them it is
-- as it was
pub record Holds (bytes before after : List ℕ) : Type 0 where
  pub front : take (length bytes) after ≡ bytes
  pub beyond : drop (length bytes) after ≡ drop (length bytes) before
  pub long : length after ≡ length before

-- bytes that are written only where a call is accepted
abbrev pub if_accepted : (k : ℕ) → List ℕ → List ℕ
if_accepted k bytes = cond (eqb k 0) bytes []

-- the printed wiring; a print changes no card
pub record PrintLeaves (n : ℕ) (c : Card) (buffer : List ℕ) : Type 0 where
  pub len : print_length n c (length buffer) ≡ length (if_accepted (print_number n c (length buffer)) (wiring_text n c))
  pub written : Holds (if_accepted (print_number n c (length buffer)) (wiring_text n c)) buffer (printed_to n c buffer)

-- a converted record; a conversion has no card
pub record ConvertLeaves (n : ℕ) (bytes buffer : List ℕ) : Type 0 where
  pub len : convert_length n (length buffer) bytes ≡ length (if_accepted (convert_number n (length buffer) bytes) (other_form n bytes))
  pub written : Holds (if_accepted (convert_number n (length buffer) bytes) (other_form n bytes)) buffer (converted_to n bytes buffer)

pub record Demand1 (n : ℕ) : Type 0 where
  -- "a refused one gives its number and changes nothing in the card"
  pub line_refused : (c : Card) (text reply store : List ℕ) → eqb (line_result n c text reply store).k 0 ≡ false
      → (line_result n c text reply store).card ≡ c
  -- the reply's length is what is said, and the reply is at the front of its buffer. That no reply
  -- is longer than 16 bytes is in the contract of `line`: values have the width of their types
  pub length_replied : (c : Card) (text reply store : List ℕ)
      → (line_result n c text reply store).len ≡ length (line_reply n c text (length reply) (length store))
  pub line_replied : (c : Card) (text reply store : List ℕ) → (line_result n c text reply store).len ≤ shortest_reply
      → Holds (line_reply n c text (length reply) (length store)) reply (line_result n c text reply store).reply
  -- the store gets the record where one is saved and nothing else, on every card with settings that
  -- lines can set, which are those that calls reach (`reached` below)
  pub line_stored : (c : Card) (text reply store : List ℕ) → valid_card n c ≡ true
      → Holds (saved_bytes n c text (length reply) (length store)) store (line_result n c text reply store).store
  -- a refused load, print and conversion
  pub load : (c : Card) (bytes : List ℕ) → eqb (load_number n bytes) 0 ≡ false → loaded n c bytes ≡ c
  pub print : (c : Card) (buffer : List ℕ) → PrintLeaves n c buffer
  -- the converter's records are those of a card of sixteen cells
  pub convert : (bytes buffer : List ℕ) → ConvertLeaves cell_count bytes buffer

-- ---- Demand 2: "Lines, presets, full ticks and the saved record do what document 01 says; save
-- and load are inverse." What a call does is the definition that its contract cites; these are the
-- second views of the definitions

pub record Demand2 (n : ℕ) : Type 0 where
  -- a line is a command exactly where it is one of its texts
  pub texts : Texts n
  -- "save and load are inverse", over lists of calls
  pub save_load : SaveLoad n
  -- 14, byte by byte
  pub fourteen : (bytes : List ℕ) → Bytes bytes → eqb (load_number n bytes) 14 ≡ not (headed_either n bytes)
  -- 15: "record value no line could set"
  pub settable : ValidIsSettable n
  pub reached : (calls : List Call) → valid_card n (end n (fresh_of n) calls) ≡ true
  -- the table that document 01's last box asks for, with the four ticks of its run
  pub examples : RequiredExamples
  -- "the answer is bit number p of the code": the sixteen answers of a lookup are the bits of its
  -- code
  pub lookup : (code : ℕ) (s : State) → code < 2 ^ 16 → word_of (λ p. (work_out 4 code s (slots_of p)).out) 16 ≡ code
  -- "Cell i sees this tick's output of a cell j below i, otherwise last tick's"; "Connectors show
  -- this tick's levels"
  pub sees_cell : (i below others levels j : ℕ) → j < n → view n i below others levels (first_cell + j) ≡ cond (ltb j i) (bit_at below j) (bit_at others j)
  pub sees_line : (i below others levels k : ℕ) → k < connector_count → view n i below others levels (first_connector + k) ≡ bit_at levels k
  -- "`HOME E` or `! E` clears all states"
  pub home : (c : Card) (i : ℕ) → valid_card n c ≡ true → i < n → get_or (home n c).cells i no_cell ≡ cleared_cell (get_or c.cells i no_cell)

-- ---- Demand 3: "Over every list of calls, swapping quick ticks for full ones changes nothing that
-- document 01 compares; a quick tick's woken set is exactly the rules' ... on ANY card, reachable
-- or not"

pub record Demand3 (n : ℕ) : Type 0 where
  pub lists : Lists.Demand3 n
  -- by the calls since the last tick that ran, and by what that tick read
  pub who_wakes : WhoWakes n
  -- the set, its count, the cells that are worked out and those that keep state and output
  pub exact : WorksExactly n

-- ---- The requests of document 02, by their numbers

-- 3: the answer of a gate with four slots is what it was. How many slots were looked at is no field
-- here: the contract of a step says it (`StepsTo`, cells/specs/Effect.antt)
pub record FourSlots : Type 0 where
  pub and4 : (r : Slots) → (looked decides_and r).out ≡ ((r.x && r.y) && (r.z && r.f))
  pub or4 : (r : Slots) → (looked decides_or r).out ≡ ((r.x || r.y) || (r.z || r.f))

-- 12: lists of rack calls from the start
pub record Racks (n : ℕ) : Type 0 where
  pub interchangeable : RackDemand3 n
  pub within_supply : WithinSupply n
  pub four_each : ShareGuaranteed n
  -- each card of a rack is the end of a list of its own calls, so that all that is said of lists
  -- holds of it
  pub is_card : IsCard n
  pub reached : Reached
  pub buffers : RackBuffers n
  pub alone : AloneInRow n

-- 13: over every list of calls
pub record WakeTallies (n : ℕ) : Type 0 where
  pub every_list : EveryListTallied n
  pub named : WhoIsNamed n
  pub grows : GrowsAsAnswered n

pub record Requests (n : ℕ) : Type 0 where
  -- 1: "a clock edge adds 1 to a count below 65535"; that quick and full ticks mix harmlessly is
  -- demand 3
  pub counters : CountsOn n
  -- 2: 15 and 17 "ignore triggers during the pulse as well"; 14, for types that ignore triggers
  pub ignoring : IgnoresAll n
  -- 3: "Answers and woken sets stay as they were"
  pub four_slots : FourSlots
  -- 4 and 7: constants, and both forms of a record, are in `save_load` of demand 2
  -- 5: "An unattached line samples low on the front and high on the backplane"
  pub unplugged : (sample attached k : ℕ) → k < connector_count
      → bit_at (effective_sample sample attached) k ≡ cond (bit_at attached k) (bit_at sample k) (on_backplane k)
  -- 6: "Fed line by line to a fresh card", and the longest text
  pub feeds_back : FeedsBack n
  pub longest : Longest n
  -- 8 and 10: there and back, and the longer record
  pub conversion : Conversion cell_count
  -- 9: an address reads by its entry of the chart
  pub chart : (now before : ℕ → Bool) (a : ℕ)
      → (let e = entry_of n a in reads now before a ≡ cond (eqb a 192) true (reads_levels e.inverted e.edge (now e.base) (before e.base)))
  -- 10: no call changes a card's number of cells
  pub size : SizeKept n
  -- 11: outside the set nothing depends on the line
  pub unreached : Unreached n
  pub racks : Racks n
  pub tallies : WakeTallies n
  -- 14: "a timer of duration d, at least 1, that has just taken a trigger"; "This holds for every
  -- list of ticks, quick and full", and in racks
  pub takes_trigger : (c : Card) (s : Step) (i : ℕ) → is_timer (class_of (cell_at c i)) ≡ true → 1 ≤ (cell_at c i).config → step_runs c s ≡ true
      → takes (cell_at c i).kind (state_of (cell_at c i)) (step_reads n c s i) ≡ true → TakesTrigger n c s i
  pub timers : TimerPromise n
  pub shared_timers : SharedTimerPromise n

-- ---- What was added to the two documents: a card at rest, and many steady ticks at once

pub record Added (n : ℕ) : Type 0 where
  pub rest : RestLasts n
  -- in a steady stretch nothing but counts changes, and a card at rest is steady for ever
  pub keeps_all : KeepsAll n
  pub rests_forever : RestsForever n
  -- a call makes as many ticks as are asked for while the card is steady, at least one, and does
  -- what so many ticks of either kind do in any list
  pub makes_all : MakesAll n
  pub makes_some : MakesSome n
  pub stands : StandsForTicks n
  pub answers : AnswersForTicks n

-- ---- All of it, of a card of sixteen cells or of thirty-two

pub data Size : ℕ → Type 0 where
  small : Size cell_count
  large : Size cell_room

pub record Demands (n : ℕ) : Type 0 where
  pub demand1 : Demand1 n
  pub demand2 : Demand2 n
  pub demand3 : Demand3 n
  pub requests : Requests n
  pub added : Added n
