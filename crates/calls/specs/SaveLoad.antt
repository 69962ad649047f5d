-- Demand 2 of records: save and load are inverse, said of lines and lists of calls, on a card of n
-- cells. By document 02 "Loading and saving byte for byte is promised of 308-byte records,
-- constants aside": those that hold a constant above 1. The 276-byte record of the old form "still
-- loads with every number as it was but for constants", and is saved in the present form.
use Rattle.std.specs.Prelude.{ℕ, ◌≤◌, ◌≡◌, true, List, ◌++◌, map, length, take, drop}
use Rattle.text.specs.Written.{bytes_of}
use Rattle.card.specs.declared.card.Card.{Card}
use Rattle.card.specs.Connectors.{each}
use Rattle.card.specs.Edits.{cleared_cell}
use Rattle.card.specs.Fresh.{fresh_of}
use Rattle.saved.specs.Record.{narrow_width, config_width, record_length, trigger_in, load_cells, connectors_in}
use Rattle.saved.specs.Record.{width_of, load_number, loaded, normal_record, SmallConstants}
use Rattle.lines.specs.Line
use Rattle.lines.specs.Line.{shortest_reply, line_outcome, store_after}
use Rattle.calls.specs.Calls.{Call, saved_bytes, end}

-- the length of the record of a card of n cells
abbrev pub whole_record : ℕ → ℕ
whole_record n = record_length n config_width

-- a line is accepted, and what it gives is the record
pub record Saves (n : ℕ) (c : Card) (text : List ℕ) (reply store : ℕ) : Type 0 where
  pub accepted : (line_outcome n c text reply store).k ≡ 0
  pub saves : Line.saves (line_outcome n c text reply store).response ≡ true

-- d has the settings of c, and "Pointer and states aren't saved": its states are clear
pub record Restored (n : ℕ) (c d : Card) : Type 0 where
  pub trigger : d.trigger ≡ c.trigger
  pub cells : take n d.cells ≡ map cleared_cell (take n c.cells)
  pub connectors : d.connectors ≡ c.connectors

-- what a save of c wrote: as many bytes as a record has, at the front of the store, which is as it
-- was beyond; a load takes them, on any card, and gives the settings back
pub record Written (n : ℕ) (c : Card) (bytes store written : List ℕ) : Type 0 where
  pub sized : length bytes ≡ whole_record n
  pub front : written ≡ bytes ++ drop (whole_record n) store
  pub loads : load_number n bytes ≡ 0
  pub restored : (d : Card) → Restored n c (loaded n d bytes)

-- c has the settings that are in the bytes by the old form; saved, it is a record that any card
-- loads as it loads these bytes
pub record FromOldForm (n : ℕ) (bytes : List ℕ) (c : Card) : Type 0 where
  pub trigger : c.trigger ≡ trigger_in bytes
  pub cells : take n c.cells ≡ load_cells n narrow_width bytes
  pub connectors : each c.connectors ≡ connectors_in n narrow_width bytes
  pub saved_loads : (text : List ℕ) (reply store : ℕ) → Saves n c text reply store → load_number n (saved_bytes n c text reply store) ≡ 0
  pub saved_same : (text : List ℕ) (reply store : ℕ) (e : Card) → Saves n c text reply store → loaded n e (saved_bytes n c text reply store) ≡ loaded n e bytes

pub record SaveLoad (n : ℕ) : Type 0 where
  -- with room for the reply and the record, `36SS Z` saves any card
  pub saves : (c : Card) (reply store : ℕ) → shortest_reply ≤ reply → whole_record n ≤ store → Saves n c (bytes_of "36SS Z") reply store
  -- a save after any list of calls, and a load of what it wrote
  pub save_load : (calls : List Call) (text reply store : List ℕ) → let c = end n (fresh_of n) calls in
      Saves n c text (length reply) (length store)
      → Written n c (saved_bytes n c text (length reply) (length store)) store (store_after n c text (length reply) store)
  -- an accepted load, and a save of what it gave: the record of the same settings in the present
  -- form, with its constants above 1 made 1
  pub load_save : (d : Card) (bytes text : List ℕ) (reply store : ℕ) → let c = loaded n d bytes in
      load_number n bytes ≡ 0 → Saves n c text reply store → saved_bytes n c text reply store ≡ normal_record n (width_of n bytes) config_width bytes
  -- and the same bytes where the record is of the present form and has none of these
  pub load_same : (d : Card) (bytes text : List ℕ) (reply store : ℕ) → let c = loaded n d bytes in length bytes ≡ whole_record n
      → load_number n bytes ≡ 0 → SmallConstants n config_width bytes → Saves n c text reply store → saved_bytes n c text reply store ≡ bytes
  -- a record of the old form gives the settings that are in it, and what a save then writes gives
  -- the same card
  pub old_form : (d : Card) (bytes : List ℕ) → length bytes ≡ record_length n narrow_width → load_number n bytes ≡ 0 → FromOldForm n bytes (loaded n d bytes)
