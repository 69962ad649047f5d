-- Document 01, "One run", for the programs that are not plrun: line by line, the card and the store
-- are those of plrun's definition (`enters`). What a line prints is dropped.
use Rattle.std.specs.Prelude.{ℕ, ◌+◌, ◌≤◌, ◌≡◌, Bool, true, cond, List, [], ◌++◌, take}
use Rattle.card.specs.declared.card.Card.{Card}
use Rattle.card.specs.Address.{cell_room, cells_for}
use Rattle.saved.specs.Record.{config_width, record_length}
use Rattle.input.specs.Lines.{takes_all, kept}
use Rattle.input.specs.Reading.{is_line, pending, Next}
use Rattle.session.specs.Session.{entered, event_of}
use Rattle.session.specs.Run.{start_state, enters}
use Rattle.session.specs.declared.Event.{Event}
use Rattle.session.specs.declared.Event.TheVariants.{Line}
use Rattle.session.specs.declared.feed.Feed.{Feed}

-- ---- one line

-- the store of every feed: a large card's records have so many bytes
abbrev pub store_length : ℕ
store_length = record_length cell_room config_width

-- a card of n cells has as much of the store as its records have
abbrev pub store_of : (n : ℕ) → List ℕ → List ℕ
store_of n store = take (record_length n config_width) store

-- the line `text` has come to the card `c`, whose store was `held`, and has left the card `d` by the
-- event `v`: a line whose LF has come is entered, and what follows the last LF of an input is not
pub record Given (lf : Bool) (c : Card) (text held : List ℕ) (d : Card) (v : Event) (held' : List ℕ) : Type 0 where
  pub card : d ≡ cond lf (entered (cells_for c.size) c text (store_of (cells_for c.size) held)).card c
  pub event : v ≡ cond lf (event_of (cells_for c.size) c text (store_of (cells_for c.size) held)) (Line 0)
  pub store : store_of (cells_for c.size) held'
      ≡ cond lf (entered (cells_for c.size) c text (store_of (cells_for c.size) held)).store (store_of (cells_for c.size) held)

-- the next line of an input (`Next` says which it is) has come to the card of a feed
pub record Fed (feed f : Feed) (block held block' held' : List ℕ) : Type 0 where
  pub next : Next kept feed.reader f.reader block block'
  pub before : f.before ≡ feed.card
  pub given : Given (is_line f.reader.found) feed.card next.line held f.card f.event held'

-- ---- all of them

-- a feed from a fresh card of n cells, by the bytes that reads gave. Those that are taken have
-- brought card and store where plrun's definition says; after the last line that was given come the
-- bytes that are pending. Where no further line comes, all bytes are taken, and those after the
-- last LF have entered nothing
pub record FedFrom (n : ℕ) (f : Feed) (block held : List ℕ) : Type 0 where
  pub read : List ℕ
  pub taken : List ℕ
  pub bytes : read ≡ taken ++ cond (is_line f.reader.found) (pending f.reader block) []
  pub size : cells_for f.card.size ≡ n
  pub card : f.card ≡ (takes_all enters (start_state n) taken).done.card
  pub store : store_of n held ≡ (takes_all enters (start_state n) taken).done.store
  pub whole : is_line f.reader.found ≡ true → (takes_all enters (start_state n) taken).line ≡ []
