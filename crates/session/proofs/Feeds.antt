-- Laws of a feed: a card with its part of the store, a line of which only the front was given, and the lines of an input one after the other.
use Prim.Native.Nat.{ℕ, ◌+◌, ◌≤◌}
use mathlib.Core.Path.{◌≡◌, refl, sym, subst, ap, ap₂, ◌∙◌}
use mathlib.Core.Bool.{Bool, true, false, cond, true≢false}
use mathlib.Core.List.{List, [], ◌∷◌, ◌++◌, append_assoc, append-nil}
use native.Mathlib.Omega.{arith}
use lib.Dec.{eqb}
use lib.ListN.{length, take, replicate}
use lib.Seq.{take_all, take_at}
use borrow.Author.Tests.{eq-eqb, ne_eqb}
use Rattle.card.specs.declared.card.Card.{Card}
use Rattle.card.specs.Address.{cell_count, cell_room, cells_for}
use Rattle.card.specs.Fresh.{fresh_of}
use Rattle.card.proofs.ChangeLaws.{changed-size}
use Rattle.ticks.proofs.Cases.{by-tick}
use Rattle.saved.specs.Record.{config_width, record_length, load_number}
use Rattle.saved.proofs.Records.{loaded-by}
use Rattle.lines.specs.Line.{line_outcome}
use Rattle.input.specs.Lines.{takes_all, part, kept}
use Rattle.input.specs.Reading.{is_line, pending, Next}
use Rattle.input.specs.declared.reader.Reader.{Reader}
use Rattle.input.proofs.Lines.{takes-append, takes_part}
use Rattle.input.proofs.Reading.{part_none}
use Rattle.session.specs.Session.{Entry, tick_line, is_load_line, by_tick, by_load, by_line, if_tick, entered, event_of, Enters}
use Rattle.session.specs.Run.{RunState, start_state, enters}
use Rattle.session.specs.Feed.{store_length, store_of, Given, Fed, FedFrom}
use Rattle.std.specs.Prelude.{Option, Some, None}
use Rattle.session.specs.declared.TickLine.{TickLine}
use Rattle.session.specs.declared.Entered.{Entered}
use Rattle.session.specs.declared.Event.{Event}
use Rattle.session.specs.declared.Event.TheVariants.{Line}
use Rattle.session.specs.declared.feed.Feed.{Feed}
use Rattle.session.proofs.Runs.{entered-cut, event-cut}

-- ---- a line to a card, with its part of the store

large-cells : (size : ℕ) → size ≡ cell_room → cells_for size ≡ cell_room
unfolding cells_for
large-cells size e = rw (eq-eqb size cell_room e)

small-cells : (size : ℕ) → (size ≡ cell_room → ⊥) → cells_for size ≡ cell_count
unfolding cells_for
small-cells size e = rw (ne_eqb size cell_room e)

module _ (c : Card) (text held : List ℕ) (r : Entered) (before after : List ℕ) where
  -- what a line leaves of a store that is the card's part of it
  given-part : (part left store : List ℕ) → part ≡ store_of (cells_for c.size) held → left ≡ store_of (cells_for c.size) store
      → Enters (entered (cells_for c.size) c text part) (event_of (cells_for c.size) c text part) r left before after
      → Given true c text held r.card r.event store
  given-part part left store ep el e =
      record {
        card = e.card ∙ ap (λ (l : List ℕ). (entered (cells_for c.size) c text l).card) ep;
        event = e.event ∙ ap (event_of (cells_for c.size) c text) ep;
        store = sym el ∙ e.store ∙ ap (λ (l : List ℕ). (entered (cells_for c.size) c text l).store) ep;
      }

  -- a large card has all of it
  pub given-large : c.size ≡ cell_room → length held ≡ store_length → (store : List ℕ) → length store ≡ store_length
      → Enters (entered (cells_for c.size) c text held) (event_of (cells_for c.size) c text held) r store before after
      → Given true c text held r.card r.event store
  given-large large long store long' =
      given-part held store store (all held (omega (arith, long))) (all store (omega (arith, long')))
    where
      all : (l : List ℕ) → length l ≤ store_length → l ≡ store_of (cells_for c.size) l
      all l h = sym (take_all store_length l h) ∙ ap (λ (n : ℕ). store_of n l) (sym (large-cells c.size large))

  -- a small one the front
  pub given-small : (c.size ≡ cell_room → ⊥) → (left rest : List ℕ) → length left ≡ record_length cell_count config_width
      → Enters (entered (cells_for c.size) c text (store_of cell_count held)) (event_of (cells_for c.size) c text (store_of cell_count held)) r left before after
      → Given true c text held r.card r.event (left ++ rest)
  given-small small left rest long =
      given-part (store_of cell_count held) left (left ++ rest) (ap (λ (n : ℕ). store_of n held) few)
      (sym (take_at left rest (record_length cell_count config_width) long) ∙ ap (λ (n : ℕ). store_of n (left ++ rest)) few)
    where
      few : cell_count ≡ cells_for c.size
      few = sym (small-cells c.size small)

-- ---- a line of which the front was given

module _ (c : Card) (text line held : List ℕ) (same : take kept text ≡ take kept line) where
  abbrev own : List ℕ
  own = store_of (cells_for c.size) held

  leaves : entered (cells_for c.size) c text own ≡ entered (cells_for c.size) c line own
  leaves = sym (entered-cut _ c text own) ∙ ap (λ (l : List ℕ). entered (cells_for c.size) c l own) same ∙ entered-cut _ c line own

  does : event_of (cells_for c.size) c text own ≡ event_of (cells_for c.size) c line own
  does = sym (event-cut _ c text own) ∙ ap (λ (l : List ℕ). event_of (cells_for c.size) c l own) same ∙ event-cut _ c line own

  pub given-cut : {lf : Bool} {d : Card} {v : Event} {held' : List ℕ} → Given lf c text held d v held' → Given lf c line held d v held'
  given-cut {lf} g =
      record {
        card = g.card ∙ ap (λ (e : Entry). cond lf e.card c) leaves;
        event = g.event ∙ ap (λ (v : Event). cond lf v (Line 0)) does;
        store = g.store ∙ ap (λ (e : Entry). cond lf e.store own) leaves;
      }

-- the reader has given the line, or its front, and no further one comes
pub fed_by : {feed f : Feed} {r : Reader} {block held block' held' : List ℕ} {room : ℕ} → room ≡ kept → f.reader ≡ r → f.before ≡ feed.card
    → Next room feed.reader r block block' → Given (is_line r.found) feed.card (part r.start r.end block') held f.card f.event held'
    → Fed feed f block held block' held'
fed_by {feed} {f} {r} {held = held} {block' = block'} {held' = held'} whole same before x g =
    let cut = ap (λ (k : ℕ). take k (part r.start r.end block')) (sym whole) ∙ x.given ∙ ap (λ (k : ℕ). take k x.line) whole in
    record {
      next =
          record {
            read = x.read;
            line = x.line;
            free = x.free;
            bytes = x.bytes ∙ ap (λ (q : Reader). x.line ++ cond (is_line q.found) (10 ∷ pending q block') []) (sym same);
            given = ap (λ (q : Reader). take kept (part q.start q.end block')) same ∙ cut;
          };
      before = before;
      given =
          subst (λ (q : Reader). Given (is_line q.found) feed.card x.line held f.card f.event held') (sym same)
          (given-cut feed.card (part r.start r.end block') x.line held cut g);
    }

-- ---- the lines of an input

-- no line changes the size of a card
entered-size : (n : ℕ) (c : Card) (t store : List ℕ) → (entered n c t store).card.size ≡ c.size
unfolding entered line_outcome
entered-size n c t store = go (tick_line t) (is_load_line t)
  where
    either : (b : Bool) (d : Card) → d.size ≡ c.size → (cond b d c).size ≡ c.size
    either true d e = e
    either false d e = refl

    go : (k : Option TickLine) (load : Bool) → (if_tick k (λ k. by_tick n c k store) (cond load (by_load n c store) (by_line n c t store))).card.size ≡ c.size
    go (Some k) load = by-tick n k.full c k.input (λ r. r.card.size ≡ c.size) (λ _. refl) (λ _. refl)
    go None true = rw (loaded-by n c store) (either (eqb (load_number n store) 0) _ refl)
    go None false = changed-size n c _

pub fed-first : (cells : ℕ) (f : Feed) (block : List ℕ) → f.card ≡ fresh_of (cells_for cells) → is_line f.reader.found ≡ true → f.reader.n ≡ 0
    → FedFrom (cells_for cells) f block (replicate store_length 0)
unfolding takes_all start_state cells_for
fed-first cells f block card going none =
    record {
      read = [];
      taken = [];
      bytes = sym (ap (λ (b : Bool). cond b (pending f.reader block) []) going ∙ part_none block (f.reader.end + 1) f.reader.n (omega (arith, none)));
      size = ap (λ (c : Card). cells_for c.size) card ∙ again (eqb cells cell_room);
      card = card;
      store = zeros (eqb cells cell_room);
      whole = λ _. refl;
    }
  where
    again : (b : Bool) → cells_for (cond b cell_room cell_count) ≡ cond b cell_room cell_count
    again true = refl
    again false = refl

    zeros : (b : Bool) → store_of (cond b cell_room cell_count) (replicate store_length 0) ≡ replicate (record_length (cond b cell_room cell_count) config_width) 0
    zeros true = refl
    zeros false = refl

-- a feed that goes on, and the next line
module _ {n : ℕ} {feed f : Feed} {block held block' held' : List ℕ} (on : is_line feed.reader.found ≡ true) (u : FedFrom n feed block held)
    (e : Fed feed f block held block' held') where
  line : List ℕ
  line = e.next.line

  -- what is taken then
  then : Bool → List ℕ
  then lf = u.taken ++ (line ++ cond lf (10 ∷ []) [])

  start : RunState
  start = takes_all enters (start_state n) u.taken

  abbrev reached : Bool → RunState
  reached lf = cond lf (record { done = enters start.done line; line = [] }) (record { done = start.done; line = line })

  taken-on : (lf : Bool) → takes_all enters (start_state n) (then lf) ≡ reached lf
  unfolding takes_all then start line
  taken-on lf =
      takes-append enters (start_state n) u.taken (line ++ cond lf (10 ∷ []) [])
      ∙ takes-append enters start line (cond lf (10 ∷ []) [])
      ∙ ap (λ (s : RunState). takes_all enters s (cond lf (10 ∷ []) [])) so_far
      ∙ last lf
    where
      so_far : takes_all enters start line ≡ record { done = start.done; line = line }
      so_far = takes_part enters start line e.next.free ∙ (λ i. record { done = start.done; line = u.whole on i ++ line })

      last : (lf : Bool) → takes_all enters (record { done = start.done; line = line }) (cond lf (10 ∷ []) []) ≡ reached lf
      last true = refl
      last false = refl

  bytes_on : (lf : Bool) (rest : List ℕ) → pending feed.reader block ++ e.next.read ≡ line ++ cond lf (10 ∷ rest) []
      → u.read ++ e.next.read ≡ then lf ++ cond lf rest []
  unfolding then
  bytes_on lf rest h =
      ap (λ (l : List ℕ). l ++ e.next.read) (u.bytes ∙ ap (λ (b : Bool). u.taken ++ cond b (pending feed.reader block) []) on)
      ∙ append_assoc u.taken (pending feed.reader block) e.next.read
      ∙ ap (λ (l : List ℕ). u.taken ++ l) h
      ∙ go lf
    where
      go : (lf : Bool) → u.taken ++ (line ++ cond lf (10 ∷ rest) []) ≡ (u.taken ++ (line ++ cond lf (10 ∷ []) [])) ++ cond lf rest []
      go true = simp append_assoc
      go false = sym (append-nil _)

  -- what the line leaves
  abbrev into : Entry
  into = entered (cells_for feed.card.size) feed.card e.next.line (store_of (cells_for feed.card.size) held)

  leaves-on : into ≡ entered (cells_for start.done.card.size) start.done.card line start.done.store
  unfolding start line
  leaves-on =
      ap₂ (λ (c : Card) (l : List ℕ). entered (cells_for c.size) c line l) u.card (ap (λ (k : ℕ). store_of k held) u.size ∙ u.store)

  size-on : (lf : Bool) → f.card ≡ cond lf into.card feed.card → cells_for f.card.size ≡ n
  size-on true h = ap (λ (c : Card). cells_for c.size) h ∙ ap cells_for (entered-size _ feed.card e.next.line _) ∙ u.size
  size-on false h = ap (λ (c : Card). cells_for c.size) h ∙ u.size

  card-on : (lf : Bool) → f.card ≡ cond lf into.card feed.card → f.card ≡ (takes_all enters (start_state n) (then lf)).done.card
  unfolding start
  card-on true h = h ∙ ap (λ (d : Entry). d.card) leaves-on ∙ sym (ap (λ (s : RunState). s.done.card) (taken-on true))
  card-on false h = h ∙ u.card ∙ sym (ap (λ (s : RunState). s.done.card) (taken-on false))

  store-on : (lf : Bool) → store_of (cells_for feed.card.size) held' ≡ cond lf into.store (store_of (cells_for feed.card.size) held)
      → store_of n held' ≡ (takes_all enters (start_state n) (then lf)).done.store
  unfolding start
  store-on lf h = ap (λ (k : ℕ). store_of k held') (sym u.size) ∙ h ∙ go lf
    where
      go : (lf : Bool) → cond lf into.store (store_of (cells_for feed.card.size) held) ≡ (takes_all enters (start_state n) (then lf)).done.store
      go true = ap (λ (d : Entry). d.store) leaves-on ∙ sym (ap (λ (s : RunState). s.done.store) (taken-on true))
      go false = ap (λ (k : ℕ). store_of k held) u.size ∙ u.store ∙ sym (ap (λ (s : RunState). s.done.store) (taken-on false))

  whole-on : (lf : Bool) → lf ≡ true → (takes_all enters (start_state n) (then lf)).line ≡ []
  whole-on true h = ap (λ (s : RunState). s.line) (taken-on true)
  whole-on false h = absurd (true≢false (sym h))

  pub fed-next : FedFrom n f block' held'
  unfolding line
  fed-next =
      record {
        read = u.read ++ e.next.read;
        taken = then (is_line f.reader.found);
        bytes = bytes_on (is_line f.reader.found) (pending f.reader block') e.next.bytes;
        size = size-on (is_line f.reader.found) e.given.card;
        card = card-on (is_line f.reader.found) e.given.card;
        store = store-on (is_line f.reader.found) e.given.store;
        whole = whole-on (is_line f.reader.found);
      }
