-- Document 01, "One run": what one line of input does to the card, the store and the output. Bytes
-- are written as numbers.
use Rattle.std.specs.Prelude.{ℕ, ◌-◌, ◌≤◌, ◌≡◌, refl, Bool, true, false, ◌&&◌, ◌||◌, cond, Option, Some, None, List, [], ◌∷◌, ◌++◌, eqb, leb, length, get_or, take}
use Rattle.std.proofs.lemmas.List.Edits.{sets}
use Rattle.text.specs.Decimal.{is_digit, decimal}
use Rattle.std.specs.Option.{is_some, unwrap_or}
use Rattle.text.specs.Hex.{hex_digits, hex4, hex_at}
use Rattle.card.specs.declared.card.Card.{Card}
use Rattle.card.specs.Address.{cell_count, cell_room}
use Rattle.ticks.specs.declared.tick.Answer.{Answer}
use Rattle.ticks.specs.declared.tick.Ticked.{Ticked}
use Rattle.ticks.specs.Tick.{tick}
use Rattle.saved.specs.Record.{load_number, loaded}
use Rattle.lines.specs.Line.{shortest_reply, line_outcome, line_reply, store_after}
use Rattle.session.specs.declared.TickLine.{TickLine}
use Rattle.session.specs.declared.Event.{Event}
use Rattle.session.specs.declared.Event.TheVariants.{Tick, Load, Line}
use Rattle.session.specs.declared.Entered.{Entered}

-- ---- a tick

-- "`T c w F` or `T c w Q` (clock, one digit 0-9; sample, four hex digits, letters small ...; full
-- or quick)"; document 02, 5: "T lines of the program carry" what is attached "as four more hex
-- digits after the sample"
abbrev pub tick_head : List ℕ → Bool
tick_head t = (eqb (get_or t 0 0) 84 && eqb (get_or t 1 0) 32) && (is_digit (get_or t 2 0) && eqb (get_or t 3 0) 32)

abbrev pub tick_words : List ℕ → Bool
tick_words t = (is_some (hex_at t 4) && eqb (get_or t 8 0) 32) && (is_some (hex_at t 9) && eqb (get_or t 13 0) 32)

abbrev pub tick_kind : List ℕ → Bool
tick_kind t = eqb (get_or t 14 0) 70 || eqb (get_or t 14 0) 81

unfoldable pub tick_line : List ℕ → Option TickLine
tick_line t =
    cond (eqb (length t) 15 && (tick_head t && (tick_words t && tick_kind t)))
    (Some (record {
      full = eqb (get_or t 14 0) 70;
      input = record { code = get_or t 2 0 - 48; sample = unwrap_or (hex_at t 4) 0; attached = unwrap_or (hex_at t 9) 0 };
    }))
    None

-- "A tick prints `T` driven, cells, set (hex), count (decimal), or `T -` idle"
abbrev pub word : ℕ → List ℕ
word w = hex4 w ++ (32 ∷ [])

-- document 02, "Thirty-two cells": "Cell word and woken set are 32 bits there", eight digits
unfoldable pub cell_digits : ℕ → ℕ → List ℕ
cell_digits n w = cond (leb cell_room n) (hex_digits 8 w) (hex4 w)

-- of sixteen cells as before: four
digits-before : (w : ℕ) → cell_digits cell_count w ≡ hex4 w
unfolding cell_digits
digits-before w = refl

abbrev pub cell_word : ℕ → ℕ → List ℕ
cell_word n w = cell_digits n w ++ (32 ∷ [])

abbrev pub ran_text : ℕ → Answer → List ℕ
ran_text n a = (84 ∷ 32 ∷ []) ++ (word a.driven ++ (cell_word n a.cells ++ (cell_word n a.woken ++ (decimal a.count ++ (10 ∷ [])))))

abbrev pub idle_text : List ℕ
idle_text = 84 ∷ 32 ∷ 45 ∷ 10 ∷ []

unfoldable pub tick_text : ℕ → Answer → List ℕ
tick_text n a = cond a.ran (ran_text n a) idle_text

-- ---- a load

-- "`L` (load the store ...; prints `:A` or `:N-k`)"
abbrev pub is_load_line : List ℕ → Bool
is_load_line t = eqb (length t) 1 && eqb (get_or t 0 0) 76

unfoldable pub load_text : ℕ → List ℕ
load_text k = cond (eqb k 0) (58 ∷ 65 ∷ 10 ∷ []) ((58 ∷ 78 ∷ 45 ∷ []) ++ (decimal k ++ (10 ∷ [])))

-- ---- a card line

-- "the rest print replies with LF alone": a reply without its last two bytes, CR LF, and then LF
unfoldable pub plain_reply : List ℕ → List ℕ
plain_reply r = take (length r - 2) r ++ (10 ∷ [])

-- ---- one line of input, to a card of n cells

-- the room that a line asks for; nothing printed is longer
abbrev pub longest_print : ℕ
longest_print = 36

abbrev pub ticked : ℕ → Card → TickLine → Ticked
ticked n c k = tick n k.full c k.input

-- what a line leaves: the card, the store, and the bytes that it prints
pub record Entry : Type 0 where
  pub card : Card
  pub store : List ℕ
  pub printed : List ℕ

abbrev pub by_tick : ℕ → Card → TickLine → List ℕ → Entry
by_tick n c k store = record { card = (ticked n c k).card; store = store; printed = tick_text n (ticked n c k).answer }

abbrev pub by_load : ℕ → Card → List ℕ → Entry
by_load n c store = record { card = loaded n c store; store = store; printed = load_text (load_number n store) }

abbrev pub by_line : ℕ → Card → List ℕ → List ℕ → Entry
by_line n c t store =
    record {
      card = (line_outcome n c t shortest_reply (length store)).card;
      store = store_after n c t shortest_reply store;
      printed = plain_reply (line_reply n c t shortest_reply (length store));
    }

-- the one of a line that is a tick, by the tick, or the other
abbrev pub if_tick : {A : Type 0} → Option TickLine → (TickLine → A) → A → A
if_tick (Some k) f other = f k
if_tick None f other = other

-- a tick, a load, or a card line; a malformed T line is no card line either, and so prints `:N-2`
unfoldable pub entered : ℕ → Card → List ℕ → List ℕ → Entry
entered n c t store = if_tick (tick_line t) (λ k. by_tick n c k store) (cond (is_load_line t) (by_load n c store) (by_line n c t store))

-- ---- what happened

-- a tick with its kind, its input and its answer; a load with its number; a card line with its
-- number
unfoldable pub event_of : ℕ → Card → (text store : List ℕ) → Event
event_of n c t store =
    if_tick (tick_line t)
    (λ k. Tick (record { full = k.full; input = k.input; answer = (ticked n c k).answer }))
    (cond (is_load_line t) (Load (load_number n store)) (Line (line_outcome n c t shortest_reply (length store)).k))

-- the number of the refusal, or 0: no tick is refused
abbrev pub refusal_of : Event → ℕ
refusal_of (Tick _) = 0
refusal_of (Load k) = k
refusal_of (Line k) = k

-- `r` is the answer to a line that leaves `e` by the event `v`; what the line prints is at the
-- front of the output
pub record Enters (e : Entry) (v : Event) (r : Entered) (held before after : List ℕ) : Type 0 where
  pub card : r.card ≡ e.card
  pub event : r.event ≡ v
  pub store : held ≡ e.store
  pub output : after ≡ sets before 0 e.printed
  pub len : r.len ≡ length e.printed
  pub fits : r.len ≤ longest_print
