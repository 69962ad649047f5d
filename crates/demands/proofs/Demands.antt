-- The demands are met, at both sizes of a card. What the laws ask of the number of cells is discharged here, so that no paper has to repeat it.
use Prim.Native.Nat.{ℕ, ◌≤◌, ◌<◌}
use mathlib.Core.Path.{◌≡◌, refl, sym, ap, ◌∙◌}
use mathlib.Core.Bool.{Bool, true, false, ◌&&◌, cond}
use mathlib.Core.List.{List, [], ◌++◌}
use native.Mathlib.Omega.{arith}
use native.Mathlib.Nat.{zero-add, le_refl}
use borrow.Author.Tests.{eqb-true, ltb-false}
use lib.Dec.{eqb, ltb, lit≤, lit<}
use lib.ListN.{length, take, drop, length-append, length-drop}
use lib.Seq.{sets, sets-eq, take-append_seam, drop_at}
use Rattle.cells.proofs.Gates.{looked-and, looked-or, lookup-code}
use Rattle.card.specs.declared.card.Card.{Card}
use Rattle.card.specs.Address.{cell_count, cell_room}
use Rattle.card.specs.Valid.{valid_card}
use Rattle.card.proofs.ValidLaws.{home-clears}
use Rattle.ticks.proofs.Counting.{counts-on}
use Rattle.ticks.proofs.Effective.{effective-bit}
use Rattle.ticks.proofs.Exact.{works-exactly}
use Rattle.ticks.proofs.Quarters.{reads-entry}
use Rattle.ticks.proofs.Timing.{timer-promise, ignores-all}
use Rattle.ticks.proofs.Views.{sees_cell, sees_line}
use Rattle.survey.proofs.Ticks.{unreached}
use Rattle.saved.specs.Record.{config_width, record_of, saved_to}
use Rattle.saved.proofs.Headers.{load-fourteen}
use Rattle.saved.proofs.Records.{load-refused, valid-length, saved-front}
use Rattle.convert.specs.Convert.{convert_number, other_form}
use Rattle.convert.proofs.Conversion.{fitting, conversion}
use Rattle.convert.proofs.Laws.{converted_as, refused_as}
use Rattle.grammar.proofs.Texts.{texts}
use Rattle.lines.specs.declared.line.Outcome.{Outcome}
use Rattle.lines.specs.Line.{shortest_reply, saves, reply_with, reply_of, line_outcome, line_reply, line_result}
use Rattle.calls.specs.Calls.{saved_bytes}
use Rattle.calls.specs.RequiredExamples.{one_table}
use Rattle.calls.proofs.MemoryIsHistory.{who_wakes}
use Rattle.calls.proofs.Lists.{refused-kept, demand3}
use Rattle.calls.proofs.Reached.{fresh-reached-valid}
use Rattle.calls.proofs.Rest.{rest-lasts}
use Rattle.calls.proofs.SaveLoad.{save-room, save_load}
use Rattle.calls.proofs.Sizes.{size-kept}
use Rattle.calls.proofs.Tallied.{every-list-tallied, who-is-named, grows-as-answered}
use Rattle.wiring.specs.Print.{wiring_text, too_long}
use Rattle.wiring.proofs.Feeds.{feeds_back}
use Rattle.wiring.proofs.Longest.{longest-text}
use Rattle.wiring.proofs.Settable.{valid-is-settable}
use Rattle.rack.proofs.Alone.{alone-in-row, shared-timer-promise}
use Rattle.rack.proofs.Buffers.{rack-buffers}
use Rattle.rack.proofs.Cards.{is_card, reached}
use Rattle.rack.proofs.Racks.{rack-demand3}
use Rattle.rack.proofs.Supplies.{within_supply, share-guaranteed}
use Rattle.steady.proofs.Laws.{keeps_all, rests_forever, makes_all, makes_some}
use Rattle.steady.proofs.Lists.{stands-for-ticks, answers-for-ticks}
use Rattle.demands.specs.Demands.{Holds, PrintLeaves, ConvertLeaves, Demand1, Demand2, Demand3}
use Rattle.demands.specs.Demands.{Racks, Requests, Added, Size, Demands}
use Rattle.demands.specs.Demands.Size.{small, large}

-- ---- buffers

-- nothing was written
untouched : (before : List ℕ) → Holds [] before before
untouched before = record { front = refl; beyond = refl; long = refl }

-- what follows bytes that were put in front of a buffer is what lay beyond them
in-front : (bytes before after : List ℕ) → length bytes ≤ length before → after ≡ bytes ++ drop (length bytes) before → Holds bytes before after
in-front bytes before after fits is =
    let rest = drop (length bytes) before in
    record {
      front = ap (take (length bytes)) is ∙ take-append_seam bytes rest;
      beyond = ap (drop (length bytes)) is ∙ drop_at bytes rest (length bytes) refl;
      long = ap length is ∙ length-append bytes rest ∙ omega (arith, length-drop (length bytes) before);
    }

stored-front : (bytes before : List ℕ) → length bytes ≤ length before → Holds bytes before (sets before 0 bytes)
stored-front bytes before fits =
    in-front bytes before (sets before 0 bytes) fits
    (sets-eq bytes before 0 (rw (zero-add (length bytes)) fits) ∙ ap (λ (k : ℕ). bytes ++ drop k before) (zero-add (length bytes)))

-- ---- demand 1

module _ (n : ℕ) (c : Card) (text reply store : List ℕ) where
  -- a reply of at most 16 bytes fits a buffer that gets one
  reply-fits : (b : Bool) → ltb (length reply) shortest_reply ≡ b → (bytes : List ℕ) → length (cond b [] bytes) ≤ shortest_reply
      → length (cond b [] bytes) ≤ length reply
  reply-fits true e bytes most = omega arith
  reply-fits false e bytes most = omega (arith, ltb-false (length reply) shortest_reply e)

  replied : (line_result n c text reply store).len ≤ shortest_reply
      → Holds (line_reply n c text (length reply) (length store)) reply (line_result n c text reply store).reply
  unfolding line_reply
  replied most =
      let o = line_outcome n c text (length reply) (length store) in
      let bytes = reply_of o.k o.response in
      stored-front (reply_with (length reply) o.k o.response) reply
      (reply-fits (ltb (length reply) shortest_reply) refl bytes most)

  stored : valid_card n c ≡ true
      → Holds (saved_bytes n c text (length reply) (length store)) store (line_result n c text reply store).store
  unfolding saved_bytes
  stored ok = go (eqb o.k 0) (saves o.response) refl refl
    where
      o : Outcome
      o = line_outcome n c text (length reply) (length store)

      go : (a b : Bool) → eqb o.k 0 ≡ a → saves o.response ≡ b
          → Holds (cond (a && b) (record_of n config_width c) []) store (cond (a && b) (saved_to n config_width c store) store)
      go true true e s =
          let room = save-room n c text (length reply) (length store) (record { accepted = eqb-true o.k 0 e; saves = s }) in
          let sized = valid-length n config_width c ok in
          in-front (record_of n config_width c) store (saved_to n config_width c store) (omega arith)
          (saved-front n config_width c store ok room ∙ ap (λ (k : ℕ). record_of n config_width c ++ drop k store) (sym sized))
      go true false e s = untouched store
      go false b e s = untouched store

length_replied : (n : ℕ) (c : Card) (text reply store : List ℕ)
    → (line_result n c text reply store).len ≡ length (line_reply n c text (length reply) (length store))
unfolding line_reply
length_replied n c text reply store = refl

print-leaves : (n : ℕ) (c : Card) (buffer : List ℕ) → PrintLeaves n c buffer
print-leaves n c buffer = go (too_long n c (length buffer)) refl
  where
    go : (b : Bool) → too_long n c (length buffer) ≡ b → PrintLeaves n c buffer
    go true e = record { len = rw e; written = rw e (untouched buffer) }
    go false e = record { len = rw e; written = rw e (stored-front (wiring_text n c) buffer (ltb-false (length buffer) (length (wiring_text n c)) e)) }

convert-leaves : (n : ℕ) → 0 < n → n ≤ cell_count → (bytes buffer : List ℕ) → ConvertLeaves n bytes buffer
convert-leaves n some few bytes buffer = go (eqb (convert_number n (length buffer) bytes) 0) refl
  where
    go : (b : Bool) → eqb (convert_number n (length buffer) bytes) 0 ≡ b → ConvertLeaves n bytes buffer
    go true e =
        let ok = eqb-true (convert_number n (length buffer) bytes) 0 e in
        let fit = fitting n some few (length buffer) bytes ok in
        let is = converted_as n bytes buffer ok in
        record {
          len = rw e (sym is.0 ∙ sym fit.0);
          written = rw (e, ← is.1) (stored-front (other_form n bytes) buffer fit.1);
        }
    go false e =
        let is = refused_as n (convert_number n (length buffer) bytes) bytes buffer refl e in
        record { len = rw e (sym is.1); written = rw (e, ← is.2) (untouched buffer) }

-- ---- the theorem

module _ (n : ℕ) (more : cell_count ≤ n) (few : n ≤ cell_room) where
  demand-1 : Demand1 n
  demand-1 =
      record {
        line_refused = λ c text reply store. refused-kept n c text (length reply) (length store);
        length_replied = length_replied n;
        line_replied = replied n;
        line_stored = stored n;
        load = load-refused n;
        print = print-leaves n;
        convert = convert-leaves cell_count (lit< tt) (le_refl cell_count);
      }

  demand-2 : Demand2 n
  demand-2 =
      record {
        texts = texts n;
        save_load = save_load n more;
        fourteen = load-fourteen n (omega arith);
        settable = valid-is-settable n more (omega arith);
        reached = fresh-reached-valid n more;
        examples = one_table;
        lookup = lookup-code;
        sees_cell = sees_cell n;
        sees_line = sees_line n few;
        home = λ c i ok h. home-clears n c ok i h;
      }

  demand-3 : Demand3 n
  demand-3 = record { lists = demand3 n; who_wakes = who_wakes n; exact = works-exactly n }

  racks : Racks n
  racks =
      record {
        interchangeable = rack-demand3 n;
        within_supply = within_supply n;
        four_each = share-guaranteed n;
        is_card = is_card n;
        reached = reached;
        buffers = rack-buffers n;
        alone = alone-in-row n;
      }

  requests : Requests n
  requests =
      record {
        counters = counts-on n;
        ignoring = ignores-all n;
        four_slots = record { and4 = looked-and 0; or4 = looked-or 0 };
        unplugged = effective-bit;
        feeds_back = feeds_back n more (omega arith);
        longest = longest-text n;
        conversion = conversion cell_count (lit< tt) (le_refl cell_count);
        chart = reads-entry n;
        size = size-kept n;
        unreached = unreached n;
        racks = racks;
        tallies = record { every_list = every-list-tallied n; named = who-is-named n; grows = grows-as-answered n };
        takes_trigger = λ c s i timer duration ran took. record { timer = timer; duration = duration; ran = ran; took = took };
        timers = timer-promise n;
        shared_timers = shared-timer-promise n;
      }

  added : Added n
  added =
      record {
        rest = rest-lasts n;
        keeps_all = keeps_all n;
        rests_forever = rests_forever n;
        makes_all = makes_all n;
        makes_some = makes_some n;
        stands = stands-for-ticks n;
        answers = answers-for-ticks n;
      }

  all : Demands n
  all = record { demand1 = demand-1; demand2 = demand-2; demand3 = demand-3; requests = requests; added = added }

pub demands : {n : ℕ} → Size n → Demands n
demands small = all cell_count (le_refl cell_count) (lit≤ tt)
demands large = all cell_room (lit≤ tt) (le_refl cell_room)
