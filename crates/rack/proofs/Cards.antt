-- A card in a rack is a card: each rack call is its own call, a new start, or nothing, and lists follow by one induction.
use Prim.Native.Nat.{ℕ, zero, suc, ◌+◌, ◌-◌, ◌≤◌, ◌<◌}
use mathlib.Core.Path.{◌≡◌, refl, sym, ap, ap₂, subst, ◌∙◌}
use mathlib.Core.Bool.{Bool, true, false, not, ◌&&◌, ◌||◌, cond}
use mathlib.Core.List.{List, [], ◌∷◌, ◌++◌}
use native.Mathlib.Nat.{not-suc-le-zero, le_of_suc-le-suc, le_refl}
use native.Mathlib.Omega.{arith}
use lib.Dec.{eqb, ltb}
use lib.ListN.{length, get_or, set, replicate, length-replicate, get_or-replicate, get_or-append, get_or-map, length-map}
use lib.Seq.{get_or-set_same, get_or-set_other, set-get_or, sets, sets-eq}
use borrow.Author.Tests.{eqb-true, eqb-false, ltb-false}
use Rattle.card.specs.declared.card.Card.{Card}
use Rattle.card.specs.Address.{cell_count}
use Rattle.card.specs.Fresh.{fresh_of}
use Rattle.card.specs.Valid.{valid_card}
use Rattle.ticks.specs.declared.tick.Answer.{Answer}
use Rattle.ticks.specs.declared.tick.Ticked.{Ticked}
use Rattle.saved.specs.Record.{config_width, record_of, load_number, loaded}
use Rattle.saved.proofs.Records.{load-refused}
use Rattle.lines.specs.declared.line.Outcome.{Outcome}
use Rattle.lines.specs.declared.decision.Response.TheVariants.{Silent}
use Rattle.lines.specs.Line.{line_outcome, saves, reply_with}
use Rattle.lines.specs.Line
use Rattle.calls.specs.Runs.{end_of, answers_of, since}
use Rattle.calls.specs.Calls
use Rattle.calls.specs.Calls.{Call, Reply, saved_bytes}
use Rattle.calls.specs.History.{Wakes, WhoWakes}
use Rattle.calls.specs.Tallies.{Tallied, EveryListTallied}
use Rattle.calls.proofs.MemoryIsHistory.{who_wakes}
use Rattle.calls.proofs.Lists.{refused-kept}
use Rattle.calls.proofs.Reached.{fresh-reached-valid}
use Rattle.calls.proofs.Runs.{end-append, answers-append}
use Rattle.calls.proofs.Tallied.{every-list-tallied}
use Rattle.rack.specs.declared.tick.RackInput.{RackInput}
use Rattle.rack.specs.Shared.{shared_lines, shared_tick}
use Rattle.rack.specs.Supply.{most_cards, draws_of, over}
use Rattle.rack.specs.Rack.{no_rack, over_supply, bad_length, bad_row, bad_number, bad_fronts, start_card, start_number, started_row, input_for, low_lines}
use Rattle.rack.specs.Rack.{ticks_from, row_ticks, cards_of, tick_number, ticked_row, idle_answer}
use Rattle.rack.specs.Rack.{row_answers, card_of, outcome_by, number_by, outcome_in, row_outcome, lined_row}
use Rattle.rack.specs.Rack.{load_in, row_load_number, loaded_row}
use Rattle.rack.specs.Rack
use Rattle.rack.specs.Calls.{RackCall, row_reply, row_saved, after_call, answer, end}
use Rattle.rack.specs.Calls.RackCall.{start, line, load, tick}
use Rattle.rack.specs.Demand3.{start_row}
use Rattle.rack.specs.Cards.{Part, goes_to, answer_to, Heard, nothing, heard_more, part_of, heard_next, heard, IsCard, start_lines, calls_to, card_in}
use Rattle.rack.specs.Cards.{Reached, RackTallied, RackValid, RackWakes}
use Rattle.rack.specs.Cards.Part.{none, own, anew}
use Rattle.words.proofs.Bools.{or_left, or_right}
use Rattle.rack.proofs.Ticks.{ticks_long}
use Rattle.rack.proofs.Supplies.{call_long}
use Rattle.rack.proofs.Started.{start-reached}

module _ (n : ℕ) where
  abbrev here : List Card → ℕ → Card
  here cards i = get_or cards i (start_card n)

  -- a card becomes d and answers, by its part in a call
  abbrev Follows : Card → Part → Card → Reply → Type 0
  Follows c none d reply = d ≡ c
  Follows c (own call) d reply = (d ≡ Calls.after_call n c call) × (reply ≡ Calls.answer n c call)
  Follows c anew d reply = d ≡ start_card n

  -- ---- a line or a load, by its outcome

  refused-by : (k : ℕ) → (eqb k over_supply || eqb k no_rack) ≡ true → eqb k 0 ≡ false
  refused-by k e = grind arith

  module _ (cards : List Card) (i : ℕ) (h : i < length cards) (number : ℕ) (call : Call) (o : Outcome) (reply : Outcome → Reply)
      (kept : eqb o.k 0 ≡ false → o.card ≡ card_of n cards number)
      (same : number - 1 ≡ i → (o.card ≡ Calls.after_call n (here cards i) call) × (reply o ≡ Calls.answer n (here cards i) call)) where
    stays : here (set cards (number - 1) (card_of n cards number)) i ≡ here cards i
    stays = ap (λ (l : List Card). here l i) (set-get_or cards (number - 1) (start_card n))

    -- by whether it is the rack that refuses it
    by-rack : number - 1 ≡ i → (b : Bool) → (eqb o.k over_supply || eqb o.k no_rack) ≡ b
        → Follows (here cards i) (cond (not b) (own call) none) (here (set cards (number - 1) o.card) i) (reply o)
    by-rack at true e = ap (λ (d : Card). here (set cards (number - 1) d) i) (kept (refused-by o.k e)) ∙ stays
    by-rack at false e = (
      ap (λ (j : ℕ). here (set cards j o.card) i) at ∙ get_or-set_same cards i o.card (start_card n) h ∙ (same at).0,
      (same at).1,
    )

    by-supply : number - 1 ≡ i → (q : Bool) → let r = outcome_by (cond q over_supply 0) (card_of n cards number) o in
        Follows (here cards i) (cond (not (eqb r.k over_supply || eqb r.k no_rack)) (own call) none) (here (set cards (number - 1) r.card) i) (reply r)
    by-supply at true = stays
    by-supply at false = by-rack at (eqb o.k over_supply || eqb o.k no_rack) refl

    no_part : (m : Bool) (r : Reply) → Follows (here cards i) (cond (m && false) (own call) none) (here (set cards (number - 1) (card_of n cards number)) i) r
    no_part true r = stays
    no_part false r = stays

    by_place : bad_number cards number ≡ false → (m : Bool) → eqb number (suc i) ≡ m
        → let r = outcome_in false (draws_of cards) (number - 1) (card_of n cards number) o in
        Follows (here cards i) (cond (m && not (eqb r.k over_supply || eqb r.k no_rack)) (own call) none) (here (set cards (number - 1) r.card) i)
        (reply r)
    by_place good false p =
        let low = ltb-false number 1 (or_left _ _ (or_right (bad_row cards) _ good)) in
        get_or-set_other cards (number - 1) i _ (start_card n) (λ (e : i ≡ number - 1). eqb-false number (suc i) p (omega (arith, low, e)))
    by_place good true p =
        let e = eqb-true number (suc i) p in
        by-supply (omega (arith, e)) (eqb o.k 0 && over (draws_of cards) (number - 1) (card_of n cards number).connectors o.card.connectors)

    by-outcome : (b : Bool) → bad_number cards number ≡ b → let r = outcome_in b (draws_of cards) (number - 1) (card_of n cards number) o in
        Follows (here cards i) (goes_to i number r.k call) (here (set cards (number - 1) r.card) i) (reply r)
    by-outcome true e = no_part (eqb number (suc i)) _
    by-outcome false e = by_place e (eqb number (suc i)) refl

  -- ---- a tick

  module _ (full : Bool) (r : RackInput) (low : ℕ) where
    at_tick : (j : ℕ) (cards : List Card) (i k : ℕ) (t : Ticked) → i < length cards → k ≡ j + i
        → get_or (ticks_from n full r low j cards) i t ≡ shared_tick n full (here cards i) (input_for r k) low
    unfolding ticks_from
    at_tick j [] i k t h e = absurd (not-suc-le-zero h)
    at_tick j (c ∷ cs) zero k t h e =
        let same : j ≡ k = omega (arith, e) in
        ap (λ (m : ℕ). shared_tick n full c (input_for r m) low) same
    at_tick j (c ∷ cs) (suc i) k t h e = at_tick (suc j) cs i k t (le_of_suc-le-suc h) (omega (arith, e))

    abbrev none_yet : Ticked
    none_yet = record { card = start_card n; answer = idle_answer }

    card-ticked : (cards : List Card) (i : ℕ) → i < length cards
        → here (cards_of (ticks_from n full r low 0 cards)) i ≡ (shared_tick n full (here cards i) (input_for r i) low).card
    card-ticked cards i h =
        get_or-map (λ (t : Ticked). t.card) (ticks_from n full r low 0 cards) i none_yet
        ∙ ap (λ (t : Ticked). t.card) (at_tick 0 cards i i none_yet h (omega arith))

    answer-ticked : (cards : List Card) (i : ℕ) → i < length cards → length cards ≤ most_cards
        → get_or (sets (replicate most_cards idle_answer) 0 (Rack.answers_of (ticks_from n full r low 0 cards))) i idle_answer
        ≡ (shared_tick n full (here cards i) (input_for r i) low).answer
    answer-ticked cards i h few =
        let ts = ticks_from n full r low 0 cards in
        let long : length (Rack.answers_of ts) ≡ length cards = length-map ts (λ (t : Ticked). t.answer) ∙ ticks_long n full r low 0 cards in
        ap (λ (l : List Answer). get_or l i idle_answer) (sets-eq (Rack.answers_of ts) (replicate most_cards idle_answer) 0 (omega (arith, long, few)))
        ∙ get_or-append (Rack.answers_of ts) _ idle_answer i (omega (arith, long, h))
        ∙ get_or-map (λ (t : Ticked). t.answer) ts i none_yet
        ∙ ap (λ (t : Ticked). t.answer) (at_tick 0 cards i i none_yet h (omega arith))

  -- ---- every call, on any row

  pub call-follows : (cards : List Card) (call : RackCall) (i : ℕ) → i < length cards
      → Follows (here cards i) (part_of n i cards call) (here (after_call n cards call) i) (answer_to i (answer n cards call))
  unfolding part_of after_call answer answer_to start_number started_row tick_number ticked_row row_answers shared_tick row_outcome lined_row row_load_number loaded_row
      row_reply row_saved Calls.after_call Calls.answer Line.line_reply saved_bytes
  call-follows cards start i h = go (bad_row cards)
    where
      go : (b : Bool) → Follows (here cards i) (cond (eqb (cond b no_rack 0) 0) anew none) (here (cond b cards (replicate (length cards) (start_card n))) i)
          (Calls.Reply.load_reply (cond b no_rack 0))
      go true = refl
      go false = get_or-replicate (length cards) i (start_card n) (start_card n) h
  call-follows cards (line number text reply store) i h =
      let c = card_of n cards number in
      by-outcome cards i h number (Calls.Call.line text reply store) (line_outcome n c text (length reply) (length store))
      (λ o. Calls.Reply.line_reply o.k (reply_with (length reply) o.k o.response)
      (cond (eqb o.k 0 && saves o.response) (record_of n config_width c) []))
      (refused-kept n c text (length reply) (length store))
      (λ at. (
        ap (λ (d : Card). Calls.after_call n d (Calls.Call.line text reply store)) (ap (here cards) at),
        ap (λ (d : Card). Calls.answer n d (Calls.Call.line text reply store)) (ap (here cards) at),
      ))
      (bad_number cards number) refl
  call-follows cards (load number bytes) i h =
      let c = card_of n cards number in
      let o : Outcome = record { k = load_number n bytes; card = loaded n c bytes; response = Silent } in
      let same = as-outcome (bad_number cards number) in
      rw (same.1, same.0) (by-outcome cards i h number (Calls.Call.load bytes) o (λ o. Calls.Reply.load_reply o.k) (load-refused n c bytes)
      (λ at. (ap (λ (d : Card). loaded n d bytes) (ap (here cards) at), refl)) (bad_number cards number) refl)
    where
      k' : Bool → ℕ
      k' b = load_in b (draws_of cards) (number - 1) (card_of n cards number) (load_number n bytes) (loaded n (card_of n cards number) bytes)

      r : Bool → Outcome
      r b = outcome_in b (draws_of cards) (number - 1) (card_of n cards number)
          (record { k = load_number n bytes; card = loaded n (card_of n cards number) bytes; response = Silent })

      as-outcome : (b : Bool) → (k' b ≡ (r b).k) × (cond (eqb (k' b) 0) (loaded n (card_of n cards number) bytes) (card_of n cards number) ≡ (r b).card)
      as-outcome true = (refl, refl)
      as-outcome false =
          go (eqb (load_number n bytes) 0 && over (draws_of cards) (number - 1) (card_of n cards number).connectors
          (loaded n (card_of n cards number) bytes).connectors)
        where
          go : (q : Bool) → let k = number_by (cond q over_supply 0) (load_number n bytes) in
              let o : Outcome = outcome_by (cond q over_supply 0) (card_of n cards number)
              (record { k = load_number n bytes; card = loaded n (card_of n cards number) bytes; response = Silent }) in
              (k ≡ o.k) × (cond (eqb k 0) (loaded n (card_of n cards number) bytes) (card_of n cards number) ≡ o.card)
          go true = (refl, refl)
          go false = (refl, last (eqb (load_number n bytes) 0) refl)
            where
              last : (b : Bool) → eqb (load_number n bytes) 0 ≡ b → cond b (loaded n (card_of n cards number) bytes) (card_of n cards number)
                  ≡ loaded n (card_of n cards number) bytes
              last true e = refl
              last false e = sym (load-refused n (card_of n cards number) bytes e)
  call-follows cards (tick full input) i h = go (bad_fronts cards input) refl
    where
      low : ℕ
      low = low_lines n input.code 0 cards

      go : (b : Bool) → bad_fronts cards input ≡ b
          → Follows (here cards i)
          (cond (eqb (cond b no_rack 0) 0) (own (Calls.Call.tick full input.code
          (λ c. shared_lines n c (input_for input i) (low_lines n input.code 0 cards)))) none)
          (here (cond b cards (cards_of (row_ticks n full input cards))) i)
          (Calls.Reply.tick_reply (get_or (cond b (replicate most_cards idle_answer) (sets (replicate most_cards idle_answer) 0
          (Rack.answers_of (row_ticks n full input cards)))) i idle_answer))
      go true e = refl
      go false e =
          let few = ltb-false most_cards (length cards) (or_right (ltb (length cards) 1) _
          (or_left (bad_length (length cards)) _ (or_left (bad_row cards) _ e))) in
          (card-ticked full input _ cards i h, ap Calls.Reply.tick_reply (answer-ticked full input _ cards i h few))

  -- ---- lists

  module _ (was : Heard) (c : Card) (card : c ≡ Calls.end n (start_card n) was.calls)
      (replies : was.replies ≡ Calls.answers n (start_card n) was.calls) where
    more : (part : Part) (d : Card) (reply : Reply) → Follows c part d reply → let w = heard_more was part reply in
        (d ≡ Calls.end n (start_card n) w.calls) × (w.replies ≡ Calls.answers n (start_card n) w.calls)
    unfolding heard_more end_of answers_of
    more none d reply f = (f ∙ card, replies)
    more (own call) d reply f = (
      f.0 ∙ ap (λ (x : Card). Calls.after_call n x call) card ∙ sym (end-append (Calls.after_call n) (start_card n) was.calls (call ∷ [])),
      ap₂ (λ (a : List Reply) (b : Reply). a ++ (b ∷ [])) replies (f.1 ∙ ap (λ (x : Card). Calls.answer n x call) card)
          ∙ sym (answers-append (Calls.after_call n) (Calls.answer n) (start_card n) was.calls (call ∷ [])),
    )
    more anew d reply f = (f, refl)

  list-follows : (calls : List RackCall) (row : List Card) (i : ℕ) (was : Heard) → i < length row → here row i ≡ Calls.end n (start_card n) was.calls
      → was.replies ≡ Calls.answers n (start_card n) was.calls
      → let w = since (after_call n) (heard_next n i) row calls was in
      (here (end n row calls) i ≡ Calls.end n (start_card n) w.calls) × (w.replies ≡ Calls.answers n (start_card n) w.calls)
  unfolding end_of since heard_next
  list-follows [] row i was h card replies = (card, replies)
  list-follows (call ∷ calls) row i was h card replies =
      let step = more was (here row i) card replies (part_of n i row call) (here (after_call n row call) i) (answer_to i (answer n row call))
      (call-follows row call i h) in
      list-follows calls (after_call n row call) i (heard_next n i row call was) (subst (λ (m : ℕ). i < m) (sym (call_long n row call)) h) step.0 step.1

  pub is_card : IsCard n
  unfolding IsCard end_of answers_of
  is_card cards calls i h =
      let row = replicate cards (start_card n) in
      let all = list-follows calls row i nothing (subst (λ (m : ℕ). i < m) (sym (length-replicate cards (start_card n))) h)
      (get_or-replicate cards i (start_card n) (start_card n) h) refl in
      record { card = all.0; replies = all.1 }

-- ---- from a fresh card

pub reached : Reached
unfolding Reached IsCard
reached cards calls i h =
    let heard_all = (heard cell_count i (start_row cell_count cards) calls).calls in
    (is_card cell_count cards calls i h).card
    ∙ ap (λ (c : Card). Calls.end cell_count c heard_all) (sym start-reached)
    ∙ sym (end-append (Calls.after_call cell_count) (fresh_of cell_count) start_lines heard_all)

-- so what holds after every list of calls on a fresh card holds of every card of a rack
pub of-every : (P : Card → List Call → Type 0) → ((calls : List Call) → P (Calls.end cell_count (fresh_of cell_count) calls) calls)
    → (cards : ℕ) (calls : List RackCall) (i : ℕ) → i < cards → P (card_in cards calls i) (calls_to cards calls i)
unfolding Reached
of-every P every cards calls i h = subst (λ (c : Card). P c (calls_to cards calls i)) (sym (reached cards calls i h)) (every (calls_to cards calls i))

pub rack-tallied : RackTallied
unfolding RackTallied EveryListTallied
rack-tallied = of-every (Tallied cell_count) (every-list-tallied cell_count)

pub rack-valid : RackValid
unfolding RackValid
rack-valid = of-every (λ (c : Card) (calls : List Call). valid_card cell_count c ≡ true) (fresh-reached-valid cell_count (le_refl cell_count))

pub rack-wakes : RackWakes
unfolding RackWakes WhoWakes
rack-wakes = of-every (Wakes cell_count) (who_wakes cell_count)
