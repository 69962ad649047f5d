-- A line and a load to the card of a number: what is decided on that card by itself, and what the rack refuses of it.
use Prim.Native.Nat.{ℕ, ◌-◌}
use mathlib.Core.Path.{◌≡◌, refl, sym, ap, ◌∙◌}
use mathlib.Core.Bool.{Bool, true, false, ◌&&◌, cond}
use mathlib.Core.List.{List, []}
use lib.Dec.{eqb, ltb}
use lib.ListN.{length, get_or, set}
use lib.Seq.{sets}
use Rattle.std.proofs.lemmas.List.{get_or_default, set-get_or}
use Rattle.card.specs.declared.card.Card.{Card}
use Rattle.card.specs.Address.{cell_count, cells_for}
use Rattle.card.specs.Context.{context_of}
use Rattle.card.specs.Change.{changed}
use Rattle.saved.specs.Record.{config_width, saved_to, load_number, loaded}
use Rattle.std.specs.Prelude.{Result, Err}
use Rattle.lines.specs.declared.decision.Accepted.{Accepted}
use Rattle.lines.specs.declared.refused.Refused.{Refused as LineRefused}
use Rattle.lines.specs.declared.decision.Response.TheVariants.{Silent}
use Rattle.lines.specs.declared.decision.Response.{Response}
use Rattle.lines.specs.declared.line.Outcome.{Outcome}
use Rattle.lines.specs.Line.{saves, number_in, change_in, response_in, shortest_reply, acceptance, refusal_text, reply_of, reply_with, line_decision, line_outcome, result_for}
use Rattle.calls.proofs.Lists.{refused-kept}
use Rattle.rack.specs.declared.row.Refused.{Refused}
use Rattle.rack.specs.declared.row.Refused.TheVariants.{OverSupply, ByCard}
use Rattle.rack.specs.Supply.{draws_of, over}
use Rattle.rack.specs.Rack.{over_supply, start_card, card_of, refusal_number, outcome_by, outcome_in, row_outcome, number_by, load_in, row_load_number}
use Rattle.rack.specs.Rack.{RowResult, row_result}
use Rattle.rack.specs.Row.{IsPlace, IsRefused}
use Rattle.rack.proofs.Rows.{taken-size}
use Rattle.rack.proofs.Takes.{Placed, taken-bad, taken-over}

module _ (cards : List Card) (number : ℕ) where
  abbrev c : Card
  c = card_of cell_count cards number

  -- what is read at its place
  module _ (place : ℕ) (d : Card) (at : IsPlace cards number place) where
    abbrev own : Card
    own = get_or cards place d

    pub here : own ≡ c
    here = get_or_default cards place d (start_card cell_count) at.in_bounds ∙ ap (λ (i : ℕ). get_or cards i (start_card cell_count)) at.value

    pub size : cells_for own.size ≡ cell_count
    size = ap (λ (x : Card). cells_for x.size) here ∙ taken-size cards number at.good

    pub supply : (b : Card) (many : Bool) → over (draws_of cards) place own.connectors b.connectors ≡ many
        → over (draws_of cards) (number - 1) c.connectors b.connectors ≡ many
    supply b many e =
        sym (taken-over cards number place c.connectors b.connectors at)
        ∙ (λ i. over (draws_of cards) place (sym here i).connectors b.connectors) ∙ e

    -- and saved from there
    pub saved_here : (saves : Bool) (store after : List ℕ) → after ≡ cond saves (saved_to (cells_for own.size) config_width own store) store
        → after ≡ cond saves (saved_to cell_count config_width c store) store
    saved_here saves store after e = e ∙ (λ i. cond saves (saved_to (size i) config_width (here i) store) store)

  -- ---- a line

  module _ (text : List ℕ) (reply store : ℕ) where
    abbrev o : Outcome
    o = row_outcome cell_count cards number text reply store

    pub no_card : (why : Refused) → Placed cards number (Err why) → IsRefused c o why
    unfolding row_outcome
    no_card why h = rw (h.0, sym (taken-bad cards number (Err why) h)) (refl, refl, refl)

    module _ (place : ℕ) (d : Card) (at : IsPlace cards number place) (x : Result Accepted LineRefused) (next : Card)
        (said : let n = cells_for (own place d at).size in x ≡ line_decision n (context_of n (own place d at)) text reply store)
        (made : next ≡ changed (cells_for (own place d at).size) (own place d at) (change_in x)) where
      abbrev alone : Outcome
      alone = record { k = number_in x; card = next; response = response_in x }

      is_alone : alone ≡ line_outcome cell_count c text reply store
      unfolding line_outcome
      is_alone =
          let e = here place d at in
          let n = size place d at in
          let x' = said ∙ (λ i. line_decision (n i) (context_of (n i) (e i)) text reply store) in
          let next' = made ∙ (λ i. changed (n i) (e i) (change_in (x' i))) in
          λ i. record { k = number_in (x' i); card = next' i; response = response_in (x' i) }

      in-rack : o ≡ outcome_in false (draws_of cards) (number - 1) c alone
      unfolding row_outcome
      in-rack =
          (λ i. outcome_in (at.good i) (draws_of cards) (number - 1) c (line_outcome cell_count c text reply store))
          ∙ ap (outcome_in false (draws_of cards) (number - 1) c) (sym is_alone)

      pub by_card : eqb (number_in x) 0 ≡ false → IsRefused c o (ByCard (number_in x))
      by_card e =
          let kept = ap (λ (r : Outcome). r.card) is_alone ∙ refused-kept cell_count c text reply store (ap (λ (r : Outcome). eqb r.k 0) (sym is_alone) ∙ e) in
          let own : outcome_in false (draws_of cards) (number - 1) c alone ≡ alone =
          ap (λ (b : Bool). outcome_by (cond (b && over (draws_of cards) (number - 1) c.connectors next.connectors) over_supply 0) c alone) e in
          rw (in-rack, own) (refl, e, kept)

      module _ (zero : number_in x ≡ 0) (many : Bool) (over-is : over (draws_of cards) place (own place d at).connectors next.connectors ≡ many) where
        by-many : o ≡ outcome_by (cond many over_supply 0) c (record { k = 0; card = next; response = response_in x })
        by-many =
            in-rack ∙ (λ i. outcome_by (cond (eqb (zero i) 0 && supply place d at next many over-is i) over_supply 0) c
            (record { k = zero i; card = next; response = response_in x }))

      pub by_supply : number_in x ≡ 0 → over (draws_of cards) place (own place d at).connectors next.connectors ≡ true → IsRefused c o OverSupply
      by_supply zero many = rw (by-many zero true many) (refl, refl, refl)

      pub accepted : number_in x ≡ 0 → over (draws_of cards) place (own place d at).connectors next.connectors ≡ false
          → o ≡ record { k = 0; card = next; response = response_in x }
      accepted zero few = by-many zero false few

  -- ---- a load

  module _ (bytes : List ℕ) where
    pub no_card_load : (why : Refused) → Placed cards number (Err why) → let k = row_load_number cell_count cards number bytes in
        (k ≡ refusal_number why) × (eqb k 0 ≡ false)
    unfolding row_load_number
    no_card_load why h = rw (h.0, sym (taken-bad cards number (Err why) h)) (refl, refl)

    module _ (place : ℕ) (d : Card) (at : IsPlace cards number place) (k : ℕ) (next : Card)
        (k-is : k ≡ load_number (cells_for (own place d at).size) bytes) (next-is : next ≡ loaded (cells_for (own place d at).size) (own place d at) bytes) where
      pub next_loaded : next ≡ loaded cell_count c bytes
      next_loaded = next-is ∙ (λ i. loaded (size place d at i) (here place d at i) bytes)

      number-in : (many : Bool) → over (draws_of cards) place (own place d at).connectors next.connectors ≡ many
          → row_load_number cell_count cards number bytes ≡ number_by (cond (eqb k 0 && many) over_supply 0) k
      unfolding row_load_number
      number-in many e =
          let k' = k-is ∙ (λ i. load_number (size place d at i) bytes) in
          (λ i. load_in (at.good i) (draws_of cards) (number - 1) c (load_number cell_count bytes) (loaded cell_count c bytes))
          ∙ (λ i. load_in false (draws_of cards) (number - 1) c (sym k' i) (sym next_loaded i))
          ∙ (λ i. number_by (cond (eqb k 0 && supply place d at next many e i) over_supply 0) k)

      pub number_by_card : (many : Bool) → over (draws_of cards) place (own place d at).connectors next.connectors ≡ many → eqb k 0 ≡ false
          → row_load_number cell_count cards number bytes ≡ k
      number_by_card many e other = number-in many e ∙ ap (λ (b : Bool). number_by (cond (b && many) over_supply 0) k) other

      pub number_by_supply : (many : Bool) → over (draws_of cards) place (own place d at).connectors next.connectors ≡ many → k ≡ 0
          → row_load_number cell_count cards number bytes ≡ cond many over_supply 0
      number_by_supply many e zero = number-in many e ∙ rw zero (same many)
        where
          same : (b : Bool) → number_by (cond b over_supply 0) 0 ≡ cond b over_supply 0
          same true = refl
          same false = refl

  -- ---- what the calls leave

  module _ (text reply store : List ℕ) where
    abbrev result : RowResult
    result = row_result cell_count cards number text reply store

    -- a refused line writes its number, and nothing else
    pub refused_result : (k : ℕ) → (let r = row_outcome cell_count cards number text (length reply) (length store) in
        (r.k ≡ k) × (eqb r.k 0 ≡ false) × (r.card ≡ c))
        → record { k = k; len = length (reply_with (length reply) k Silent); row = cards; reply = sets reply 0 (reply_with (length reply) k Silent); store = store }
        ≡ result
    unfolding row_result reply_of
    refused_result k h =
        let r = row_outcome cell_count cards number text (length reply) (length store) in
        let zero = ap (λ (m : ℕ). eqb m 0) (sym h.0) ∙ h.1 in
        let by : Bool → Response → ℕ → List ℕ = λ b response m. cond (ltb (length reply) shortest_reply) [] (cond b (acceptance response) (refusal_text m)) in
        let said : reply_with (length reply) k Silent ≡ reply_with (length reply) r.k r.response = ap (λ (b : Bool). by b Silent k) zero
        ∙ ap (by false r.response) (sym h.0) ∙ ap (λ (b : Bool). by b r.response r.k) (sym h.1) in
        let row = sym (set-get_or cards (number - 1) (start_card cell_count)) ∙ ap (set cards (number - 1)) (sym h.2) in
        let kept = ap (λ (b : Bool). cond (b && saves r.response) (saved_to cell_count config_width c store) store) (sym h.1) in
        λ i. record { k = sym h.0 i; len = length (said i); row = row i; reply = sets reply 0 (said i); store = kept i }

    pub accepted_result : (card : Card) (response : Response)
        → row_outcome cell_count cards number text (length reply) (length store) ≡ record { k = 0; card = card; response = response }
        → record {
          k = 0;
          len = length (reply_with (length reply) 0 response);
          row = set cards (number - 1) card;
          reply = sets reply 0 (reply_with (length reply) 0 response);
          store = cond (saves response) (saved_to cell_count config_width c store) store;
        }
        ≡ result
    unfolding row_result
    accepted_result card response e =
        sym (ap (λ (o : Outcome). let r = result_for cell_count c o reply store in
        record { k = r.k; len = r.len; row = set cards (number - 1) r.card; reply = r.reply; store = r.store }) e)
