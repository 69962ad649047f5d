-- The supply of a rack: from the start on the sum is never over 16, so each card always gets its four.
use Prim.Native.Nat.{ℕ, suc, ◌-◌, ◌*◌, ◌≤◌, ◌<◌}
use mathlib.Core.Path.{◌≡◌, refl, sym, ap, ap₂, ◌∙◌, subst}
use mathlib.Core.Bool.{Bool, true, false, not, ◌&&◌, cond}
use mathlib.Core.List.{List, [], ◌∷◌}
use native.Mathlib.Nat.{le_refl}
use native.Mathlib.Omega.{arith}
use lib.Dec.{eqb, ltb}
use lib.ListN.{length, get_or, set, replicate, length-map, length-set, length-replicate}
use Rattle.std.specs.List.{sum}
use Rattle.std.proofs.lemmas.List.{map-set, set-get_or}
use Rattle.std.proofs.lemmas.List.Sums.{sum-map}
use Rattle.std.proofs.Math.Bool.{and-false}
use Rattle.std.proofs.lemmas.Bool.{cond_both}
use Rattle.std.proofs.lemmas.List.Folds.{sum_by-replicate}
use borrow.Author.Tests.{ltb-false, le-ltb}
use Rattle.card.specs.declared.card.Card.{Card}
use Rattle.card.specs.declared.card.Connectors.{Connectors}
use Rattle.ticks.specs.declared.tick.Ticked.{Ticked}
use Rattle.saved.specs.Record.{load_number, loaded}
use Rattle.lines.specs.declared.line.Outcome.{Outcome}
use Rattle.lines.specs.Line.{line_outcome}
use Rattle.calls.proofs.Lists.{refused-kept}
use Rattle.calls.proofs.Runs.{invariant}
use Rattle.rack.specs.declared.tick.RackInput.{RackInput}
use Rattle.rack.specs.Supply.{most_cards, supply, share, pushes, draw, same_fronts, draws_of, draws, over}
use Rattle.rack.specs.Rack.{no_rack, over_supply, bad_length, bad_row, bad_fronts, bad_number, start_card, started_row, input_for, low_lines}
use Rattle.rack.specs.Rack.{ticks_from, row_ticks, cards_of, ticked_row}
use Rattle.rack.specs.Rack.{card_of, outcome_by, number_by, outcome_in, row_outcome, lined_row, row_load_number, loaded_row}
use Rattle.rack.specs.Calls.{RackCall, after_call, end}
use Rattle.rack.specs.Calls.RackCall.{start, line, load, tick}
use Rattle.rack.specs.Demand3.{WithinSupply, ShareGuaranteed}
use Rattle.words.proofs.Bools.{or_left, or_right}
use Rattle.rack.proofs.Rows.{in-range}
use Rattle.rack.proofs.Ticks.{ticks_long}
use Rattle.rack.proofs.Draws.{drawn, draws-set, same-draw, tick-draw, start-draw}

-- ---- what one card draws

draw-share : (a : Connectors) → share ≤ draw a
unfolding draw
draw-share a = omega arith

draw-least : (a : Connectors) → pushes a ≤ share → draw a ≡ share
unfolding draw
draw-least a h = omega arith

-- ---- the sum with another card in a place

-- a card that draws no more than the one in its place
no_more : (cards : List Card) (i : ℕ) (x d : Card) → i < length cards → drawn d ≤ drawn (get_or cards i x) → sum (set (draws_of cards) i (drawn d)) ≤ draws cards
no_more cards i x d h less =
    let e = draws-set cards i x (drawn d) h in
    omega (arith, e, less)

set-draws : (cards : List Card) (i : ℕ) (d : Card) → sum (set (draws_of cards) i (drawn d)) ≤ supply → draws (set cards i d) ≤ supply
set-draws cards i d h = subst (λ (l : List ℕ). sum l ≤ supply) (sym (map-set drawn cards i d)) h

-- a change that the supply bears
not-over : (cards : List Card) (i : ℕ) (x d : Card) → i < length cards → draws cards ≤ supply
    → over (draws_of cards) i (get_or cards i x).connectors d.connectors ≡ false
    → draws (set cards i d) ≤ supply
unfolding over
not-over cards i x d h within e = set-draws cards i d (go (same_fronts (get_or cards i x).connectors d.connectors) refl e)
  where
    go : (b : Bool) → same_fronts (get_or cards i x).connectors d.connectors ≡ b → (not b && ltb supply (sum (set (draws_of cards) i (drawn d)))) ≡ false
        → sum (set (draws_of cards) i (drawn d)) ≤ supply
    go true same z =
        let l = no_more cards i x d h (subst (λ (m : ℕ). drawn d ≤ m) (sym (same-draw (get_or cards i x).connectors d.connectors same))
        (le_refl (drawn d))) in
        omega (arith, l, within)
    go false same z = ltb-false supply (sum (set (draws_of cards) i (drawn d))) z

-- "each card always gets its four": a change that leaves at most four is not over it
four-free : (cards : List Card) (i : ℕ) (x d : Card) → i < length cards → draws cards ≤ supply → pushes d.connectors ≤ share
    → over (draws_of cards) i (get_or cards i x).connectors d.connectors ≡ false
unfolding over
four-free cards i x d h within few =
    let least : drawn d ≤ drawn (get_or cards i x) = subst (λ (m : ℕ). m ≤ drawn (get_or cards i x)) (sym (draw-least d.connectors few))
    (draw-share (get_or cards i x).connectors) in
    let l = no_more cards i x d h least in
    let under : sum (set (draws_of cards) i (drawn d)) ≤ supply = omega (arith, l, within) in
    rw (le-ltb supply (sum (set (draws_of cards) i (drawn d))) under) (and-false (not (same_fronts (get_or cards i x).connectors d.connectors)))

same_place : (cards : List Card) (i : ℕ) (x : Card) → draws cards ≤ supply → draws (set cards i (get_or cards i x)) ≤ supply
same_place cards i x within = subst (λ (l : List Card). draws l ≤ supply) (sym (set-get_or cards i x)) within

module _ (n : ℕ) where
  -- ---- a tick changes no connector

  ticks-draw : (full : Bool) (r : RackInput) (low i : ℕ) (cards : List Card) → draws_of (cards_of (ticks_from n full r low i cards)) ≡ draws_of cards
  unfolding ticks_from
  ticks-draw full r low i [] = refl
  ticks-draw full r low i (c ∷ cs) = ap₂ (λ (x : ℕ) (xs : List ℕ). x ∷ xs) (tick-draw n full c (input_for r i) low) (ticks-draw full r low (suc i) cs)

  -- ---- a start

  fill-draws : (m : ℕ) → draws (replicate m (start_card n)) ≡ m * share
  fill-draws m = sum-map drawn (replicate m (start_card n)) ∙ sum_by-replicate drawn m (start_card n) ∙ ap (λ (k : ℕ). m * k) (start-draw n)

  start-within : (m : ℕ) → m ≤ most_cards → draws (replicate m (start_card n)) ≤ supply
  start-within m h =
      let all = fill-draws m in
      omega (arith, all, h)

  -- ---- a line and a load

  outcome-within : (cards : List Card) (number : ℕ) (b : Bool) (o : Outcome) → bad_number cards number ≡ b → draws cards ≤ supply
      → (eqb o.k 0 ≡ false → o.card ≡ card_of n cards number)
      → draws (set cards (number - 1) (outcome_in b (draws_of cards) (number - 1) (card_of n cards number) o).card) ≤ supply
  outcome-within cards number true o e within kept = same_place cards (number - 1) (start_card n) within
  outcome-within cards number false o e within kept = go (eqb o.k 0) refl
      (over (draws_of cards) (number - 1) (card_of n cards number).connectors o.card.connectors) refl
    where
      go : (a : Bool) → eqb o.k 0 ≡ a → (b : Bool) → over (draws_of cards) (number - 1) (card_of n cards number).connectors o.card.connectors ≡ b
          → draws (set cards (number - 1) (outcome_by (cond (a && b) over_supply 0) (card_of n cards number) o).card) ≤ supply
      go true p true q = same_place cards (number - 1) (start_card n) within
      go true p false q = not-over cards (number - 1) (start_card n) o.card (in-range cards number e) within q
      go false p b q = rw (kept p) (same_place cards (number - 1) (start_card n) within)

  line-within : (cards : List Card) (number : ℕ) (text : List ℕ) (reply store : ℕ) → draws cards ≤ supply
      → draws (lined_row n cards number text reply store) ≤ supply
  unfolding lined_row row_outcome
  line-within cards number text reply store within =
      let c = card_of n cards number in
      outcome-within cards number (bad_number cards number) (line_outcome n c text reply store) refl within (refused-kept n c text reply store)

  load-within : (cards : List Card) (number : ℕ) (bytes : List ℕ) → draws cards ≤ supply → draws (loaded_row n cards number bytes) ≤ supply
  unfolding loaded_row row_load_number
  load-within cards number bytes within = go (bad_number cards number) refl (eqb (load_number n bytes) 0) refl
      (over (draws_of cards) (number - 1) c.connectors d.connectors) refl
    where
      c : Card
      c = card_of n cards number

      d : Card
      d = loaded n c bytes

      stays : draws (set cards (number - 1) c) ≤ supply
      stays = same_place cards (number - 1) (start_card n) within

      go : (b : Bool) → bad_number cards number ≡ b → (a : Bool) → eqb (load_number n bytes) 0 ≡ a → (v : Bool)
          → over (draws_of cards) (number - 1) c.connectors d.connectors ≡ v
          → draws (set cards (number - 1) (cond (eqb (number_by (cond b no_rack (cond (a && v) over_supply 0)) (load_number n bytes)) 0) d c)) ≤ supply
      go true e a f v g = stays
      go false e true f true g = stays
      go false e true f false g = rw f (not-over cards (number - 1) (start_card n) d (in-range cards number e) within g)
      go false e false f v g = rw f stays

  -- ---- every call

  pub call-within : (cards : List Card) (call : RackCall) → draws cards ≤ supply → draws (after_call n cards call) ≤ supply
  unfolding after_call started_row ticked_row
  call-within cards start within =
      cond_both (bad_row cards) cards _ (λ (row : List Card). draws row ≤ supply) (λ e. within)
      (λ e. start-within (length cards) (ltb-false most_cards (length cards) (or_right (ltb (length cards) 1) _ (or_left (bad_length (length cards)) _ e))))
  call-within cards (line number text reply store) within = line-within cards number text (length reply) (length store) within
  call-within cards (load number bytes) within = load-within cards number bytes within
  call-within cards (tick full input) within =
      cond_both (bad_fronts cards input) cards _ (λ (row : List Card). draws row ≤ supply) (λ e. within)
      (λ e. rw (ap sum (ticks-draw full input (low_lines n input.code 0 cards) 0 cards)) within)

  -- no call changes how many cards there are
  pub call_long : (cards : List Card) (call : RackCall) → length (after_call n cards call) ≡ length cards
  unfolding after_call started_row lined_row loaded_row ticked_row
  call_long cards start = cond_both (bad_row cards) cards _ (λ (row : List Card). length row ≡ length cards) (λ e. refl) (λ e. length-replicate (length cards) (start_card n))
  call_long cards (line number text reply store) = length-set cards (number - 1) _
  call_long cards (load number bytes) = length-set cards (number - 1) _
  call_long cards (tick full input) =
      cond_both (bad_fronts cards input) cards _ (λ (row : List Card). length row ≡ length cards) (λ e. refl)
      (λ e. length-map (row_ticks n full input cards) (λ (t : Ticked). t.card) ∙ ticks_long n full input (low_lines n input.code 0 cards) 0 cards)

  -- ---- lists

  pub within_supply : WithinSupply n
  unfolding WithinSupply
  within_supply cards calls few =
      invariant (after_call n) (λ row. draws row ≤ supply) call-within (replicate cards (start_card n)) calls (start-within cards few)

  list-long : (cards : ℕ) (calls : List RackCall) → length (end n (replicate cards (start_card n)) calls) ≡ cards
  list-long cards calls =
      invariant (after_call n) (λ row. length row ≡ cards) (λ row call e. call_long row call ∙ e) (replicate cards (start_card n)) calls
      (length-replicate cards (start_card n))

  pub share-guaranteed : ShareGuaranteed n
  unfolding ShareGuaranteed WithinSupply
  share-guaranteed cards calls i d few h least =
      let row = end n (replicate cards (start_card n)) calls in
      four-free row i (start_card n) d (subst (λ (m : ℕ). i < m) (sym (list-long cards calls)) h) (within_supply cards calls few) least
