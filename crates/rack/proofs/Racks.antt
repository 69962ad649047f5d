-- Demand 3 for racks: every rack call keeps every card settled, and on settled cards quick and full rack ticks do the same. Of the ticks only the two laws of
-- one card with any lines are used, and the lists are those of any state.
use Prim.Native.Nat.{ℕ, zero, suc, ◌-◌}
use mathlib.Core.Path.{◌≡◌, refl, sym, ap, ap₂}
use mathlib.Core.Bool.{Bool, true, false, ◌&&◌, cond}
use mathlib.Core.List.{List, [], ◌∷◌, Forall₂}
use lib.Dec.{eqb}
use lib.ListN.{length, get_or, set, replicate}
use lib.Seq.{sets}
use Rattle.std.proofs.lemmas.Bool.{cond_both}
use Rattle.card.specs.declared.card.Card.{Card}
use Rattle.ticks.specs.declared.view.Input.{Input}
use Rattle.ticks.specs.declared.tick.Answer.{Answer}
use Rattle.ticks.specs.Settled.{Settled, AlikeTicks}
use Rattle.ticks.proofs.Sleep.{fresh-settled, tick-on-settled, same-ticks-on, edit-settled, powered-settled}
use Rattle.saved.specs.Record.{load_number, loaded}
use Rattle.saved.proofs.Records.{loaded-by}
use Rattle.lines.specs.declared.line.Outcome.{Outcome}
use Rattle.lines.specs.Line.{line_outcome}
use Rattle.calls.proofs.Lists.{line-edit}
use Rattle.calls.proofs.Runs.{same_runs}
use Rattle.rack.specs.declared.tick.RackInput.{RackInput}
use Rattle.rack.specs.Shared.{shared_lines, shared_tick}
use Rattle.rack.specs.Supply.{most_cards, draws_of, over}
use Rattle.rack.specs.Rack.{over_supply, bad_row, bad_fronts, bad_number, start_card, started_row, input_for, low_lines, ticks_from, cards_of}
use Rattle.rack.specs.Rack.{answers_of, idle_answer}
use Rattle.rack.specs.Rack.{ticked_row, row_answers, card_of, outcome_by, outcome_in, row_outcome, lined_row, row_load_number, loaded_row}
use Rattle.rack.specs.Calls.{RackCall, after_call, answer}
use Rattle.rack.specs.Calls.RackCall.{start, line, load, tick}
use Rattle.rack.specs.Demand3.{SameCall, AlikeAnswer, AlikeReply, RackDemand3}
use Rattle.rack.specs.Demand3.SameCall.{same_start, same_line, same_load, same-tick}
use Rattle.rack.specs.Demand3.AlikeReply.{alike-number, alike-line, alike-tick}

module _ (n : ℕ) where
  -- ---- every card of a row is settled

  abbrev AllSettled : List Card → Type 0
  AllSettled [] = Unit {0}
  AllSettled (c ∷ cs) = Settled n c × AllSettled cs

  start-settled : Settled n (start_card n)
  unfolding Settled
  start-settled = fresh-settled n

  at-settled : (cards : List Card) (i : ℕ) → AllSettled cards → Settled n (get_or cards i (start_card n))
  at-settled [] i s = start-settled
  at-settled (c ∷ cs) zero s = s.0
  at-settled (c ∷ cs) (suc i) s = at-settled cs i s.1

  set-settled : (cards : List Card) (i : ℕ) (d : Card) → Settled n d → AllSettled cards → AllSettled (set cards i d)
  set-settled [] i d p s = tt
  set-settled (c ∷ cs) zero d p s = (p, s.1)
  set-settled (c ∷ cs) (suc i) d p s = (s.0, set-settled cs i d p s.1)

  pub fill-settled : (m : ℕ) → AllSettled (replicate m (start_card n))
  fill-settled zero = tt
  fill-settled (suc m) = (start-settled, fill-settled m)

  -- ---- one tick of one card, whatever lines are pulled low

  shared-settled : (full : Bool) (c : Card) (input : Input) (low : ℕ) → Settled n c → Settled n (shared_tick n full c input low).card
  unfolding shared_tick
  shared-settled full c input low s = tick-on-settled n full c input.code (shared_lines n c input low) s

  shared_alike : (full quick : Bool) (c : Card) (input : Input) (low : ℕ) → Settled n c
      → AlikeTicks (shared_tick n full c input low) (shared_tick n quick c input low)
  unfolding shared_tick
  shared_alike true true c input low s = record { card = refl; ran = refl; driven = refl; cells = refl }
  shared_alike false false c input low s = record { card = refl; ran = refl; driven = refl; cells = refl }
  shared_alike false true c input low s = same-ticks-on n c input.code (shared_lines n c input low) s
  shared_alike true false c input low s =
      let a = same-ticks-on n c input.code (shared_lines n c input low) s in
      record { card = sym a.card; ran = sym a.ran; driven = sym a.driven; cells = sym a.cells }

  -- ---- one tick of a row

  module _ (r : RackInput) (low : ℕ) where
    ticks-settled : (full : Bool) (i : ℕ) (cards : List Card) → AllSettled cards → AllSettled (cards_of (ticks_from n full r low i cards))
    unfolding ticks_from
    ticks-settled full i [] s = tt
    ticks-settled full i (c ∷ cs) s = (shared-settled full c (input_for r i) low s.0, ticks-settled full (suc i) cs s.1)

    cards-same : (full quick : Bool) (i : ℕ) (cards : List Card) → AllSettled cards
        → cards_of (ticks_from n full r low i cards) ≡ cards_of (ticks_from n quick r low i cards)
    unfolding ticks_from
    cards-same full quick i [] s = refl
    cards-same full quick i (c ∷ cs) s =
        ap₂ {A = Card} {B = List Card} {C = List Card} (λ (d : Card) (ds : List Card). d ∷ ds) (shared_alike full quick c (input_for r i) low s.0).card
        (cards-same full quick (suc i) cs s.1)

    answers-alike : (full quick : Bool) (i : ℕ) (cards : List Card) → AllSettled cards
        → Forall₂ AlikeAnswer (answers_of (ticks_from n full r low i cards)) (answers_of (ticks_from n quick r low i cards))
    unfolding ticks_from
    answers-alike full quick i [] s = Forall₂.nil
    answers-alike full quick i (c ∷ cs) s =
        let a = shared_alike full quick c (input_for r i) low s.0 in
        Forall₂.cons (record { ran = a.ran; driven = a.driven; cells = a.cells }) (answers-alike full quick (suc i) cs s.1)

  alike_self : (l : List Answer) → Forall₂ AlikeAnswer l l
  alike_self [] = Forall₂.nil
  alike_self (a ∷ l) = Forall₂.cons (record { ran = refl; driven = refl; cells = refl }) (alike_self l)

  set-alike : {s t : List Answer} (i : ℕ) {a b : Answer} → AlikeAnswer a b → Forall₂ AlikeAnswer s t → Forall₂ AlikeAnswer (set s i a) (set t i b)
  set-alike i p Forall₂.nil = Forall₂.nil
  set-alike zero p (Forall₂.cons q qs) = Forall₂.cons p qs
  set-alike (suc i) p (Forall₂.cons q qs) = Forall₂.cons q (set-alike i p qs)

  sets-alike : {s t : List Answer} (i : ℕ) {l m : List Answer} → Forall₂ AlikeAnswer l m → Forall₂ AlikeAnswer s t
      → Forall₂ AlikeAnswer (sets s i l) (sets t i m)
  sets-alike i Forall₂.nil qs = qs
  sets-alike i (Forall₂.cons p ps) qs = sets-alike (suc i) ps (set-alike i p qs)

  -- ---- one call

  outcome-settled : (bad : Bool) (numbers : List ℕ) (place : ℕ) (c : Card) (o : Outcome) → Settled n c → Settled n o.card
      → Settled n (outcome_in bad numbers place c o).card
  outcome-settled true numbers place c o p q = p
  outcome-settled false numbers place c o p q =
      cond_both (eqb o.k 0 && over numbers place c.connectors o.card.connectors) over_supply 0 (λ (r : ℕ). Settled n (outcome_by r c o).card) (λ e. p) (λ e. q)

  line-settled : (cards : List Card) (number : ℕ) (text : List ℕ) (reply store : ℕ) → AllSettled cards
      → Settled n (row_outcome n cards number text reply store).card
  unfolding row_outcome
  line-settled cards number text reply store s =
      let c = card_of n cards number in
      let p = at-settled cards (number - 1) s in
      outcome-settled (bad_number cards number) (draws_of cards) (number - 1) c (line_outcome n c text reply store) p
      (edit-settled n c _ (line-edit n c text reply store) p)

  load-settled : (c : Card) (bytes : List ℕ) → Settled n c → Settled n (loaded n c bytes)
  load-settled c bytes s = rw (loaded-by n c bytes) (cond_both (eqb (load_number n bytes) 0) _ c (Settled n) (λ e. powered-settled n _ _ _ _) (λ e. s))

  pub call_settled : (cards : List Card) (call : RackCall) → AllSettled cards → AllSettled (after_call n cards call)
  unfolding after_call started_row lined_row loaded_row ticked_row
  call_settled cards start s = cond_both (bad_row cards) cards _ AllSettled (λ e. s) (λ e. fill-settled (length cards))
  call_settled cards (line number text reply store) s =
      set-settled cards (number - 1) _ (line-settled cards number text (length reply) (length store) s) s
  call_settled cards (load number bytes) s =
      let p = at-settled cards (number - 1) s in
      set-settled cards (number - 1) _ (cond_both (eqb (row_load_number n cards number bytes) 0) _ _ (Settled n) (λ e. load-settled (card_of n cards number) bytes p) (λ e. p)) s
  call_settled cards (tick full input) s =
      cond_both (bad_fronts cards input) cards _ AllSettled (λ e. s) (λ e. ticks-settled input (low_lines n input.code 0 cards) full 0 cards s)

  same_after : (cards : List Card) (a b : RackCall) → SameCall a b → AllSettled cards → after_call n cards a ≡ after_call n cards b
  unfolding after_call ticked_row
  same_after cards a b same_start s = refl
  same_after cards a b (same_line number text reply other store another p q) s = λ i. lined_row n cards number text (p i) (q i)
  same_after cards a b (same_load number bytes) s = refl
  same_after cards a b (same-tick full quick input) s =
      ap (cond (bad_fronts cards input) cards) (cards-same input (low_lines n input.code 0 cards) full quick 0 cards s)

  idle : List Answer
  idle = replicate most_cards idle_answer

  alike-cond : (b : Bool) (x y : List Answer) → Forall₂ AlikeAnswer x y → Forall₂ AlikeAnswer (cond b idle x) (cond b idle y)
  alike-cond true x y p = alike_self idle
  alike-cond false x y p = p

  same_answer : (cards : List Card) (a b : RackCall) → SameCall a b → AllSettled cards → AlikeReply (answer n cards a) (answer n cards b)
  unfolding answer row_answers idle
  same_answer cards a b same_start s = alike-number _
  same_answer cards a b (same_line number text reply other store another p q) s = rw (p, q) (alike-line _ _ _)
  same_answer cards a b (same_load number bytes) s = alike-number _
  same_answer cards a b (same-tick full quick input) s =
      alike-tick _ (alike-cond (bad_fronts cards input) _ _
      (sets-alike 0 (answers-alike input (low_lines n input.code 0 cards) full quick 0 cards s) (alike_self idle)))

  -- ---- lists

  pub rack-demand3 : RackDemand3 n
  unfolding RackDemand3
  rack-demand3 cards calls others same =
      same_runs (after_call n) (answer n) SameCall AlikeReply AllSettled call_settled same_after same_answer (replicate cards (start_card n)) same
      (fill-settled cards)
