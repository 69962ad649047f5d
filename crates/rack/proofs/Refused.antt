-- A refused call leaves the row as it was, whatever row it is.
use Prim.Native.Nat.{ℕ, ◌-◌}
use mathlib.Core.Path.{◌≡◌, refl, ap, ◌∙◌}
use mathlib.Core.Bool.{Bool, true, false, ◌&&◌, cond}
use mathlib.Core.List.{List}
use lib.Dec.{eqb}
use lib.ListN.{length, set}
use Rattle.std.proofs.lemmas.List.{set-get_or}
use Rattle.card.specs.declared.card.Card.{Card}
use Rattle.saved.specs.Record.{loaded}
use Rattle.lines.specs.declared.line.Outcome.{Outcome}
use Rattle.lines.specs.Line.{line_outcome}
use Rattle.calls.proofs.Lists.{refused-kept}
use Rattle.rack.specs.Supply.{draws_of, over}
use Rattle.rack.specs.Rack.{no_rack, over_supply, bad_row, bad_number, bad_fronts, start_card, start_number, started_row, tick_number, ticked_row, card_of}
use Rattle.rack.specs.Rack.{outcome_by, outcome_in, row_outcome, lined_row, loaded_row}
use Rattle.rack.specs.Calls.{RefusedRow, after_call, answer, number_of}
use Rattle.rack.specs.Calls.RackCall.{start, line, load, tick}

-- a start and a tick are refused by one test
tested : (b : Bool) (cards others : List Card) → eqb (cond b no_rack 0) 0 ≡ false → cond b cards others ≡ cards
tested true cards others e = refl
tested false cards others e = ap (λ (b : Bool). cond b others cards) e

-- a line by the rack or by the card
outcome-kept : (b : Bool) (numbers : List ℕ) (place : ℕ) (c : Card) (o : Outcome) → (eqb o.k 0 ≡ false → o.card ≡ c)
    → eqb (outcome_in b numbers place c o).k 0 ≡ false → (outcome_in b numbers place c o).card ≡ c
outcome-kept true numbers place c o kept e = refl
outcome-kept false numbers place c o kept e = go (eqb o.k 0) refl (over numbers place c.connectors o.card.connectors) e
  where
    go : (a : Bool) → eqb o.k 0 ≡ a → (v : Bool) → eqb (outcome_by (cond (a && v) over_supply 0) c o).k 0 ≡ false
        → (outcome_by (cond (a && v) over_supply 0) c o).card ≡ c
    go true p true e = refl
    go true p false e = kept e
    go false p v e = kept p

pub refused-row : (n : ℕ) → RefusedRow n
unfolding RefusedRow number_of answer after_call start_number started_row tick_number ticked_row row_outcome lined_row loaded_row
refused-row n cards start e = tested (bad_row cards) cards _ e
refused-row n cards (line number text reply store) e =
    let c = card_of n cards number in
    ap (set cards (number - 1)) (outcome-kept (bad_number cards number) (draws_of cards) (number - 1) c (line_outcome n c text (length reply) (length store))
    (refused-kept n c text (length reply) (length store)) e)
    ∙ set-get_or cards (number - 1) (start_card n)
refused-row n cards (load number bytes) e =
    let c = card_of n cards number in
    ap (λ (b : Bool). set cards (number - 1) (cond b (loaded n c bytes) c)) e ∙ set-get_or cards (number - 1) (start_card n)
refused-row n cards (tick full input) e = tested (bad_fronts cards input) cards _ e
