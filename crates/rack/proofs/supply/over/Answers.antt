-- `rack::supply::over` meets its contract: the sum with the card's number in the place of the old one.
use Rattle.std.proofs.Common.{◌≡◌, ◌<◌, ◌+◌, ℕ, true, false, List, length, get_or, arith, refl, sym, ◌∙◌}
use lib.Dec.{ltb}
use Rattle.std.proofs.lemmas.List.{get_or_default}
use Rattle.card.specs.declared.card.Card.{Card}
use Rattle.card.specs.declared.card.Connectors.{Connectors}
use Rattle.rack.specs.Supply.{supply, draw, draws, draws_of, same_fronts, over}
use Rattle.rack.proofs.Draws.{draws-few, over-sum}
use Rattle.rack.proofs.supply.over.Goals as goal

pub sum-requires : goal.sum-requires
sum-requires c = omega (arith, draws-few c.args.row.now c.requires.few)

pub overflow_add-result-2 : goal.overflow_add-result-2
overflow_add-result-2 c = omega (arith, draws-few c.args.row.now c.requires.few, c.sum.ensures, c.from-2.ensures, c.draw-2.type_inv)

-- what is read at a place, by any card past the row
module _ (row : List Card) (place : ℕ) (d e : Card) (after : Connectors) (h : place < length row) where
  here : get_or row place d ≡ get_or row place e
  here = get_or_default row place d e h

  same : same_fronts (get_or row place d).connectors after ≡ true → over (draws_of row) place (get_or row place e).connectors after ≡ false
  unfolding over
  same s = rw (sym here, s) refl

  other : same_fronts (get_or row place d).connectors after ≡ false
      → ltb (supply + draw (get_or row place d).connectors) (draws row + draw after) ≡ over (draws_of row) place (get_or row place e).connectors after
  unfolding over
  other s = rw (sym here, s) (over-sum row place d (draw after) h)

pub returns-then-same_fronts : goal.returns-then-same_fronts
returns-then-same_fronts c d = sym (same c.args.row.now c.args.place _ d c.args.after c.requires.place_in_bounds (sym c.same_fronts.ensures ∙ c.if-same_fronts.true))

pub returns : goal.returns
returns c d =
    (λ i. ltb (16 + (c.from.ensures ∙ c.draw.ensures) i) (c.sum.ensures i + (c.from-2.ensures ∙ c.draw-2.ensures) i))
    ∙ other c.args.row.now c.args.place _ d c.args.after c.requires.place_in_bounds (sym c.same_fronts.ensures ∙ c.if-same_fronts.false)
