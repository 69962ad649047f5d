-- `rack::row::is_rack` meets its contract: the length, and then the sizes of the cards.
use Rattle.std.proofs.Common.{rules, tests, length, not, refl, ap, ◌∙◌}
use borrow.Author.Tests.{le-ltb}
use Rattle.std.proofs.lemmas.Iterator.{YieldsList-from_slice}
use Rattle.std.proofs.lemmas.Iterator.Search.{any_from_yields_List}
use Rattle.rack.specs.Rack.{is_large}
use Rattle.rack.specs.Supply.{most_cards}
use Rattle.rack.proofs.row.is_rack.Goals as goal

pub returns-then-row-le-MOST : goal.returns-then-row-le-MOST
returns-then-row-le-MOST c =
    let row = c.args.row.now in
    ap not (any_from_yields_List is_large _ _ _ c.any.ensures.ran (YieldsList-from_slice row cc) (λ x b q k. search (rules, tests)) ∙ rw (le-ltb (length row) 1 c.if-row-le-MOST.true.0, le-ltb most_cards (length row) c.if-row-le-MOST.true.1) refl)
