-- `rack::supply::same_fronts` meets its contract: the kinds are compared from the first on.
use Rattle.std.proofs.Common.{rules, tests, refl, ◌∙◌, ℕ}
use lib.Dec.{eqb}
use Rattle.std.proofs.Math.Bool.{and_assoc, and-true}
use Rattle.std.proofs.lemmas.Iterator.{YieldsList-from_range}
use Rattle.std.proofs.lemmas.Iterator.Search.{all_from_yields_List}
use Rattle.card.specs.Connectors.{kind_at}
use Rattle.rack.specs.Supply.{same_kinds}
use Rattle.rack.proofs.supply.same_fronts.Goals as goal

pub returns : goal.returns
unfolding same_kinds
returns c =
    all_from_yields_List (λ (k : ℕ). eqb (kind_at c.args.a k) (kind_at c.args.b k)) _ _ _ c.all.ensures.ran (YieldsList-from_range 0 8 8 refl refl)
    (λ x b q k. search (rules, tests))
    ∙ simp (and_assoc, and-true) refl
