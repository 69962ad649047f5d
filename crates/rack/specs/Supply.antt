-- Document 02, 12: "Front lamps share one supply of 16".
use Rattle.std.specs.Prelude.{ℕ, zero, suc, Bool, true, not, ◌&&◌, List, map, sum, max, eqb, ltb, set}
use Rattle.words.specs.Bits.{count_of}
use Rattle.card.specs.declared.card.Card.{Card}
use Rattle.card.specs.declared.card.Connectors.{Connectors}
use Rattle.card.specs.Address.{front_count}
use Rattle.card.specs.Connectors.{push_pull_type, kind_at}

-- "a lent row of 1 to 4 cards"
abbrev pub most_cards : ℕ
most_cards = 4

-- what the lamps of a rack may draw together, and the share that each card always gets
abbrev pub supply : ℕ
supply = 16

abbrev pub share : ℕ
share = 4

-- the push-pull front connectors of a card
unfoldable pub pushes : Connectors → ℕ
pushes a = count_of (λ k. eqb (kind_at a k) push_pull_type) front_count

-- "the larger of 4 and the card's push-pull front connectors"
unfoldable pub draw : Connectors → ℕ
draw a = max (pushes a) share

-- no front connector has another type
unfoldable pub same_kinds : ℕ → Connectors → Connectors → Bool
same_kinds zero a b = true
same_kinds (suc k) a b = same_kinds k a b && eqb (kind_at a k) (kind_at b k)

abbrev pub same_fronts : Connectors → Connectors → Bool
same_fronts a b = same_kinds front_count a b

-- "the sum over the cards": each card's number at its place, and their sum
abbrev pub draws_of : List Card → List ℕ
draws_of cards = map (λ (c : Card). draw c.connectors) cards

abbrev pub draws : List Card → ℕ
draws cards = sum (draws_of cards)

-- 19: "a change of a front connector's type is accepted only if the sum ... is then at most 16":
-- the connectors a of the card at a place among numbers become b
unfoldable pub over : List ℕ → ℕ → (a b : Connectors) → Bool
over numbers i a b = not (same_fronts a b) && ltb supply (sum (set numbers i (draw b)))
