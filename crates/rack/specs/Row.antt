-- What a line and a load to one card of a row come to, as the code gives it: what is accepted, or
-- why it is refused.
use Rattle.std.specs.Prelude.{ℕ, ◌-◌, ◌<◌, ◌≡◌, false, List, eqb, length}
use Rattle.card.specs.declared.card.Card.{Card}
use Rattle.lines.specs.declared.line.Outcome.{Outcome}
use Rattle.rack.specs.declared.row.Refused.{Refused}
use Rattle.rack.specs.declared.row.Lined.{Lined}
use Rattle.rack.specs.Rack.{bad_number, refusal_number}

-- the place of the card of a number in a rack
pub record IsPlace (cards : List Card) (number place : ℕ) : Type 0 where
  pub good : bad_number cards number ≡ false
  pub value : place ≡ number - 1
  pub in_bounds : place < length cards

-- an accepted line has its card after it, and the response
abbrev pub IsLined : List Card → (number : ℕ) → Outcome → Lined → Type 0
IsLined cards number o l = IsPlace cards number l.place × (o ≡ record { k = 0; card = l.card; response = l.response })

-- a refused one has the refusal's number, which is not 0, and leaves the card
abbrev pub IsRefused : Card → Outcome → Refused → Type 0
IsRefused c o e = (o.k ≡ refusal_number e) × (eqb o.k 0 ≡ false) × (o.card ≡ c)
