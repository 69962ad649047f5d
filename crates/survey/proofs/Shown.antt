-- What rounds find and leave is what the call gives, on any card: so the rows of the examples are rows of the call.
use Prim.Native.Nat.{ℕ, ◌-◌, ◌≤◌}
use mathlib.Core.Path.{◌≡◌, sym, ap}
use mathlib.Core.Bool.{true}
use native.Mathlib.Omega.{arith}
use Rattle.card.specs.declared.card.Card.{Card}
use Rattle.card.specs.Address.{cell_room, connector_count, first_connector, among}
use Rattle.card.proofs.Places.{among-bounds}
use Rattle.survey.specs.declared.Surveyed.{Surveyed}
use Rattle.survey.specs.Survey.{Survey}
use Rattle.survey.specs.Rounds.{Settles}
use Rattle.survey.proofs.Smallest.{settled-smallest, only_one}

pub settles-shown : (n : ℕ) (c : Card) (place m cells connectors : ℕ) (r : Surveyed) → n ≤ cell_room → among first_connector connector_count place ≡ true
    → Settles n c.cells c.connectors (place - first_connector) m cells connectors → Survey n c place r
    → r ≡ record { k = 0; cells = cells; connectors = connectors }
settles-shown n c place m cells connectors r small is s surveyed =
    let h = among-bounds first_connector connector_count place is in
    let smallest = settled-smallest n c.cells c.connectors (place - first_connector) m cells connectors small (omega (arith, h))
    (sym (ap (λ (w : ℕ × ℕ). w.0) s.found)) (sym (ap (λ (w : ℕ × ℕ). w.1) s.found))
    (ap (λ (w : ℕ × ℕ). w.0) s.stays) (ap (λ (w : ℕ × ℕ). w.1) s.stays) in
    let same = only_one n c.cells c.connectors (place - first_connector) r.cells r.connectors cells connectors small
    (surveyed.smallest is) smallest in
    let number = surveyed.number is in
    λ k. record { k = number k; cells = same.0 k; connectors = same.1 k }
