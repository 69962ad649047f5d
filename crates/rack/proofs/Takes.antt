-- The card of a number in a row, as `place_of` and `load_in` give it: what a line and a load to it come to is what the
-- definitions of the calls say.
use Prim.Native.Nat.{ℕ, ◌-◌}
use mathlib.Core.Path.{◌≡◌, refl, sym, ap, ◌∙◌}
use mathlib.Core.Bool.{true, false, not, ◌&&◌, ◌||◌}
use mathlib.Core.List.{List}
use lib.Dec.{eqb, ltb}
use lib.ListN.{length, set}
use Rattle.std.specs.Prelude.{Result, Ok, Err, MatchResult, is_err, sum}
use Rattle.std.proofs.lemmas.List.{set-get_or}
use Rattle.card.specs.declared.card.Card.{Card}
use Rattle.card.specs.declared.card.Connectors.{Connectors}
use Rattle.card.specs.Address.{cell_count}
use Rattle.saved.specs.Record.{load_number, loaded}
use Rattle.rack.specs.declared.row.Refused.{Refused}
use Rattle.rack.specs.declared.row.Refused.TheVariants.{NoRack}
use Rattle.rack.specs.Supply.{supply, draw, draws_of, same_fronts, over}
use Rattle.rack.specs.Rack.{bad_row, bad_number, start_card, card_of, refusal_number, row_load_number, loaded_row}
use Rattle.rack.specs.Row.{IsPlace}

module _ (cards : List Card) (number : ℕ) where
  -- what `place_of` promises
  abbrev pub Placed : Result ℕ Refused → Type 0
  Placed r = MatchResult r (IsPlace cards number) (λ (e : Refused). (e ≡ NoRack) × (bad_number cards number ≡ true))

  -- there is no place exactly where the row is no rack, or the number below 1 or past the row
  pub taken-bad : (r : Result ℕ Refused) → Placed r → is_err r ≡ bad_number cards number
  taken-bad r h = given r h ∙ worded
    where
      worded : (bad_row cards || (ltb number 1 || ltb (length cards) number)) ≡ bad_number cards number
      worded = refl

      given : (r : Result ℕ Refused) → Placed r → is_err r ≡ bad_number cards number
      given (Ok place) at = sym at.good
      given (Err e) h = sym h.1

  -- what the supply bears at the place is what it bears at the number's, in the wording of its definition
  pub taken-over : (place : ℕ) (a b : Connectors) → IsPlace cards number place → over (draws_of cards) place a b ≡ over (draws_of cards) (number - 1) a b
  unfolding over
  taken-over place a b at = ap (λ (i : ℕ). not (same_fronts a b) && ltb supply (sum (set (draws_of cards) i (draw b)))) at.value

  -- ---- a load

  module _ (bytes : List ℕ) where
    abbrev k : ℕ
    k = row_load_number cell_count cards number bytes

    -- what `load_in` promises
    abbrev pub LoadedIn : Result (ℕ × Card) Refused → Type 0
    LoadedIn r =
        MatchResult r (λ (l : ℕ × Card). IsPlace cards number l.0 × (k ≡ 0) × (l.1 ≡ loaded cell_count (card_of cell_count cards number) bytes))
        (λ (e : Refused). (k ≡ refusal_number e) × (eqb k 0 ≡ false))

    -- the number of the load, and the row after it
    abbrev pub number_after : Result (ℕ × Card) Refused → ℕ
    number_after (Ok l) = 0
    number_after (Err e) = refusal_number e

    abbrev pub row_after : Result (ℕ × Card) Refused → List Card
    row_after (Ok l) = set cards l.0 l.1
    row_after (Err e) = cards

    -- what the card refuses comes before what the supply does not bear
    settled : bad_number cards number ≡ false → eqb (load_number cell_count bytes) 0 ≡ false → k ≡ load_number cell_count bytes
    unfolding row_load_number
    settled good other = rw (good, other) refl

    pub load_row : (r : Result (ℕ × Card) Refused) → LoadedIn r
        → (number_after r ≡ row_load_number cell_count cards number bytes) × (row_after r ≡ loaded_row cell_count cards number bytes)
        × (bad_number cards number ≡ false → eqb (load_number cell_count bytes) 0 ≡ false → number_after r ≡ load_number cell_count bytes)
    unfolding loaded_row
    load_row (Ok l) h = (sym h.1, rw h.1 (λ i. set cards (h.0.value i) (h.2 i)), λ good other. sym h.1 ∙ settled good other)
    load_row (Err e) h = (
      sym h.0,
      rw h.1 (sym (set-get_or cards (number - 1) (start_card cell_count))),
      λ good other. sym h.0 ∙ settled good other,
    )
