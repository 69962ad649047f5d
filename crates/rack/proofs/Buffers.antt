-- The buffers of a line to a card of a row hold what the list of rack calls says that it answered and saved.
use Prim.Native.Nat.{ℕ, ◌-◌}
use mathlib.Core.Path.{◌≡◌, refl}
use mathlib.Core.Bool.{Bool, true, false, ◌&&◌, cond}
use mathlib.Core.List.{List, []}
use lib.Dec.{eqb}
use lib.ListN.{length}
use lib.Seq.{sets}
use borrow.Author.Tests.{eqb-true, le-ltb}
use Rattle.text.proofs.DigitLaws.{both_left, both_right}
use Rattle.card.specs.declared.card.Card.{Card}
use Rattle.saved.specs.Record.{config_width, record_length, record_of, saved_to}
use Rattle.lines.specs.declared.line.Outcome.{Outcome}
use Rattle.lines.specs.Line.{saves, line_outcome, store_with}
use Rattle.calls.proofs.SaveLoad.{save-room}
use Rattle.rack.specs.Supply.{draws_of, over}
use Rattle.rack.specs.Rack.{over_supply, bad_number, card_of, outcome_by, outcome_in, row_outcome, lined_row, row_result}
use Rattle.rack.specs.Calls.{row_reply, row_saved, RackBuffers}

module _ (n : ℕ) (cards : List Card) (number : ℕ) (text reply store : List ℕ) where
  abbrev c : Card
  c = card_of n cards number

  abbrev o : Outcome
  o = line_outcome n c text (length reply) (length store)

  abbrev Stored : Outcome → Type 0
  Stored r = store_with n c r store ≡ sets store 0 (cond (eqb r.k 0 && saves r.response) (record_of n config_width c) [])

  accepted : Stored o
  unfolding saved_to
  accepted = go (eqb o.k 0 && saves o.response) refl
    where
      go : (b : Bool) → (eqb o.k 0 && saves o.response) ≡ b
          → cond b (saved_to n config_width c store) store ≡ sets store 0 (cond b (record_of n config_width c) [])
      go false e = refl
      go true e =
          let room = save-room n c text (length reply) (length store)
          (record { accepted = eqb-true _ 0 (both_left (eqb o.k 0) _ e); saves = both_right (eqb o.k 0) _ e }) in
          rw (le-ltb (length store) (record_length n config_width) room)

  stored : (b : Bool) → Stored (outcome_in b (draws_of cards) (number - 1) c o)
  stored true = refl
  stored false = go (eqb o.k 0 && over (draws_of cards) (number - 1) c.connectors o.card.connectors)
    where
      go : (b : Bool) → Stored (outcome_by (cond b over_supply 0) c o)
      go true = refl
      go false = accepted

pub rack-buffers : (n : ℕ) → RackBuffers n
unfolding RackBuffers row_result row_outcome lined_row row_reply row_saved
rack-buffers n cards number text reply store =
    record { k = refl; len = refl; row = refl; replied = refl; stored = stored n cards number text reply store (bad_number cards number) }
