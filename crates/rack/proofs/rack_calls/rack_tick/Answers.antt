-- `rack::rack_calls::rack_tick` meets its contract.
use Rattle.std.proofs.Common.{◌≡◌, ℕ, true, not, length, replicate, refl, sym, ap, ◌∙◌}
use borrow.Author.Tests.{ne_eqb, eq-eqb}
use Rattle.std.proofs.lemmas.Bool.{not-false, not-true}
use Rattle.rack.specs.Rack.{bad_row, bad_fronts, idle_answer, tick_number, ticked_row, row_answers}
use Rattle.rack.specs.Supply.{most_cards}
use Rattle.rack.proofs.rack_calls.rack_tick.Goals as goal
use Rattle.rack.proofs.rack_calls.rack_tick.Goals.{After-number, then-not-is_rack-via-then-not-is_rack, then-not-is_rack-via-else-not-is_rack+then-input-row}

bad : (c : After-number) → bad_fronts c.args.row.now c.args.input ≡ true
bad c =
    let row = c.args.row.now in
    let count = c.args.input.count in
    elim c.then-not-is_rack.branch [
      | then-not-is_rack-via-then-not-is_rack w ↦ rw (not-false (bad_row row) (sym c.is_rack.ensures ∙ w.if-not-is_rack.true)) refl
      | then-not-is_rack-via-else-not-is_rack+then-input-row w ↦ rw (not-true (bad_row row) (sym c.is_rack.ensures ∙ w.if-not-is_rack.false))
          (ap not (ne_eqb count (length row) w.if-input-row.true))
    ]

pub returns-then-not-is_rack : goal.returns-then-not-is_rack
unfolding tick_number ticked_row row_answers
returns-then-not-is_rack c = rw (bad c) ((ap (λ (k : ℕ). record { k = k; answers = replicate most_cards idle_answer }) c.number.ensures), refl)

pub returns : goal.returns
unfolding tick_number ticked_row row_answers
returns c =
    let row = c.args.row.now in
    rw (not-true (bad_row row) (sym c.is_rack.ensures ∙ c.if-not-is_rack.false), eq-eqb _ _ c.if-input-row.false)
    ((λ i. record { k = 0; answers = c.tick_all-answers.ensures.answers i }), c.tick_all-answers.ensures.row)
