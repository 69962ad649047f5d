-- `rack::rack_calls::rack_start` meets its contract.
use Rattle.std.proofs.Common.{length, replicate, refl, sym, ap, ◌∙◌}
use Rattle.std.proofs.lemmas.Bool.{not-false, not-true}
use Rattle.rack.specs.Rack.{bad_row, start_number, started_row}
use Rattle.rack.proofs.rack_calls.rack_start.Goals as goal

pub returns-then-not-is_rack : goal.returns-then-not-is_rack
unfolding start_number started_row
returns-then-not-is_rack c = rw (not-false (bad_row c.args.row.now) (sym c.is_rack.ensures ∙ c.if-not-is_rack.true)) (c.number.ensures, refl)

pub returns : goal.returns
unfolding start_number started_row
returns c =
    let row = c.args.row.now in
    rw (not-true (bad_row row) (sym c.is_rack.ensures ∙ c.if-not-is_rack.false))
    (refl, c.fill.ensures.after (λ y e. e) ∙ ap (replicate (length row)) c.start_card.ensures)
