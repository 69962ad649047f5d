-- `rack::row::line_in` meets its contract: what is decided on the card by itself, and what the rack refuses of it.
use Rattle.std.proofs.Common.{refl, Ok, Err}
use Rattle.lines.proofs.Decisions.{nonzero}
use Rattle.std.proofs.lemmas.Result.{err_from_is_err_and}
use Rattle.rack.proofs.Calls.{no_card, by_card, by_supply, accepted}
use Rattle.rack.proofs.row.line_in.Goals as goal

pub returns-in_err-place : goal.returns-in_err-place
returns-in_err-place c =
    let a = c.args in
    let p = err_from_is_err_and c.from_residual.result c.from_residual.ensures.1 in
    rw (p.1, p.2) (no_card a.row.now a.number a.text.now a.reply a.store _ c.in_err-place.ensures)

pub returns-in_err-accepted : goal.returns-in_err-accepted
returns-in_err-accepted c =
    let a = c.args in
    let why = c.in_err-accepted.field-0.0 in
    let p = err_from_is_err_and c.from_residual-in_err-accepted.result c.from_residual-in_err-accepted.ensures.1 in
    rw (p.1, p.2)
    (by_card a.row.now a.number a.text.now a.reply a.store c.in_ok-place.place _ c.in_ok-place.ensures (Err why) _ c.in_err-accepted.ensures refl (nonzero why))

pub returns-in_err-check_supply : goal.returns-in_err-check_supply
returns-in_err-check_supply c =
    let a = c.args in
    let p = err_from_is_err_and c.from_residual-in_err-check_supply.result c.from_residual-in_err-check_supply.ensures.1 in
    let many = c.in_err-check_supply.ensures _ in
    rw (p.1, p.2, many.0)
    (by_supply a.row.now a.number a.text.now a.reply a.store c.in_ok-place.place _ c.in_ok-place.ensures (Ok c.in_ok-accepted.accepted) c.apply-next.result
    c.in_ok-accepted.ensures c.apply-next.ensures refl many.1)

pub returns : goal.returns
returns c =
    let a = c.args in (
      c.in_ok-place.ensures,
      accepted a.row.now a.number a.text.now a.reply a.store c.in_ok-place.place _ c.in_ok-place.ensures (Ok c.in_ok-accepted.accepted) c.apply-next.result
          c.in_ok-accepted.ensures c.apply-next.ensures refl (c.in_ok-check_supply.ensures _),
    )
