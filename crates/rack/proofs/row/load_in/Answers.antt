-- `rack::row::load_in` meets its contract: the number and the card by `load`, and what the rack refuses of it.
use Rattle.std.proofs.Common.{refl}
use borrow.Author.Tests.{ne_eqb}
use Rattle.std.proofs.lemmas.Result.{err_from_is_err_and}
use Rattle.rack.proofs.Calls.{no_card_load, next_loaded, number_by_card, number_by_supply}
use Rattle.rack.proofs.row.load_in.Goals as goal

pub returns-in_err-place : goal.returns-in_err-place
returns-in_err-place c =
    let a = c.args in
    let p = err_from_is_err_and c.from_residual.result c.from_residual.ensures.1 in
    rw (p.1, p.2) (no_card_load a.row.now a.number a.bytes.now _ c.in_err-place.ensures)

pub returns-then-l-ne0 : goal.returns-then-l-ne0
returns-then-l-ne0 c =
    let a = c.args in
    let l = c.load-l in
    let other = ne_eqb l.result.k 0 c.if-l-ne0.true in
    let k = number_by_card a.row.now a.number a.bytes.now c.in_ok-place.place _ c.in_ok-place.ensures l.result.k l.result.card l.ensures.k_value
    l.ensures.card_value _ refl other in
    rw k (refl, other)

pub returns-in_err-check_supply : goal.returns-in_err-check_supply
returns-in_err-check_supply c =
    let a = c.args in
    let l = c.load-l in
    let p = err_from_is_err_and c.from_residual-in_err-check_supply.result c.from_residual-in_err-check_supply.ensures.1 in
    let many = c.in_err-check_supply.ensures _ in
    let k = number_by_supply a.row.now a.number a.bytes.now c.in_ok-place.place _ c.in_ok-place.ensures l.result.k l.result.card l.ensures.k_value
    l.ensures.card_value _ many.1 c.if-l-ne0.false in
    rw (p.1, p.2, many.0, k) (refl, refl)

pub returns : goal.returns
returns c =
    let a = c.args in
    let l = c.load-l in (
      c.in_ok-place.ensures,
      number_by_supply a.row.now a.number a.bytes.now c.in_ok-place.place _ c.in_ok-place.ensures l.result.k l.result.card l.ensures.k_value
          l.ensures.card_value _ (c.in_ok-check_supply.ensures _) c.if-l-ne0.false,
      next_loaded a.row.now a.number a.bytes.now c.in_ok-place.place _ c.in_ok-place.ensures l.result.k l.result.card l.ensures.k_value
          l.ensures.card_value,
    )
