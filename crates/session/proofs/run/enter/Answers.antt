-- `session::run::enter` meets its contract: the line is entered, and what it prints comes after what is printed already.
use native.Mathlib.Omega.{arith}
use Rattle.card.specs.Address.{cells_for}
use Rattle.session.specs.Session.{entered}
use Rattle.session.proofs.Runs.{printed-behind, printed-beyond}
use borrow.Author.Rules.{rules}
use Rattle.session.proofs.run.enter.Goals as goal

pub overflow_add-result : goal.overflow_add-result
overflow_add-result c =
    omega (arith, c.enter-entered.ensures.fits, c.requires)

pub returns : goal.returns
returns c =
    let a = c.args in
    let e = c.enter-entered.ensures in
    let behind = printed-behind a.out.now _ _ _ a.state.used c.enter-entered.result.len (search rules) e.fits e.len e.output in
    let p = (entered (cells_for a.state.card.size) a.state.card a.text.now a.store.now).printed in
    let beyond = printed-beyond a.out.now _ p a.state.used c.enter-entered.result.len (search rules) e.fits e.len e.output in record {
      card_value = e.card;
      store_after = e.store;
      out_after = behind;
      used_bound = omega (arith, e.fits);
      used_le_used = omega arith;
      out_unchanged = beyond;
    }
