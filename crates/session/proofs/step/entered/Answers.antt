-- `session::feed::entered` meets its contract: a large card has the whole store, a small one its front.
use Rattle.session.proofs.Feeds.{given-large, given-small}
use borrow.Author.Rules.{rules}
use Rattle.std.proofs.Common.{arith}
use Rattle.session.proofs.step.entered.Goals as goal

pub returns-then-card-eq-LARGE : goal.returns-then-card-eq-LARGE
returns-then-card-eq-LARGE c full =
    let a = c.args in
    given-large a.card a.text.now a.store.now c.enter.result _ _ c.if-card-eq-LARGE.true full _ (search rules) c.enter.ensures

pub returns : goal.returns
returns c full =
    let a = c.args in
    given-small a.card a.text.now a.store.now c.enter-2.result _ _ c.if-card-eq-LARGE.false _ _ (search rules) c.enter-2.ensures
