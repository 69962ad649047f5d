-- `lines::line::line` meets its contract: the decision by `judge`, the reply by `put_reply_if`, the store by `save_if`, the card by `apply`.
use mathlib.Core.Path.{sym, ap, ◌∙◌}
use mathlib.Core.Bool.{Bool, false, cond, ◌&&◌}
use Rattle.saved.specs.Record.{config_width, saved_to}
use Rattle.std.specs.Prelude.{Result}
use Rattle.card.specs.Address.{cells_for}
use Rattle.card.specs.Change.{changed}
use Rattle.lines.specs.declared.decision.Accepted.{Accepted}
use Rattle.lines.specs.declared.refused.Refused.{Refused}
use Rattle.lines.specs.Line.{outcome_of, result_for, line_outcome}
use Rattle.lines.proofs.Decisions.{nonzero}
use Rattle.lines.proofs.line.line.Goals as goal

pub returns-in-Ok-clause-store_after : goal.returns-in-Ok-clause-store_after
unfolding line_outcome
returns-in-Ok-clause-store_after c =
    let a = c.args in
    let n = cells_for a.card.size in
    let put = c.put_reply_if-len.ensures in
    let saved = rw c.saves.ensures at c.save_if.ensures in
    (λ i. record { k = 0; len = put.value i; card = c.apply.ensures i; reply = put.reply_after i; store = saved i })
    ∙ ap (λ (d : Result Accepted Refused). result_for n a.card (outcome_of n a.card d) a.reply.now a.store.now) c.in-Ok.ensures

pub returns-in-Err-clause-store_after : goal.returns-in-Err-clause-store_after
unfolding line_outcome changed
returns-in-Err-clause-store_after c =
    let a = c.args in
    let n = cells_for a.card.size in
    let put = rw c.number-k.ensures at c.put_reply_if-len-in-Err.ensures in
    let kept = ap (λ (b : Bool). cond (b && false) (saved_to n config_width a.card a.store.now) a.store.now) (sym (nonzero c.in-Err.why)) in
    (λ i. record { k = c.number-k.ensures i; len = put.value i; card = a.card; reply = put.reply_after i; store = kept i })
    ∙ ap (λ (d : Result Accepted Refused). result_for n a.card (outcome_of n a.card d) a.reply.now a.store.now) c.in-Err.ensures
