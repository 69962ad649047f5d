-- `rack::rack_calls::rack_line` meets its contract.
use Rattle.std.proofs.Common.{set, sym, ◌∙◌}
use Rattle.lines.specs.Line.{saves}
use Rattle.rack.proofs.Calls.{saved_here, refused_result, accepted_result}
use Rattle.rack.proofs.rack_calls.rack_line.Goals as goal

pub returns-in-Ok : goal.returns-in-Ok
returns-in-Ok c =
    let a = c.args in
    let l = c.in-Ok.line in
    let h = c.in-Ok.ensures in
    let put = c.put_reply_if-len.ensures in
    let saved = rw c.saves.ensures at c.save_if.ensures in
    let store = saved_here a.row.now a.number l.place _ h.0 (saves l.response) a.store.now _ saved in (
      (λ i. record { k = 0; len = put.value i; row = set a.row.now (h.0.value i) l.card; reply = put.reply_after i; store = store i })
          ∙ accepted_result a.row.now a.number a.text.now a.reply.now a.store.now l.card l.response h.1,
      put.upper_bound,
    )

pub returns-in-Err : goal.returns-in-Err
returns-in-Err c =
    let a = c.args in
    let h = c.in-Err.ensures in
    let put = c.put_reply_if-len-in-Err.ensures in (
      (λ i. record { k = c.number-k.result; len = put.value i; row = a.row.now; reply = put.reply_after i; store = a.store.now })
          ∙ refused_result a.row.now a.number a.text.now a.reply.now a.store.now c.number-k.result (h.0 ∙ sym c.number-k.ensures, h.1, h.2),
      put.upper_bound,
    )
