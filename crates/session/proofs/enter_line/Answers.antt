-- `session::enter_line` meets its contract: the reply is read back out of its buffer, and printed without CR.
use Prim.Native.Nat.{ℕ, ◌-◌}
use mathlib.Core.Path.{ap, ◌∙◌}
use mathlib.Core.List.{List}
use native.Mathlib.Omega.{arith}
use lib.ListN.{length, take, replicate}
use lib.Seq.{sets}
use Rattle.text.proofs.Stores.{front}
use Rattle.card.specs.Address.{cells_for}
use Rattle.lines.specs.Line.{LineResult, shortest_reply, line_reply, store_after}
use Rattle.session.specs.Session.{plain_reply}
use Rattle.session.specs.declared.Event.TheVariants.{Line}
use Rattle.session.proofs.enter_line.Goals as goal

pub returns : goal.returns
unfolding line_reply store_after
returns c =
    let a = c.args in
    let d = c.line-a.ensures.store_after in
    let reply = line_reply (cells_for a.card.size) a.card a.text.now shortest_reply (length a.store.now) in
    let len = ap (λ (r : LineResult). r.len) d in
    let short = c.line-a.ensures.len_le_shortest_reply in
    let buffer = ap (λ (r : LineResult). r.reply) d in
    let part : ℕ = c.line-a.result.len - 0 in
    let slice = ap (take part) buffer ∙ front (replicate shortest_reply 0) reply part (omega (arith, len)) (omega (arith, len, short)) in
    let put = c.put_plain-len.ensures in
    record {
      card = ap (λ (r : LineResult). r.card) d;
      event = ap (λ (r : LineResult). Line r.k) d;
      store = ap (λ (r : LineResult). r.store) d;
      output = put.out_after ∙ ap (λ (r : List ℕ). sets a.out.now 0 (plain_reply r)) slice;
      len = put.value ∙ ap (λ (r : List ℕ). length (plain_reply r)) slice;
      fits = put.upper_bound;
    }
