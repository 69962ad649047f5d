-- `session::put_plain` meets its contract: the reply without its ending, and LF after it.
use Prim.Native.Nat.{ℕ, ◌+◌, ◌-◌}
use mathlib.Core.Path.{◌≡◌, ap, ◌∙◌}
use mathlib.Core.List.{[], ◌∷◌}
use native.Mathlib.Omega.{arith}
use lib.ListN.{length, take}
use lib.Seq.{sets}
use Rattle.text.proofs.Stores.{stored-first, behind}
use Rattle.session.specs.Session.{plain_reply}
use Rattle.session.proofs.Chains.{within, plain-short}
use borrow.Author.Rules.{rules}
use Rattle.session.proofs.put_plain.Goals as goal

pub returns : goal.returns
unfolding plain_reply
returns c =
    let a = c.args in
    let l = a.out.now in
    let r = a.reply.now in
    let whole : c.without-n.result - 0 ≡ length r - 2 = omega (arith, c.without-n.ensures) in
    let first = c.copy-end.ensures in
    let bytes = first.out_after ∙ ap (λ (n : ℕ). sets l 0 (take n r)) whole in
    let end = first.value ∙ ap (λ (n : ℕ). 0 + length (take n r)) whole in
    let all = behind (stored-first l (take (length r - 2) r) (bytes, end)) (10 ∷ []) (c.copy.ensures.out_after, c.copy.ensures.value) in
    let s = within (all.bytes, all.at-end) (plain-short r (search rules)) in
    record { out_after = s.0; value = s.1.0; upper_bound = s.1.1 }
