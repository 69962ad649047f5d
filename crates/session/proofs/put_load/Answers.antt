-- `session::put_load` meets its contract: each way is a case of the definition.
use mathlib.Core.Path.{◌≡◌}
use native.Mathlib.Omega.{arith}
use lib.ListN.{length}
use Rattle.session.proofs.Chains.{load-short}
use borrow.Author.Tests.{eq-eqb, ne_eqb}
use Rattle.session.specs.Session.{load_text}
use borrow.Author.Rules.{rules}
use Rattle.session.proofs.put_load.Goals as goal

pub returns-then-k-eq0 : goal.returns-then-k-eq0
unfolding load_text
returns-then-k-eq0 c =
    let k = c.args.k in
    let e = eq-eqb _ _ c.if-k-eq0.true in
    let short = load-short k (search rules) in
    let len : c.copy.result ≡ length (load_text k) = rw e c.copy.ensures.value in
    record { out_after = rw e c.copy.ensures.out_after; value = len; upper_bound = omega (arith, short, len) }

pub returns : goal.returns
unfolding load_text
returns c =
    let whole = c.put_numbered.ensures in
    let e = ne_eqb _ _ c.if-k-eq0.false in
    let short = load-short c.args.k (search rules) in
    let len : c.put_numbered.result ≡ length (load_text c.args.k) = rw e whole.value in
    record { out_after = rw e whole.out_after; value = len; upper_bound = omega (arith, short, len) }
