-- `program::report::after` meets its contract: a line that was taken, the first that was refused, or a later one.
use borrow.Author.Tests.{eq-eqb, ne_eqb}
use Rattle.program.specs.Report.{after_line}
use Rattle.program.proofs.report.after.Goals as goal

pub returns-then-k-eq0 : goal.returns-then-k-eq0
unfolding after_line
returns-then-k-eq0 c =
    let r = c.args.report in
    let lines = c.one_more.ensures in
    rw (eq-eqb _ _ c.if-k-eq0.true)
    (λ i. record { lines = lines i; refused = r.refused; number = r.number; k = r.k; line = r.line; rest = r.rest })

pub returns-then-report-eq0 : goal.returns-then-report-eq0
unfolding after_line
returns-then-report-eq0 c = rw (ne_eqb _ _ c.if-k-eq0.false, eq-eqb _ _ c.if-report-eq0.true) c.first_refused.ensures

pub returns : goal.returns
unfolding after_line
returns c =
    let r = c.args.report in
    let lines = c.one_more-2.ensures in
    let refused = c.one_more-3.ensures in
    rw (ne_eqb _ _ c.if-k-eq0.false, ne_eqb _ _ c.if-report-eq0.false)
    (λ i. record { lines = lines i; refused = refused i; number = r.number; k = r.k; line = r.line; rest = r.rest })
