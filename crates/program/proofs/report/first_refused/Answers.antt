-- `program::report::first_refused` meets its contract.
use Rattle.program.proofs.report.first_refused.Goals as goal

pub returns : goal.returns
returns c =
    let text = c.text_of-text.ensures in
    let r = c.args.report in
    let k = c.args.k in
    let lines = c.one_more-number.ensures in
    let refused = c.one_more-refused.ensures in
    λ i. record { lines = lines i; refused = refused i; number = lines i; k = k; line = text i; rest = r.rest }
