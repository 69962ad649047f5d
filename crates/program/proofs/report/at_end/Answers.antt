-- `program::report::at_end` meets its contract.
use Rattle.program.proofs.report.at_end.Goals as goal

pub returns : goal.returns
returns c =
    let t = c.text_of-text.ensures in
    let r = c.args.report in
    λ i. record { lines = r.lines; refused = r.refused; number = r.number; k = r.k; line = r.line; rest = t i }
