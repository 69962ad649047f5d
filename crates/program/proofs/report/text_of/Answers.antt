-- `program::report::text_of` meets its contract: `text::copy` stores the first bytes.
use Rattle.std.proofs.Common.{ℕ, ap, ◌∙◌, take}
use Rattle.std.proofs.lemmas.List.Edits.{sets}
use lib.ListN.{replicate}
use Rattle.input.specs.Lines.{kept}
use Rattle.program.specs.Report.{text_of}
use Rattle.program.proofs.report.text_of.Goals as goal

pub returns : goal.returns
unfolding text_of
returns c =
    let line = c.args.line.now in
    let e = c.min-n.ensures in
    let bytes = c.copy.ensures.out_after ∙ ap (λ (k : ℕ). sets (replicate kept 0) 0 (take k line)) e in
    λ i. record { bytes = bytes i; len = e i }
