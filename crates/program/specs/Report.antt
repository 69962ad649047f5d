-- What a program reports of the lines of an input: how many there were, how many were refused, and
-- the first of these.
use Rattle.std.specs.Prelude.{ℕ, ◌+◌, ◌-◌, ◌^◌, min, cond, List, eqb, ltb, length, take, replicate}
use Rattle.std.proofs.lemmas.List.Edits.{sets}
use Rattle.input.specs.Lines.{kept}
use Rattle.program.specs.declared.report.Text.{Text}
use Rattle.program.specs.declared.report.Report.{Report}

-- the first bytes of a line: all of one that a card takes
unfoldable pub text_of : List ℕ → Text
text_of l = let n = min (length l) kept in record { bytes = sets (replicate kept 0) 0 (take n l); len = n }

-- one more, up to the largest number of 64 bits
abbrev pub one_more : ℕ → ℕ
one_more n = cond (ltb n (2 ^ 64 - 1)) (n + 1) n

-- after a line that was taken, after the first that was refused with number k, and after a later
-- one
abbrev pub after_taken : Report → Report
after_taken r = record { lines = one_more r.lines; refused = r.refused; number = r.number; k = r.k; line = r.line; rest = r.rest }

abbrev pub after_first : Report → List ℕ → ℕ → Report
after_first r line k =
    record { lines = one_more r.lines; refused = one_more r.refused; number = one_more r.lines; k = k; line = text_of line; rest = r.rest }

abbrev pub after_later : Report → Report
after_later r =
    record { lines = one_more r.lines; refused = one_more r.refused; number = r.number; k = r.k; line = r.line; rest = r.rest }

-- after a line whose refusal has this number, or 0
unfoldable pub after_line : Report → (line : List ℕ) (k : ℕ) → Report
after_line r line k = cond (eqb k 0) (after_taken r) (cond (eqb r.refused 0) (after_first r line k) (after_later r))

-- after the end of the input, with what comes after its last LF
abbrev pub at_end : Report → (rest : List ℕ) → Report
at_end r rest = record { lines = r.lines; refused = r.refused; number = r.number; k = r.k; line = r.line; rest = text_of rest }
