-- `input::line_end` meets its contract: before the first LF of a part there is none.
use Rattle.std.proofs.Common.{◌+◌, ◌-◌, drop, sym, ◌∙◌, get_or-take, get_or-drop, arith}
use Rattle.std.proofs.lemmas.Bool.{eqb-true}
use Rattle.std.proofs.lemmas.List.Quantifiers.{position-Some}
use Rattle.input.specs.Lines.{is_lf, part}
use Rattle.input.proofs.Lines.{position-none, part_length, lf_free}
use Rattle.input.proofs.line_end.Goals as goal

pub returns-in-Some-clause-by_index : goal.returns-in-Some-clause-by_index
returns-in-Some-clause-by_index c =
    let a = c.args in
    let xs = part a.at a.n a.block.now in
    let found = position-Some is_lf xs c.in-Some.k 0 (sym c.first_lf.ensures ∙ c.in-Some.is) in
    let size = part_length a.block.now a.at a.n c.requires.n_in_bounds in
    lf_free a.block.now a.at a.n (a.at + c.in-Some.k) (omega (arith, found.0, size, c.requires.at_le_n)) c.requires.n_in_bounds (λ j h. found.2 j (omega arith))

pub returns-in-Some-clause-result_value : goal.returns-in-Some-clause-result_value
returns-in-Some-clause-result_value c =
    let a = c.args in
    let found = position-Some is_lf (part a.at a.n a.block.now) c.in-Some.k 0 (sym c.first_lf.ensures ∙ c.in-Some.is) in
    let size = part_length a.block.now a.at a.n c.requires.n_in_bounds in
    let byte = get_or-take (a.n - a.at) (drop a.at a.block.now) c.in-Some.k 0 (omega (arith, found.0, size)) ∙ get_or-drop a.at a.block.now c.in-Some.k 0 in
    λ _. sym byte ∙ eqb-true _ _ found.1

pub returns-in-None-clause-by_index : goal.returns-in-None-clause-by_index
returns-in-None-clause-by_index c =
    let a = c.args in
    let size = part_length a.block.now a.at a.n c.requires.n_in_bounds in
    let none = position-none is_lf (part a.at a.n a.block.now) (sym c.first_lf.ensures ∙ c.in-None.is) in
    lf_free a.block.now a.at a.n a.n (omega arith) c.requires.n_in_bounds (λ j h. none j (omega (arith, size)))
