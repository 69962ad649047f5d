-- `ticks::rest::rests_on` meets its contract: what it tests is what the laws of rest ask of
-- connectors and cells, both ways.
use mathlib.Core.Path.{◌≡◌, sym, ap, ◌∙◌}
use mathlib.Core.Bool.{false≢true, not, ◌||◌}
use lib.Dec.{eqb}
use lib.ListN.{length}
use borrow.Author.Tests.{eqb-true, eq-eqb, not-false}
use native.Mathlib.Omega.{arith}
use borrow.Author.Rules.{rules}
use Rattle.words.proofs.Bools.{or_left, or_right}
use Rattle.ticks.specs.declared.connectors.Lines.{Lines}
use Rattle.ticks.specs.Tick
use Rattle.card.specs.Address.{cell_room}
use Rattle.ticks.proofs.AtRest.{steady-wires, rest-seen}
use Rattle.ticks.proofs.Turns.{as_long}
use Rattle.ticks.proofs.AtRest.{StillMemory, view_last, steady-memory, still-fits, still-rests, rests-still}
use Rattle.ticks.proofs.rest.rests_on.Goals as goal
use Rattle.ticks.proofs.rest.rests_on.Goals.{After-lines_in-l, Start}

-- there are as many tallies as there is room for cells
tallies-long : (c : Start) → length c.args.card.tallies.cells ≡ cell_room
tallies-long c = search as_long

known : (d : After-lines_in-l) → let a = d.args in
    StillMemory a.card.memory × (d.lines_in-l.result ≡ Tick.lines a.n a.card a.input)
known d =
    let a = d.args in
    let m = a.card.memory in
    let still = steady-memory m (steady-wires _ (search rules)) in
    (still, d.lines_in-l.ensures a.n (search rules) (still-fits a.n m (search rules) still))

pub returns-then-l-m : goal.returns-then-l-m
returns-then-l-m c =
    let a = c.args in
    let lines = (known (goal.at.returns-then-l-m c).After-lines_in-l).1 in (
      λ e. absurd (false≢true e),
      λ rest. let s = rests-still a.n a.card a.input (search rules) rest in
          sym (λ k. (not (eq-eqb _ _ (ap (λ (l : Lines). l.driven) lines ∙ s.driven) k) || not (eq-eqb _ _ (ap (λ (l : Lines). l.pulled) lines
          ∙ s.pulled) k))
          || not (eq-eqb _ _ (ap (λ (l : Lines). l.levels) lines ∙ s.levels) k))
          ∙ c.if-l-m.true,
    )

pub returns : goal.returns
returns c =
    let a = c.args in
    let pre = c.requires in
    let m = a.card.memory in
    let w = c.lines_in-l.result in
    let still = (known (goal.at.returns c).After-lines_in-l).0 in
    let lines = (known (goal.at.returns c).After-lines_in-l).1 in
    let tallies = tallies-long (goal.at.returns c).Start in
    let seen = rest-seen a.n (view_last a.n m) c.sees.result a.card.cells
    (c.sees.ensures a.n pre.n_le_cell_room pre.outputs_bound pre.outputs_bound) in (
      λ e. still-rests a.n a.card a.input (omega (arith, c.all_rest.ensures.cells_len, pre.n_le_cell_room)) (omega (arith, tallies, pre.n_le_cell_room)) pre.outputs_bound
          (record {
            edited = pre.edited_value;
            memory = still;
            driven = ap (λ (l : Lines). l.driven) (sym lines) ∙ eqb-true w.driven m.driven (not-false _ (or_left _ _ (or_left _ _ c.if-l-m.false)));
            pulled = ap (λ (l : Lines). l.pulled) (sym lines)
                ∙ eqb-true w.pulled m.pulled (not-false _ (or_right (not (eqb w.driven m.driven)) _ (or_left _ _ c.if-l-m.false)));
            levels = ap (λ (l : Lines). l.levels) (sym lines)
                ∙ eqb-true w.levels m.levels (not-false _ (or_right (not (eqb w.driven m.driven) || not (eqb w.pulled m.pulled)) _
                c.if-l-m.false));
            cells = seen ∙ sym c.all_rest.ensures.value ∙ e;
          }),
      λ rest. c.all_rest.ensures.value ∙ sym seen ∙ (rests-still a.n a.card a.input pre.code_value rest).cells,
    )
