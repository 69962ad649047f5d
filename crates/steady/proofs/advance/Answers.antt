-- `steady::advance` meets its contract.
use borrow.Author.Rules.{rules}
use Prim.Native.Nat.{ℕ, ◌≤◌}
use mathlib.Core.Path.{◌≡◌, ap, ap₂, subst, ◌∙◌}
use native.Mathlib.Omega.{arith}
use lib.ListN.{length}
use Rattle.card.specs.Address.{cell_room, cells_for}
use Rattle.ticks.specs.declared.tick.Ticked.{Ticked}
use Rattle.ticks.proofs.Turns.{as_long}
use Rattle.steady.specs.Steady.{steady_from, steady_for, card_through, made_of}
use Rattle.steady.proofs.Made.{made_none, made-first, made-many, made-within, holds-all}
use Rattle.steady.proofs.advance.Goals as goal
use Rattle.steady.proofs.advance.Goals.{After-made_of-made, Start}

-- how many are made, by the definition
is_made : (m : After-made_of-made) → let a = m.args in
    m.made_of-made.result ≡ made_of a.k (steady_for (cells_for a.card.size) a.card a.input)
unfolding steady_for
is_made m =
    let a = m.args in
    m.made_of-made.ensures
    ∙ ap (made_of a.k) (m.steady_from.ensures
    ∙ ap₂ (λ (n : ℕ) (t : Ticked). steady_from n a.card t.card) m.cells_for-n.ensures.value m.quick_tick-t.ensures)

-- there is room for as many cells and tallies
cells-long : (c : Start) → length c.args.card.cells ≡ cell_room
cells-long c = search (as_long, c.well_formed)

tallies-long : (c : Start) → length c.args.card.tallies.cells ≡ cell_room
tallies-long c = search (as_long, c.well_formed.0.0.1.1.1)

pub returns-then-k-eq0 : goal.returns-then-k-eq0
returns-then-k-eq0 c =
    let a = c.args in
    made_none (cells_for a.card.size) a.card a.input a.k c.idle-t.result c.idle-t.ensures c.if-k-eq0.true

pub returns-then-made-lt2 : goal.returns-then-made-lt2
returns-then-made-lt2 c =
    let a = c.args in
    made-first (cells_for a.card.size) a.card a.input a.k c.quick_tick-t.result c.made_of-made.result c.quick_tick-t.ensures
    (is_made (goal.at.returns-then-made-lt2 c).After-made_of-made) (search rules) (search rules)

pub card_through-requires : goal.card_through-requires
card_through-requires c =
    let a = c.args in
    let n = c.cells_for-n.result in
    let within = made-within a.k c.steady_from.result c.made_of-made.result c.made_of-made.ensures (search rules) in
    let steady = subst (λ (x : ℕ). c.made_of-made.result ≤ x) c.steady_from.ensures within in record {
      n_le_cell_room = search rules;
      m_nonzero = search rules;
      m_bound = holds-all n a.card c.quick_tick-t.result.card c.made_of-made.result (search rules) steady;
    }

pub returns : goal.returns
returns c =
    let a = c.args in
    let small = c.cells_for-n.ensures.upper_bound in
    let n = cells_for a.card.size in
    let same = c.cells_for-n.ensures.value in
    let through = c.card_through.ensures ∙ ap (λ (x : ℕ). card_through x a.card c.quick_tick-t.result c.made_of-made.result) same in
    let fits : n ≤ cell_room = rw same at small in
    made-many n a.card a.input a.k c.quick_tick-t.result c.made_of-made.result _ c.quick_tick-t.ensures (is_made (goal.at.returns c).After-made_of-made) (search rules) through
    (omega (arith, fits, cells-long (goal.at.returns c).Start)) (omega (arith, fits, tallies-long (goal.at.returns c).Start))
