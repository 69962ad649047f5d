-- `steady::cells_through` meets its contract: after i turns the first i cells are those after the ticks.
use Prim.Native.Nat.{ℕ}
use mathlib.Core.Path.{refl}
use native.Mathlib.Omega.{arith}
use lib.ListN.{get_or}
use borrow.Author.Rules.{rules}
use Rattle.words.specs.Listed.{listed}
use Rattle.words.proofs.Listed.{listed_next}
use Rattle.cells.specs.declared.cell.Cell.{Cell}
use Rattle.card.specs.Fresh.{no_cell}
use Rattle.steady.specs.Steady.{cell_through}
use Rattle.steady.proofs.Cards.{least_at}
use Rattle.steady.proofs.cells_through.Goals as goal

pub loop-i-init : goal.loop-i-init
unfolding listed
loop-i-init c = refl

pub cell_through-requires-clause-m_bound : goal.cell_through-requires-clause-m_bound
cell_through-requires-clause-m_bound c =
    let here = least_at c.args.n c.args.before c.args.after c.loop-i.i (search rules) in
    omega (arith, c.requires.m_bound, here)

pub loop-i-preserved : goal.loop-i-preserved
loop-i-preserved c =
    let l = c.loop-i in
    let a = c.args in
    let f : ℕ → Cell = λ i. cell_through (get_or a.before i no_cell) (get_or a.after i no_cell) a.m in
    listed_next f l.i a.before l.next _ no_cell l.invariant c.cell_through.ensures (search rules)
