-- `wiring::parts::put_cells` meets its contract: after i turns the lines of the first i entries are written.
use Prim.Native.Nat.{ℕ}
use mathlib.Core.Path.{◌≡◌, subst}
use mathlib.Core.List.{List}
use native.Mathlib.Omega.{arith}
use lib.ListN.{take}
use borrow.Author.Rules.{rules}
use Rattle.card.specs.Fresh.{no_cell}
use Rattle.wiring.specs.Wiring.{cell_commands, commands_from}
use Rattle.wiring.specs.Parts.{commands_text}
use Rattle.wiring.proofs.PartLaws.{Placed, written_none, written_next}
use Rattle.wiring.proofs.parts.put_cells.Goals as goal

pub loop-i-init : goal.loop-i-init
loop-i-init c = written_none cell_commands

pub put_cell-at-requires : goal.put_cell-at-requires
put_cell-at-requires c =
    let l = c.loop-i in record {
      i_lt_cell_room = search rules;
      cell_most_bound = omega (arith, l.invariant.within);
    }

pub loop-i-preserved : goal.loop-i-preserved
loop-i-preserved c =
    let l = c.loop-i in
    let e = c.put_cell-at.ensures in
    written_next cell_commands no_cell l.invariant (search rules) (search rules) e.out_after e.value e.upper_bound

pub returns : goal.returns
returns c =
    let l = c.loop-i in
    let a = c.args in
    let end : l.i ≡ a.n = omega arith in
    let text : ℕ → List ℕ = λ n. commands_text (commands_from cell_commands 0 (take n a.cells)) in
    let whole = subst (λ (n : ℕ). Placed a.out.now 0 l.out (text n) l.at) end l.invariant.placed in record {
      out_after = whole.bytes;
      value = whole.at-end;
      upper_bound = omega (arith, l.invariant.within, end);
    }
