-- `cells::wake::has_edges` meets its contract: the word is, bit by bit, what the table gives, which
-- antt computes; past it the number has no row.
use mathlib.Core.Path.{◌≡◌, refl, sym, ap, ◌∙◌}
use Rattle.words.specs.Bits.{bit_at, word_of}
use Rattle.words.proofs.Laws.{bit-built}
use Rattle.cells.specs.declared.table.Row.{Row}
use Rattle.cells.specs.Table.{row_of, type_count, any_slot}
use Rattle.cells.specs.Wake.{has_edges}
use Rattle.cells.proofs.Rows.{past-table}
use borrow.Author.Rules.{rules}
use Rattle.cells.proofs.wake.has_edges.Goals as goal

edged : 0x7ff302 ≡ word_of has_edges type_count
unfolding word_of row_of
edged = refl

pub returns-then-n : goal.returns-then-n
returns-then-n c =
    let n = c.args.kind in
    c.bit.ensures ∙ ap (λ w. bit_at w n) edged ∙ bit-built has_edges type_count n (search rules)

pub returns-else-n : goal.returns-else-n
returns-else-n c = sym (ap (λ (r : Row). any_slot r.edge) (past-table c.args.kind (search rules)))
