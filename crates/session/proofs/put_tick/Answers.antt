-- `session::put_tick` meets its contract: each part is stored after the last.
use mathlib.Core.Path.{◌≡◌}
use mathlib.Core.List.{[], ◌∷◌}
use native.Mathlib.Omega.{arith}
use lib.Dec.{lit≤}
use lib.ListN.{length}
use borrow.Author.Tests.{not-true, not-false}
use Rattle.card.specs.Address.{cells_for}
use Rattle.text.specs.Decimal.{decimal}
use Rattle.text.proofs.DecimalLaws.{decimal-length}
use Rattle.text.proofs.Stores.{stored-first, behind, six}
use Rattle.session.proofs.Chains.{word-behind, tick-short}
use Rattle.session.specs.Session.{word, cell_word, tick_text}
use borrow.Author.Rules.{rules}
use Rattle.session.proofs.put_tick.Goals as goal

pub returns-then-not-a : goal.returns-then-not-a
unfolding tick_text
returns-then-not-a c =
    let a = c.args.a in
    let idle = not-true a.ran c.if-not-a.true in
    let short = tick-short (cells_for c.args.size) a (search rules) in
    let len : c.copy.result ≡ length (tick_text (cells_for c.args.size) a) = rw idle c.copy.ensures.value in
    record { out_after = rw idle c.copy.ensures.out_after; value = len; upper_bound = omega (arith, short, len) }

pub copy-requires-2 : goal.copy-requires-2
copy-requires-2 c =
    omega (
      arith,
      decimal-length c.args.a.count 2 (lit≤ tt) c.requires.count_bound,
      c.put_decimal-end.ensures.value,
      c.put_decimal-end.auto.out,
      c.put_cells-count.ensures.upper_bound,
      c.put_cells-count.auto.out,
      c.put_cells-woken.ensures.upper_bound,
      c.put_cells-woken.auto.out,
      c.put_word-cells.ensures.1,
      c.put_word-cells.auto.out,
      c.copy-driven.ensures.value,
      c.copy-driven.auto.out,
      c.requires.longest_print_in_bounds,
    )

pub returns : goal.returns
unfolding tick_text
returns c =
    let a = c.args.a in
    let n = cells_for c.args.size in
    let head = stored-first c.args.out.now (84 ∷ 32 ∷ []) (c.copy-driven.ensures.out_after, c.copy-driven.ensures.value) in
    let driven = word-behind head a.driven c.put_word-cells.ensures in
    let cells = behind driven (cell_word n a.cells) c.put_cells-woken.ensures.out_after in
    let woken = behind cells (cell_word n a.woken) c.put_cells-count.ensures.out_after in
    let count = behind woken (decimal a.count) (c.put_decimal-end.ensures.out_after, c.put_decimal-end.ensures.value) in
    let all = behind count (10 ∷ []) (c.copy-2.ensures.out_after, c.copy-2.ensures.value) in
    let parts = six (84 ∷ 32 ∷ []) (word a.driven) (cell_word n a.cells) (cell_word n a.woken) (decimal a.count) (10 ∷ []) all in
    let ran = not-false a.ran c.if-not-a.false in
    let short = tick-short n a c.requires.count_bound in
    let len : c.copy-2.result ≡ length (tick_text n a) = rw ran parts.1 in
    record { out_after = rw ran parts.0; value = len; upper_bound = omega (arith, short, len) }
