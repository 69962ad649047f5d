-- `session::tick_line` meets its contract: each way is a case of the definition.
use mathlib.Core.Path.{sym, ◌∙◌}
use mathlib.Core.Bool.{◌&&◌}
use lib.Dec.{eqb}
use lib.ListN.{get_or}
use borrow.Author.Tests.{eq-eqb, ne_eqb}
use Rattle.text.proofs.DecimalLaws.{digit_low}
use Rattle.session.specs.Session.{tick_line, tick_kind}
use Rattle.session.proofs.Chains.{third}
use Rattle.session.proofs.tick_line.Goals as goal

pub returns-then-text-ne15 : goal.returns-then-text-ne15
unfolding tick_line
returns-then-text-ne15 c = rw (ne_eqb _ _ c.if-text-ne15.true)

pub overflow_sub-input : goal.overflow_sub-input
overflow_sub-input c =
    let t = c.args.text.now in
    let words = (c.is_some.result && eqb (get_or t 8 0) 32) && (c.is_some-2.result && eqb (get_or t 13 0) 32) in
    let is_digit = third (eqb (get_or t 0 0) 84) (eqb (get_or t 1 0) 32) c.is_digit.result (eqb (get_or t 3 0) 32) (words && tick_kind t)
    c.if-head-words.true in
    digit_low (get_or t 2 0) (sym c.is_digit.ensures ∙ is_digit)

pub returns-then-head-words : goal.returns-then-head-words
unfolding tick_line
returns-then-head-words c =
    rw (
      eq-eqb _ _ c.if-text-ne15.false,
      ← c.hex4_at-sample.ensures,
      ← c.hex4_at-attached.ensures,
      ← c.is_digit.ensures,
      ← c.is_some.ensures,
      ← c.is_some-2.ensures,
      c.if-head-words.true,
      ← c.unwrap_or.ensures,
      ← c.unwrap_or-then-head-words.ensures,
    )

pub returns-else-head-words : goal.returns-else-head-words
unfolding tick_line
returns-else-head-words c =
    rw (
      eq-eqb _ _ c.if-text-ne15.false,
      ← c.hex4_at-sample.ensures,
      ← c.hex4_at-attached.ensures,
      ← c.is_digit.ensures,
      ← c.is_some.ensures,
      ← c.is_some-2.ensures,
      c.if-head-words.false,
    )
