-- `grammar::grammar::is_word` meets its contract: after i turns what is left to show is the word without its first i bytes.
use mathlib.Core.Path.{sym, ◌∙◌}
use native.Mathlib.Nat.{add-zero}
use borrow.Author.Tests.{eq-eqb, ne_eqb}
use Rattle.grammar.proofs.Words.{word_next, word_end}
use Rattle.grammar.proofs.grammar.is_word.Goals as goal

pub loop-i-init : goal.loop-i-init
loop-i-init c = rw add-zero

pub returns-then-char_at-word : goal.returns-then-char_at-word
returns-then-char_at-word c =
    let so = c.loop-i.invariant ∙ word_next _ _ _ _ c.loop-i-test.true in
    sym (so ∙ rw (← c.char_at.ensures, ne_eqb _ _ c.if-char_at-word.true))

pub loop-i-preserved : goal.loop-i-preserved
loop-i-preserved c =
    let so = c.loop-i.invariant ∙ word_next _ _ _ _ c.loop-i-test.true in
    so ∙ rw (← c.char_at.ensures, eq-eqb _ _ c.if-char_at-word.false)

pub returns : goal.returns
returns c = sym (c.loop-i.invariant ∙ word_end _ _ _ _ c.loop-i-test.false)
