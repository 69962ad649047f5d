-- `grammar::grammar::is_word` meets its contract: after i turns what is left to show is the word without its first i bytes.
use Prim.Native.Nat.{◌+◌}
use mathlib.Core.Path.{◌≡◌}
use lib.ListN.{drop}
use Rattle.grammar.specs.Grammar.{is_word}
use Rattle.grammar.proofs.grammar.is_word.Given as goal

abbrev pub invariant-loop-i : goal.invariant-loop-i
invariant-loop-i l = is_word l.word l.at l.text ≡ is_word (drop l.i l.word) (l.at + l.i) l.text
