-- Laws of lines that are too long, and of lines that read alike: a line counts only by what it parses to.
use Prim.Native.Nat.{ℕ, ◌<◌}
use mathlib.Core.Path.{◌≡◌, ap}
use mathlib.Core.Bool.{◌&&◌, cond, and-false}
use mathlib.Core.List.{List, []}
use lib.Dec.{eqb, leb, ltb}
use lib.ListN.{length}
use borrow.Author.Tests.{lt-leb}
use Rattle.card.specs.declared.card.Card.{Card}
use Rattle.card.specs.Context.{context_of}
use Rattle.saved.specs.Record.{config_width, saved_to}
use Rattle.std.specs.Prelude.{Result, Err}
use Rattle.grammar.specs.declared.grammar.Command.{Command}
use Rattle.grammar.specs.declared.grammar.NoCommand.{NoCommand}
use Rattle.grammar.specs.declared.grammar.NoCommand.TheVariants.{Malformed}
use Rattle.lines.specs.declared.refused.Refused.TheVariants.{NoRoom}
use Rattle.grammar.specs.Grammar.{longest_line, parse}
use Rattle.lines.specs.declared.line.Outcome.{Outcome}
use Rattle.lines.specs.Line.{outcome_of, shortest_reply, saves, decision_for, line_decision, reply_of, line_outcome, line_reply, store_after}

pub parse-long : (n : ℕ) (t : List ℕ) → longest_line < length t → parse n t ≡ Err Malformed
unfolding parse
parse-long n t h = rw (lt-leb (length t) longest_line h, and-false (leb 1 (length t)))

module _ (n : ℕ) (c : Card) (t u : List ℕ) (same : parse n t ≡ parse n u) where
  pub outcome-same : (reply store : ℕ) → line_outcome n c t reply store ≡ line_outcome n c u reply store
  unfolding line_outcome line_decision
  outcome-same reply store =
      ap (λ (p : Result Command NoCommand). outcome_of n c (cond (ltb reply shortest_reply) (Err NoRoom) (decision_for n (context_of n c) store p))) same

  pub reply-same : (reply store : ℕ) → line_reply n c t reply store ≡ line_reply n c u reply store
  unfolding line_reply
  reply-same reply store = ap (λ (o : Outcome). cond (ltb reply shortest_reply) [] (reply_of o.k o.response)) (outcome-same reply store)

  pub store_same : (reply : ℕ) (store : List ℕ) → store_after n c t reply store ≡ store_after n c u reply store
  unfolding store_after
  store_same reply store =
      ap (λ (o : Outcome). cond (eqb o.k 0 && saves o.response) (saved_to n config_width c store) store) (outcome-same reply (length store))
