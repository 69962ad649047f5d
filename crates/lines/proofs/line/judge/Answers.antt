-- `lines::line::judge` meets its contract: the decision by `decide_for`, unless the reply is too short.
use mathlib.Core.Path.{ap₂, ◌∙◌}
use borrow.Author.Tests.{lt-ltb, le-ltb}
use Rattle.std.specs.Prelude.{Result}
use Rattle.card.specs.Address.{cells_for}
use Rattle.card.specs.declared.context.Context.{Context}
use Rattle.grammar.specs.declared.grammar.Command.{Command}
use Rattle.grammar.specs.declared.grammar.NoCommand.{NoCommand}
use Rattle.lines.specs.Line.{shortest_reply, decision_for, line_decision}
use Rattle.lines.proofs.line.judge.Goals as goal

pub returns-then-reply-lt-SHORTEST_REPLY : goal.returns-then-reply-lt-SHORTEST_REPLY
unfolding line_decision
returns-then-reply-lt-SHORTEST_REPLY c = rw (lt-ltb c.args.reply shortest_reply c.if-reply-lt-SHORTEST_REPLY.true)

pub returns : goal.returns
unfolding line_decision
returns c =
    let a = c.args in
    rw (le-ltb a.reply shortest_reply c.if-reply-lt-SHORTEST_REPLY.false)
    (c.decide_for.ensures
    ∙ ap₂ (λ (y : Context) (q : Result Command NoCommand). decision_for (cells_for y.size) y a.store q) c.context_of-x.ensures c.parse_line.ensures)
