-- `program::arguments::whole_number` meets its contract, from what `number_at` ensures.
use borrow.Author.Tests.{eq-eqb, ne_eqb}
use Rattle.program.specs.Words.{whole_number}
use Rattle.program.proofs.Numbers.{number_small}
use Rattle.program.proofs.arguments.whole_number.Goals as goal

pub returns-then-n-word-clause-value : goal.returns-then-n-word-clause-value
unfolding whole_number
returns-then-n-word-clause-value c = rw (← c.number_at-n.ensures, eq-eqb _ _ c.if-n-word.true)

pub returns-then-n-word-clause-value_lt_most_from : goal.returns-then-n-word-clause-value_lt_most_from
returns-then-n-word-clause-value_lt_most_from c = rw c.number_at-n.ensures (number_small c.args.word.now 0)

pub returns-else-n-word-clause-value : goal.returns-else-n-word-clause-value
unfolding whole_number
returns-else-n-word-clause-value c = rw (← c.number_at-n.ensures, ne_eqb _ _ c.if-n-word.false)
