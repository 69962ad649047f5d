-- `session::run::run_over` meets its contract: the lines of all the bytes, from the start.
use Rattle.card.specs.Address.{cell_count}
use Rattle.card.specs.Fresh.{fresh}
use Rattle.session.proofs.Turns.{ran_over}
use Rattle.session.proofs.run.run_over.Goals as goal

pub returns : goal.returns
unfolding fresh
returns c =
    let a = c.args in
    let e = c.take_lines-lines.ensures in
    let last = c.take_lines-lines.new in
    ran_over cell_count c.fresh-card.result c.take_lines-lines.result a.input.now a.output.now last.out last.store c.fresh-card.ensures e.out_after e.stopped
