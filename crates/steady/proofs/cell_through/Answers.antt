-- `steady::cell_through` meets its contract.
use Rattle.steady.proofs.Cases.{room-cell}
use Rattle.steady.proofs.cell_through.Goals as goal

pub count_through-count-requires : goal.count_through-count-requires
count_through-count-requires c = room-cell c.args.a c.args.b c.args.m c.requires.m_nonzero c.requires.m_bound
