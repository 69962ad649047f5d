-- `plchart::put_chart` meets its contract: after a turns the rows of the first a addresses are written.
use Rattle.card.specs.Address.{cell_count}
use Rattle.plchart.proofs.RowLaws.{Written}
use Rattle.plchart.proofs.put_chart.Given as goal

abbrev pub invariant-loop-a : goal.invariant-loop-a
invariant-loop-a l = Written cell_count l.initial.out l.out l.at l.a
