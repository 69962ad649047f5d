-- `card::chart::chart` meets its contract: antt computes the rules of each address, and reads the same in its word.
use Rattle.std.proofs.Common.{refl}
use Rattle.words.specs.Bits.{bit_at}
use Rattle.words.specs.Listed.{listed}
use Rattle.card.specs.Address.{permitted_base}
use Rattle.card.specs.Chart.{chart, entry_in, Charted}
use Rattle.card.proofs.chart.chart.Goals as goal

pub returns : goal.returns
unfolding bit_at listed permitted_base chart entry_in Charted
returns c = refl
