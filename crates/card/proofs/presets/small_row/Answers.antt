-- `card::presets::small_row` meets its contract: a row of the table, by the test over the whole of it, or a row of zeros.
use Rattle.std.proofs.Common.{◌+◌, get_or, sym, rules}
use Rattle.words.proofs.Laws.{bit-zero}
use Rattle.card.specs.Address.{cell_count, connector_count}
use Rattle.card.specs.Presets.{preset_source}
use Rattle.card.specs.PresetRows.{source_rows, source_under, SourceRows}
use Rattle.card.proofs.PresetRows.{row_at, past-source}
use Rattle.card.proofs.presets.small_row.Goals as goal

pub returns-then-n-lt-SOURCE_ROWS : goal.returns-then-n-lt-SOURCE_ROWS
unfolding SourceRows
returns-then-n-lt-SOURCE_ROWS c =
    row_at (λ v. source_under (get_or c.source_rows-rows.result.now v 0)) (preset_source cell_count) source_rows connector_count
    c.source_rows-rows.ensures c.args.v (search rules)

pub returns-else-n-lt-SOURCE_ROWS : goal.returns-else-n-lt-SOURCE_ROWS
unfolding source_under
returns-else-n-lt-SOURCE_ROWS c k h = rw (bit-zero (32 + k)) (sym (past-source c.args.v k (search rules)))
