-- `card::presets::source_row` meets its contract: the row of the preset that only a large card has, or a row of the table.
use Rattle.std.proofs.Common.{sym, ◌∙◌}
use Rattle.card.specs.Address.{cell_room, cells_for, connector_count}
use Rattle.card.specs.Presets.{large_preset, preset_source}
use Rattle.card.specs.PresetRows.{source_under, LargeRow}
use Rattle.card.proofs.PresetRows.{listed-agree, small-source, large-source}
use Rattle.card.proofs.presets.source_row.Goals as goal

pub returns-then-is_large : goal.returns-then-is_large
unfolding LargeRow
returns-then-is_large c k h =
    let a = c.args in
    listed-agree (source_under c.large_row.result) (preset_source cell_room large_preset) connector_count k c.large_row.ensures h
    ∙ sym (large-source (cells_for a.size) a.v k (sym c.is_large.ensures ∙ c.if-is_large.true))

pub returns : goal.returns
returns c k h =
    let a = c.args in
    c.small_row.ensures k h ∙ sym (small-source (cells_for a.size) a.v k (sym c.is_large.ensures ∙ c.if-is_large.false))
