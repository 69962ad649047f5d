-- `card::presets::apply_preset` meets its contract: the rows say of each cell and connector what the definition says.
use Rattle.std.proofs.Common.{ℕ, Bool, ◌||◌, List, ◌++◌, get_or, drop, sym, ap, ◌∙◌, arith}
use mathlib.Core.Option
use mathlib.Core.Option.{Option}
use Rattle.words.specs.Bits.{bit_at}
use Rattle.words.proofs.Laws.{built-same}
use Rattle.words.specs.Listed.{listed}
use Rattle.words.proofs.Listed.{listed_same}
use Rattle.cells.specs.declared.cell.Cell.{Cell}
use Rattle.card.specs.Address.{connector_count}
use Rattle.card.specs.declared.card.Connector.{Connector}
use Rattle.card.specs.Connectors.{connector_at, each, no_connector, from_each}
use Rattle.card.specs.Edits.{with_settings}
use Rattle.card.specs.Fresh.{no_cell}
use Rattle.card.specs.Presets.{has, preset_source, sourced, cell_with_preset, connector_with_preset, edited_with_preset, preset}
use Rattle.card.specs.PresetRows.{source_under, covers, cell_under}
use Rattle.card.proofs.ConnectorLaws.{each_at}
use Rattle.card.proofs.PresetRows.{has-cell}
use Rattle.card.proofs.presets.apply_preset.Goals as goal

pub returns : goal.returns
unfolding preset
returns c =
    let a = c.args in
    let row = c.cell_row-row.result in
    let says = c.cell_row-row.ensures in
    let sized = c.cells_for-n.ensures in
    let n = c.cells_for-n.result in
    let d = a.card.connectors in
    let cells = c.cells_under.ensures
    ∙ ap (λ (front : List Cell). front ++ drop n a.card.cells)
    (listed_same (λ i. Option.get_or (cell_under row.0 row.1 i) (get_or a.card.cells i no_cell)) (cell_with_preset a.card a.v) n
    (λ i h. ap (λ (o : Option Cell). Option.get_or o (get_or a.card.cells i no_cell)) (says i (omega (arith, sized.upper_bound, h))))) in
    let from = c.source_row in
    let routed = c.connectors_under-routed.ensures
    ∙ ap (λ (l : List Connector). listed (λ k. sourced (source_under from.result k) (get_or l k no_connector)) connector_count) c.each_of.ensures
    ∙ listed_same (λ k. sourced (source_under from.result k) (get_or (each d) k no_connector)) (connector_with_preset n a.card a.v) connector_count
    (λ k h. ap (sourced (source_under from.result k)) (each_at d k h)
    ∙ ap (λ (o : Option ℕ). sourced o (connector_at d k)) (from.ensures k h ∙ ap (λ (m : ℕ). preset_source m a.v k) (sym sized.value))) in
    let connectors = c.from_each.ensures ∙ ap from_each routed in
    let edited = c.edited_under.ensures
    ∙ built-same (λ i. bit_at a.card.edited i || covers row.0 i) (edited_with_preset a.card a.v) n
    (λ i h. ap (λ (b : Bool). bit_at a.card.edited i || b)
    (sym (has-cell row.0 row.1 i) ∙ ap (λ (o : Option Cell). has o) (says i (omega (arith, sized.upper_bound, h))))) in
    (λ k. with_settings a.card a.card.trigger (cells k) (connectors k) (edited k))
    ∙ ap (λ (m : ℕ). preset m a.card a.v) sized.value
