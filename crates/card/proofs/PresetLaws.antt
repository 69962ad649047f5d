-- What presets leave alone.
use Rattle.std.proofs.Common.{◌≡◌, ℕ, ◌^◌, ◌<◌, ◌≤◌, true, false, List, ◌++◌, length, get_or, drop, refl, ap, ◌∙◌, true≢false, take-append-drop}
use mathlib.Core.Bool.{or-false}
use mathlib.Core.Option.{Option, none, some}
use Rattle.words.specs.Bits.{bit_at}
use Rattle.words.proofs.Laws.{built-same, built-of-bits}
use Rattle.words.proofs.Listed.{listed_same, listed-take}
use Rattle.cells.specs.declared.cell.Cell.{Cell}
use Rattle.words.proofs.Bools.{or_left, or_right}
use Rattle.card.specs.declared.card.Card.{Card}
use Rattle.card.specs.Address.{connector_count}
use Rattle.card.specs.Connectors.{connector_at, each, from_each, well_formed}
use Rattle.card.specs.Edits.{with_settings}
use Rattle.card.specs.Fresh.{no_cell}
use Rattle.card.proofs.ConnectorLaws.{from_each_lem}
use Rattle.card.specs.Presets.{Setting, is_large, has, setting_of, offered, preset_cell}
use Rattle.card.specs.Presets.{preset_source, cell_with_preset, connector_with_preset, edited_with_preset, preset}

-- a preset leaves the memory, the pointer and the trigger source
pub preset-keeps : (n : ℕ) (c : Card) (v : ℕ) → let d = preset n c v in
    (d.memory ≡ c.memory) × (d.pointer ≡ c.pointer) × (d.trigger ≡ c.trigger)
unfolding preset
preset-keeps n c v = (refl, refl, refl)

no-setting : (o : Option Setting) → has o ≡ false → o ≡ none
no-setting none e = refl
no-setting (some s) e = absurd (true≢false e)

-- a number that is not offered changes nothing
pub preset-unoffered : (n : ℕ) (c : Card) (v : ℕ) → n ≤ length c.cells → well_formed c.connectors ≡ true → c.edited < 2 ^ n
    → offered n v ≡ false → preset n c v ≡ c
unfolding offered preset_cell preset_source preset each
preset-unoffered n c v hc hk he e =
    let none-set = no-setting (setting_of v) (or_right (is_large n v) _ e) in
    let small = or_left (is_large n v) _ e in
    let first = listed_same (cell_with_preset c v) (λ i. get_or c.cells i no_cell) n (λ i h. rw none-set) ∙ listed-take c.cells no_cell n hc in
    let cells = ap (λ (front : List Cell). front ++ drop n c.cells) first ∙ take-append-drop n c.cells in
    let connectors = ap from_each (listed_same (connector_with_preset n c v) (connector_at c.connectors) connector_count (λ k h. rw (small, none-set)))
    ∙ from_each_lem c.connectors hk in
    let edited = built-same (edited_with_preset c v) (bit_at c.edited) n (λ i h. rw (none-set, or-false)) ∙ built-of-bits c.edited n he in
    λ k. with_settings c c.trigger (cells k) (connectors k) (edited k)
