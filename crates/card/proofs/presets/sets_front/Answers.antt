-- `card::presets::sets_front` meets its contract: the bit of BNC1 says whether the row sources it.
use Rattle.std.proofs.Common.{ℕ, sym, ap, ◌∙◌, rules}
use mathlib.Core.Option.{Option}
use Rattle.card.specs.Presets.{has, sets_front}
use Rattle.card.proofs.PresetRows.{has-source}
use Rattle.card.proofs.presets.sets_front.Goals as goal

pub returns : goal.returns
unfolding sets_front
returns c =
    let row = c.source_row in
    c.bit.ensures ∙ sym (has-source row.result 0) ∙ ap (λ (o : Option ℕ). has o) (row.ensures 0 (search rules))
