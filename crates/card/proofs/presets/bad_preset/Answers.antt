-- `card::presets::bad_preset` meets its contract: one test, computed over all 64 bits, gives each number; past them none is offered.
use Rattle.std.proofs.Common.{not, sym, refl, ap, ◌∙◌, rules}
use Rattle.words.specs.Bits.{bit_at}
use Rattle.words.specs.Listed.{listed}
use Rattle.card.specs.Address.{cell_count, cells_for}
use Rattle.card.specs.Presets.{preset_table, setting_of, offered}
use Rattle.card.proofs.PresetRows.{listed-agree, past-offered, small-offered}
use Rattle.card.proofs.presets.bad_preset.Goals as goal

pub returns-then-is_large : goal.returns-then-is_large
unfolding offered
returns-then-is_large c = rw (sym c.is_large.ensures ∙ c.if-is_large.true)

pub returns-then-v-lt64 : goal.returns-then-v-lt64
unfolding bit_at listed preset_table setting_of offered
returns-then-v-lt64 c =
    let a = c.args in
    ap not (c.bit.ensures ∙ listed-agree (bit_at _) (offered cell_count) 64 a.v refl (search rules)
    ∙ sym (small-offered (cells_for a.size) a.v (sym c.is_large.ensures ∙ c.if-is_large.false)))

pub returns-else-v-lt64 : goal.returns-else-v-lt64
returns-else-v-lt64 c =
    let a = c.args in
    ap not (sym (small-offered (cells_for a.size) a.v (sym c.is_large.ensures ∙ c.if-is_large.false) ∙ past-offered a.v (search rules)))
