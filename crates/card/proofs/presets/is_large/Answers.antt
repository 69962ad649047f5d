-- `card::presets::is_large` meets its contract.
use Rattle.std.proofs.Common.{sym}
use Rattle.card.proofs.PresetRows.{large-told}
use Rattle.card.proofs.presets.is_large.Goals as goal

pub returns : goal.returns
returns c = sym (large-told c.args.size c.args.v)
