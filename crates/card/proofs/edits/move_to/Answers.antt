-- `card::edits::move_to` meets its contract: one field is replaced.
use Rattle.std.proofs.Common.{refl}
use Rattle.card.specs.Edits
use Rattle.card.proofs.edits.move_to.Goals as goal

pub returns : goal.returns
unfolding Edits.move
returns c = refl
