-- `text::is_hex` meets its contract: its tests are the definition's.
use Rattle.text.specs.Hex.{is_hex}
use Rattle.text.proofs.is_hex.Goals as goal

pub returns : goal.returns
unfolding is_hex
returns c = rw c.is_digit.ensures
