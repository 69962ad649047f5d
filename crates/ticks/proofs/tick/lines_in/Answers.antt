-- `ticks::tick::lines_in` meets its contract: the connectors read the words of two views as the
-- views.
use Prim.Native.Nat.{ℕ}
use mathlib.Core.Path.{ap, ◌∙◌}
use native.Mathlib.Nat.{le_refl}
use lib.Dec.{lit<}
use Rattle.words.specs.Bits.{bit_at}
use Rattle.ticks.specs.Levels.{effective_sample, lines_of}
use Rattle.words.proofs.Laws.{bit-built}
use Rattle.card.specs.Address.{cell_room}
use Rattle.ticks.specs.Reading.{view}
use Rattle.ticks.proofs.Ticks.{lines-built}
use Rattle.ticks.proofs.Views.{level-zero}
use borrow.Author.Rules.{rules}
use Rattle.ticks.proofs.tick.lines_in.Goals as goal

-- base 0 of a view is low
pub drive-requires : goal.drive-requires
unfolding view
drive-requires c =
    let m = c.args.m in
    ap (λ (w : ℕ). bit_at w 0) (c.sees-now.ensures cell_room (le_refl cell_room) (search rules) (search rules))
    ∙ bit-built (view cell_room 0 m.outputs m.outputs m.levels) 64 0 (lit< tt) ∙ level-zero cell_room _ _

pub returns : goal.returns
returns c n room fits =
    let a = c.args in
    let sample = effective_sample a.input.sample a.input.attached in
    c.drive.ensures
    ∙ (λ k. lines_of (bit_at (c.sees-now.ensures n room fits.0 fits.0 k)) (bit_at (c.sees-before.ensures n room fits.1 fits.1 k))
    a.connectors (c.effective-sample.ensures k))
    ∙ lines-built _ _ a.connectors sample
