-- `session::run::take_block` meets its contract: there is room for all that the bytes can print, so that the lines stop at their end, and what is left is kept.
use Prim.Native.Nat.{ℕ, ◌≤◌, ◌+◌, ◌*◌, ◌-◌}
use mathlib.Core.Path.{◌≡◌, ap, ◌∙◌}
use native.Mathlib.Omega.{arith}
use lib.ListN.{length, take}
use Rattle.session.specs.Session.{longest_print}
use Rattle.input.specs.Lines.{part, kept}
use Rattle.session.specs.Run.{state_of}
use Rattle.session.proofs.Runs.{room-for-all, kept-lines}
use Rattle.session.proofs.run.take_block.Goals as goal

pub returns : goal.returns
returns c =
    let a = c.args in
    let r = c.take_lines-lines.result in
    let e = c.take_lines-lines.ensures in
    let k = c.keep-rest.ensures in
    let last = c.take_lines-lines.new in
    let room : a.state.used + longest_print * (a.n - a.state.len) ≤ length a.out.now = omega (arith, c.before.before.before.before.before, c.before.before.before.before.before.before.before.before, c.requires.len_bound) in
    let over = room-for-all a.state r a.n a.block.now a.out.now _ e.stopped room in
    let whole : length a.line.now ≡ kept = omega (arith, c.before, c.before.before, c.before.before.before) in
    let cut = ap (λ (m : ℕ). take m (part r.start a.n a.block.now)) whole in
    let x₀ = state_of a.state a.store.now a.block.now a.out.now in record {
      out_after = kept-lines x₀ a.state.len r a.block.now last.store last.out c.keep-rest.new.line a.n c.keep-rest.result over e.out_after (k.line_after ∙ cut);
      len_le_kept = omega (arith, k.upper_bound, whole);
      line_len = k.line_len_unchanged ∙ whole;
      used_bound = omega (arith, e.stopped.few, e.stopped.order, e.stopped.within);
    }
