-- `saved::record::numbered_at` meets its contract: byte by byte; the size has one byte, so that the high one is 0.
use mathlib.Core.Path.{◌≡◌}
use Prim.Native.Nat.{◌/◌, ◌%◌}
use native.Mathlib.Omega.{arith}
use Rattle.saved.specs.Headers.{starts_at, numbered_at}
use Rattle.saved.proofs.record.numbered_at.Goals as goal

pub returns : goal.returns
unfolding starts_at numbered_at
returns c =
    let a = c.args in
    let high : a.size / 256 ≡ 0 = omega arith in
    let low : a.size % 256 ≡ a.size = omega arith in
    rw (high, low)
