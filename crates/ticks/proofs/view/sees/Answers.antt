-- `ticks::view::sees` meets its contract.
use Prim.Native.Nat.{ℕ, ◌*◌, ◌-◌, ◌%◌, ◌^◌, ◌<◌, ◌+◌}
use mathlib.Core.Path.{◌≡◌}
use native.Mathlib.Nat.{one-mul, mod-eq_of_lt}
use native.Mathlib.Omega.{arith}
use lib.Bits.{bit_and, bit_xor, bit_or, or_shifted}
use lib.Pow.{pow_pos, pow-lt}
use Rattle.card.specs.Address.{first_connector}
use Rattle.ticks.proofs.Views.{mix, mix-lt, view-word}
use borrow.Author.Rules.{rules}
use Rattle.ticks.proofs.view.sees.Goals as goal

one_shifted : (i : ℕ) → i < 64 → 1 * 2 ^ i % 2 ^ 64 ≡ 2 ^ i
one_shifted i h = rw one-mul (mod-eq_of_lt (pow-lt h))

-- the shifted levels and cells do not meet, and neither loses a bit
placed : (i below others levels : ℕ) → i < 64 → below < 2 ^ 32 → others < 2 ^ 32 → levels < 2 ^ 16
    → bit_or (levels * 2 ^ 33 % 2 ^ 64) (bit_xor others (bit_and (bit_xor below others) (1 * 2 ^ i % 2 ^ 64 - 1)) * 2 % 2 ^ 64)
    ≡ levels * 2 ^ first_connector + mix i below others * 2
unfolding mix
placed i below others levels hi hb ho hl =
    let m : mix i below others < 2 ^ 32 = mix-lt 32 i below others hb ho in
    let up : levels * 2 ^ 33 % 2 ^ 64 ≡ levels * 2 ^ 33 = mod-eq_of_lt (omega arith) in
    let cells : mix i below others * 2 % 2 ^ 64 ≡ mix i below others * 2 = mod-eq_of_lt (omega arith) in
    rw (one_shifted i hi, up, cells) (or_shifted levels 33 (mix i below others * 2) (omega arith))

-- src/view.rt:16:17
-- src/view.rt:16:16
pub overflow_sub-mask : goal.overflow_sub-mask
overflow_sub-mask c = rw (one_shifted c.args.i (search rules)) (pow_pos c.args.i)

pub returns : goal.returns
returns c n room hb ho =
    let a = c.args in
    view-word n a.i a.below a.others a.levels _ room hb ho (search rules)
    (placed a.i a.below a.others a.levels (search rules) (search rules) (search rules) (search rules))
