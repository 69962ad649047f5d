-- `ticks::tick::low` meets its contract: a mask of n ones keeps the first n bits.
use Prim.Native.Nat.{ℕ, ◌-◌, ◌%◌, ◌^◌, ◌≤◌, ◌<◌}
use mathlib.Core.Path.{◌≡◌, sym, ap, subst, ◌∙◌}
use native.Mathlib.Nat.{mod-lt, lt_of_lt_of_le}
use lib.Bits.{bit_and, and_mask}
use lib.Pow.{pow_pos, pow_mono}
use borrow.Author.Rules.{rules}
use Rattle.card.specs.Address.{cell_room}
use Rattle.ticks.proofs.tick.low.Goals as goal

masked : (w n m : ℕ) → m ≡ 2 ^ n - 1 → bit_and w m ≡ w % 2 ^ n
masked w n m e = ap (bit_and w) e ∙ and_mask w n

cut_fits : (w n : ℕ) → n ≤ cell_room → w % 2 ^ n < 2 ^ 32
cut_fits w n h = lt_of_lt_of_le (mod-lt w (pow_pos n)) (pow_mono h)

pub overflow_cast-result : goal.overflow_cast-result
overflow_cast-result c =
    let a = c.args in
    record { fits = subst (λ (x : ℕ). x < 2 ^ 32) (sym (masked a.w a.n _ c.all_edited.ensures)) (cut_fits a.w a.n (search rules)) }

pub returns : goal.returns
returns c = masked c.args.w c.args.n _ c.all_edited.ensures
