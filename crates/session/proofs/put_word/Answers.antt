-- `session::put_word` meets its contract: the byte goes after the digits.
use Prim.Native.Nat.{ℕ, ◌+◌}
use mathlib.Core.Path.{sym, ap, ap₂, ◌∙◌}
use mathlib.Core.List.{List}
use native.Mathlib.Omega.{arith}
use lib.Seq.{sets}
use Rattle.text.specs.Hex.{hex4}
use Rattle.text.proofs.HexLaws.{hex-length}
use Rattle.text.proofs.Stores.{sets-append}
use Rattle.session.proofs.put_word.Goals as goal

pub returns : goal.returns
returns c =
    let a = c.args in
    let end = c.put_hex4-end.ensures.value ∙ ap (λ (k : ℕ). a.at + k) (sym (hex-length 4 a.w)) in
    let last = c.copy.ensures in (
      last.out_after
          ∙ ap₂ (λ (b : List ℕ) (k : ℕ). sets b k a.byte.now) c.put_hex4-end.ensures.out_after end
          ∙ sets-append a.out.now a.at (hex4 a.w) a.byte.now,
      omega (arith, last.value, c.put_hex4-end.ensures.value, c.requires.at_in_bounds, c.requires.byte_len),
    )
