-- `text::put_hex4` meets its contract: the digits that it computes are those of the definition, and `copy` writes them.
use mathlib.Core.Path.{◌≡◌, ap, ◌∙◌}
use mathlib.Core.List.{[], ◌∷◌}
use lib.Seq.{sets}
use Rattle.text.specs.Hex.{hex_digits, hex4}
use Rattle.text.proofs.put_hex4.Goals as goal

pub returns : goal.returns
unfolding hex_digits
returns c =
    let a = c.args in
    let e = c.copy.ensures in
    let four : c.hex_digit.result ∷ c.hex_digit-2.result ∷ c.hex_digit-3.result ∷ c.hex_digit-4.result ∷ [] ≡ hex4 a.w =
    rw (c.hex_digit.ensures, c.hex_digit-2.ensures, c.hex_digit-3.ensures, c.hex_digit-4.ensures) in record {
      out_after = e.out_after ∙ ap (sets a.out.now a.at) four;
      value = e.value;
    }
