-- A test by `||` in code: the second is asked only where the first says no.
use mathlib.Core.Path.{◌≡◌, sym, ap, ◌∙◌}
use mathlib.Core.Bool.{Bool, true, false, ◌||◌}

-- a and b are what the definition tests, r and s what the code has for them
pub or-taken : (a b r : Bool) → r ≡ a → r ≡ true → r ≡ (a || b)
or-taken a b r e t = t ∙ sym (ap (λ (x : Bool). x || b) (sym e ∙ t))

pub or-passed : (a b r s : Bool) → r ≡ a → r ≡ false → s ≡ b → s ≡ (a || b)
or-passed a b r s e f h = h ∙ sym (ap (λ (x : Bool). x || b) (sym e ∙ f))
