-- A number of at most ten digits is below 10 ^ 10.
use Prim.Native.Nat.{ℕ, ◌+◌, ◌^◌, ◌≤◌, ◌<◌}
use mathlib.Core.Path.{◌≡◌, refl}
use mathlib.Core.Bool.{Bool, true, false, cond}
use mathlib.Core.List.{List}
use native.Mathlib.Nat.{pow-le-pow_right, lt_of_lt_of_le}
use native.Mathlib.Omega.{arith}
use lib.Dec.{lit≤}
use lib.ListN.{length, drop}
use Rattle.std.specs.Prelude.{Some, None, IfSome}
use Rattle.text.specs.Decimal.{is_digit, digits_of, digit_value, value_from, max_digits, plain, number_in, number_at}
use Rattle.text.proofs.DecimalLaws.{digits-all, digit-small, plain-few}
use Rattle.text.proofs.DigitLaws.{value-below}

module _ (t : List ℕ) where
  digits-small : plain (digits_of t) ≡ true → value_from 0 (digits_of t) < 10 ^ max_digits
  digits-small h =
      let ds = digits_of t in
      let few : length ds ≤ max_digits = plain-few ds h in
      let below : value_from 0 ds < 10 ^ (0 + length ds) = value-below 10 is_digit digit_value digit-small ds 0 0 (digits-all t) (lit≤ tt) in
      let less : 0 + length ds ≤ max_digits = omega arith in
      lt_of_lt_of_le below (pow-le-pow_right (lit≤ tt) less)

  said-small : (b : Bool) → plain (digits_of t) ≡ b → IfSome (cond b (Some (value_from 0 (digits_of t))) None) (λ n. n < 10 ^ max_digits)
  said-small true h = digits-small h
  said-small false h = tt

pub number_small : (t : List ℕ) (at : ℕ) → IfSome (number_at t at).value (λ n. n < 10 ^ max_digits)
unfolding number_at number_in
number_small t at = said-small (drop at t) _ refl
