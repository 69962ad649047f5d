-- `text::number_at` meets its contract, from what its callees ensure.
use Prim.Native.Nat.{◌-◌}
use mathlib.Core.Path.{◌≡◌, sym, ap, ◌∙◌}
use native.Mathlib.Omega.{arith}
use lib.ListN.{length, take, drop, length-drop}
use lib.Seq.{take_all}
use Rattle.text.specs.Decimal.{digits_of, number_at, number_in}
use Rattle.text.proofs.DecimalLaws.{digits-all, plain-few}
use Rattle.text.proofs.number_at.Goals as goal
use Rattle.text.proofs.number_at.Goals.{After-digits_of-digits, then-is_plain, else-is_plain}

-- the part of the text from the place on is all that follows
is-digits : (c : After-digits_of-digits) → c.digits_of-digits.result.now ≡ digits_of (drop c.args.at c.args.text.now)
is-digits c =
    let t = c.args.text.now in
    let all : take (length t - c.args.at) (drop c.args.at t) ≡ drop c.args.at t = take_all _ _ (omega (arith, length-drop c.args.at t)) in
    c.digits_of-digits.ensures ∙ ap digits_of all

pub digits_value-requires-clause-all_digits : goal.digits_value-requires-clause-all_digits
digits_value-requires-clause-all_digits c =
    rw (is-digits (goal.at.digits_value-requires-clause-all_digits c).After-digits_of-digits) (digits-all (drop c.args.at c.args.text.now))

pub digits_value-requires-clause-few : goal.digits_value-requires-clause-few
digits_value-requires-clause-few c = plain-few _ (sym c.is_plain.ensures ∙ c.if-is_plain.true)

pub returns : goal.returns
unfolding number_at number_in
returns c =
    let d = is-digits (goal.at.returns c).After-digits_of-digits in
    let e = sym c.is_plain.ensures in
    elim c.if-is_plain.branch [
      | then-is_plain w ↦ rw (← d, w.value-is, w.digits_value.ensures, e ∙ w.if-is_plain.true)
      | else-is_plain w ↦ rw (← d, w.value-is, e ∙ w.if-is_plain.false)
    ]
