-- Laws of the converter's number, as the code finds it.
use Prim.Native.Nat.{ℕ, ◌*◌, ◌≤◌, zero-le}
use mathlib.Core.Path.{◌≡◌, refl, sym, ap, ◌∙◌}
use mathlib.Core.Bool.{Bool, true, false, cond}
use mathlib.Core.List.{List}
use native.Mathlib.Nat.{mul-le-mul_left}
use native.Mathlib.Omega.{arith}
use lib.Dec.{eqb, lit≤}
use lib.ListN.{length}
use lib.Seq.{sets}
use borrow.Author.Tests.{eqb-true, eqb-false}
use Rattle.saved.specs.Record.{config_width, narrow_width, cell_length, record_length}
use Rattle.convert.specs.Convert.{other_width, other_length, short_for, loader_number, too_long, above_small, convert_number, other_form, convert_length}
use Rattle.convert.specs.Convert.{converted_to}

-- the number by its five tests
abbrev pub by_tests : (length short : Bool) (load : ℕ) (long above : Bool) → ℕ
by_tests l s k t a = cond l 14 (cond s 1 (cond (eqb k 0) (cond t 17 (cond a 18 0)) k))

pub number_is : (n room : ℕ) (bytes : List ℕ) (l s t a : Bool) (k : ℕ) → other_length n bytes ≡ l → short_for n room bytes ≡ s → loader_number n bytes ≡ k
    → too_long n bytes ≡ t → above_small n bytes ≡ a → convert_number n room bytes ≡ by_tests l s k t a
unfolding convert_number
number_is n room bytes l s t a k el es ek et ea = λ i. by_tests (el i) (es i) (ek i) (et i) (ea i)

-- that of the loader, where it has one
pub number-loader : (n room : ℕ) (bytes : List ℕ) (k : ℕ) → other_length n bytes ≡ false → short_for n room bytes ≡ false → loader_number n bytes ≡ k
    → eqb k 0 ≡ false → convert_number n room bytes ≡ k
number-loader n room bytes k el es ek other =
    let t = too_long n bytes in
    let a = above_small n bytes in
    number_is n room bytes false false t a k el es ek refl refl ∙ ap (λ (z : Bool). cond z (cond t 17 (cond a 18 0)) k) other

-- it is 0 where no test says no
pub record Passed (l s : Bool) (k : ℕ) (t a : Bool) : Type 0 where
  pub known : l ≡ false
  pub roomy : s ≡ false
  pub loads : k ≡ 0
  pub short : t ≡ false
  pub below : a ≡ false

pub none-applies : (l s t a : Bool) (k : ℕ) → by_tests l s k t a ≡ 0 → Passed l s k t a
none-applies true s t a k e = absurd (omega arith)
none-applies false true t a k e = absurd (omega arith)
none-applies false false t a k e = go (eqb k 0) refl e
  where
    last : (t a : Bool) → eqb k 0 ≡ true → ◌≡◌ {A = ℕ} (cond t 17 (cond a 18 0)) 0 → Passed false false k t a
    last true a ez e = absurd (omega arith)
    last false true ez e = absurd (omega arith)
    last false false ez e = record { known = refl; roomy = refl; loads = eqb-true k 0 ez; short = refl; below = refl }

    go : (z : Bool) → eqb k 0 ≡ z → cond z (cond t 17 (cond a 18 0)) k ≡ 0 → Passed false false k t a
    go true ez e = last t a ez e
    go false ez e = absurd (eqb-false k 0 ez e)

-- what a refusal gives, and what a conversion
pub refused_as : (n k : ℕ) (bytes buffer : List ℕ) → convert_number n (length buffer) bytes ≡ k → eqb k 0 ≡ false
    → (k ≡ convert_number n (length buffer) bytes) × (0 ≡ convert_length n (length buffer) bytes) × (buffer ≡ converted_to n bytes buffer)
unfolding convert_length converted_to
refused_as n k bytes buffer e other = (sym e, rw (e, other), rw (e, other))

pub converted_as : (n : ℕ) (bytes buffer : List ℕ) → convert_number n (length buffer) bytes ≡ 0
    → (record_length n (other_width n bytes) ≡ convert_length n (length buffer) bytes) × (sets buffer 0 (other_form n bytes) ≡ converted_to n bytes buffer)
unfolding convert_length converted_to
converted_as n bytes buffer e = (rw e, rw e)

-- no result is longer than a record of the present form
either-most : (b : Bool) (x y m : ℕ) → x ≤ m → y ≤ m → cond b x y ≤ m
either-most true x y m h k = h
either-most false x y m h k = k

other-most : (n : ℕ) (bytes : List ℕ) → other_width n bytes ≤ config_width
other-most n bytes = either-most (eqb (length bytes) (record_length n narrow_width)) _ _ config_width (lit≤ tt) (lit≤ tt)

pub convert-most : (n room : ℕ) (bytes : List ℕ) → convert_length n room bytes ≤ record_length n config_width
unfolding convert_length
convert-most n room bytes =
    let w = other_width n bytes in
    let longest : n * cell_length w ≤ n * cell_length config_width = mul-le-mul_left n (omega (arith, other-most n bytes)) in
    either-most (eqb (convert_number n room bytes) 0) (record_length n w) 0 (record_length n config_width) (omega (arith, longest)) zero-le
