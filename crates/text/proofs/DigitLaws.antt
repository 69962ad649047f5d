-- Laws of digits in any base.
use Prim.Native.Nat.{ℕ, zero, suc, ◌+◌, ◌*◌, ◌^◌, ◌<◌}
use mathlib.Core.Path.{◌≡◌, refl, sym, ap, ◌∙◌, subst}
use mathlib.Core.Bool.{Bool, true, false, ◌&&◌, and_assoc}
use mathlib.Core.List.{List, [], ◌∷◌, ◌++◌}
use native.Mathlib.Nat.{add-zero, pow-suc, pow-le-pow_right, lt_of_lt_of_le, le_of_suc-le-suc}
use native.Mathlib.Numerals.{add-one}
use native.Mathlib.Omega.{arith}
use lib.ListN.{length, get_or, drop}
use lib.Seq.{drop-cons}
use lib.Arith.{digits_lt}
use Rattle.text.specs.Digits.{every, value_by}

-- two tests that both passed
pub both_left : (a b : Bool) → (a && b) ≡ true → a ≡ true
both_left true b e = refl
both_left false b e = e

pub both_right : (a b : Bool) → (a && b) ≡ true → b ≡ true
both_right true b e = e
both_right false b e = absurd (let z : ◌≡◌ {A = ℕ} 0 1 = cc in omega arith)

pub every_append : {A : Type 0} (f : A → Bool) (xs ys : List A) → every f (xs ++ ys) ≡ (every f xs && every f ys)
unfolding every
every_append f [] ys = refl
every_append f (x ∷ xs) ys = ap (λ (t : Bool). f x && t) (every_append f xs ys) ∙ sym (and_assoc (f x) (every f xs) (every f ys))

pub value-append : (base : ℕ) (d : ℕ → ℕ) (acc : ℕ) (xs ys : List ℕ) → value_by base d acc (xs ++ ys) ≡ value_by base d (value_by base d acc xs) ys
unfolding value_by
value-append base d acc [] ys = refl
value-append base d acc (x ∷ xs) ys = value-append base d (acc * base + d x) xs ys

-- what every entry passes, an entry passes
pub every-at : {A : Type 0} (f : A → Bool) (xs : List A) (i : ℕ) (d : A) → every f xs ≡ true → i < length xs → f (get_or xs i d) ≡ true
unfolding every
every-at f [] i d e h = absurd (omega arith)
every-at f (x ∷ xs) zero d e h = both_left (f x) (every f xs) e
every-at f (x ∷ xs) (suc i) d e h = every-at f xs i d (both_right (f x) (every f xs) e) (le_of_suc-le-suc h)

-- a turn of a loop that reads digits: of those from i on, the first is taken
pub every-next : (f : ℕ → Bool) (xs : List ℕ) (i : ℕ) → i < length xs → every f (drop i xs) ≡ (f (get_or xs i 0) && every f (drop (i + 1) xs))
unfolding every
every-next f xs i h = rw (add-one, drop-cons xs i 0 h)

pub value-next : (base : ℕ) (d : ℕ → ℕ) (acc : ℕ) (xs : List ℕ) (i : ℕ) → i < length xs
    → value_by base d acc (drop i xs) ≡ value_by base d (acc * base + d (get_or xs i 0)) (drop (i + 1) xs)
unfolding value_by
value-next base d acc xs i h = rw (add-one, drop-cons xs i 0 h)

-- ---- sizes

-- a digit below the base keeps what is read so far below a power of it
pub grows : (base k acc d : ℕ) → acc < base ^ k → d < base → acc * base + d < base ^ (k + 1)
grows base k acc d h l = rw (add-one, pow-suc) (digits_lt h l)

-- so it stays below the power for n digits while there are fewer
pub fits : (base k n acc d : ℕ) → acc < base ^ k → d < base → k < n → acc * base + d < base ^ n
fits base k n acc d h l m = lt_of_lt_of_le (grows base k acc d h l) (pow-le-pow_right (omega arith) (omega arith))

-- what n digits say is below that power
pub value-below : (base : ℕ) (f : ℕ → Bool) (d : ℕ → ℕ) → ((b : ℕ) → f b ≡ true → d b < base)
    → (xs : List ℕ) (acc k : ℕ) → every f xs ≡ true → acc < base ^ k → value_by base d acc xs < base ^ (k + length xs)
unfolding every value_by
value-below base f d small [] acc k e h = rw add-zero h
value-below base f d small (x ∷ xs) acc k e h =
    subst (λ (m : ℕ). value_by base d (acc * base + d x) xs < base ^ m) (omega arith)
    (value-below base f d small xs (acc * base + d x) (k + 1) (both_right (f x) (every f xs) e)
    (grows base k acc (d x) h (small x (both_left (f x) (every f xs) e))))
