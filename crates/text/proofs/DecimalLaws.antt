-- Laws of numbers in decimal: what is printed reads back, and what reads prints back.
use Prim.Native.Nat.{ℕ, zero, suc, ◌+◌, ◌-◌, ◌*◌, ◌/◌, ◌%◌, ◌^◌, ◌≤◌, ◌<◌}
use mathlib.Core.Path.{◌≡◌, refl, sym, ap, ap₂, ◌∙◌}
use mathlib.Core.Bool.{Bool, true, false, cond, not, ◌&&◌, and-false}
use mathlib.Core.List.{List, [], ◌∷◌, ◌++◌, append_assoc, append-nil}
use Rattle.std.specs.Prelude.{None, Some}
use native.Mathlib.Nat.{pow-suc, le_refl}
use native.Mathlib.Decide.{dec_lt}
use native.Mathlib.Numerals.{add-one}
use native.Mathlib.Omega.{arith}
use lib.Dec.{leb, ltb, eqb}
use lib.ListN.{length, get_or, drop, length-append, length-drop, drop_of_length-le}
use lib.Seq.{drop-cons}
use borrow.Author.Tests.{leb-true, ltb-false, lt-ltb, le-ltb, le-leb, lt-leb, ne_eqb, eqb-false, not-true}
use Rattle.text.specs.Digits.{every, value_by}
use Rattle.text.specs.Decimal.{is_digit, digits_of, digit_value, value_from, max_digits, leads, plain, number_of, number_in, number_at, decimal_from, decimal}
use Rattle.text.proofs.DigitLaws.{both_left, both_right, every_append, value-append}

-- ---- digits

pub digit-yes : (b : ℕ) → 48 ≤ b → b ≤ 57 → is_digit b ≡ true
unfolding is_digit
digit-yes b l h = rw (le-leb 48 b l, le-leb b 57 h)

pub digit-no : (b : ℕ) → 57 < b → is_digit b ≡ false
unfolding is_digit
digit-no b h = rw (lt-leb b 57 h) (and-false (leb 48 b))

pub digit_low : (b : ℕ) → is_digit b ≡ true → 48 ≤ b
unfolding is_digit
digit_low b e = leb-true 48 b (both_left (leb 48 b) (leb b 57) e)

pub digit-high : (b : ℕ) → is_digit b ≡ true → b ≤ 57
unfolding is_digit
digit-high b e = leb-true b 57 (both_right (leb 48 b) (leb b 57) e)

pub digit-small : (b : ℕ) → is_digit b ≡ true → digit_value b < 10
digit-small b e = omega (arith, digit_low b e, digit-high b e)

-- ---- the digits at the front of a text

pub digits_more : (b : ℕ) (bs : List ℕ) → is_digit b ≡ true → digits_of (b ∷ bs) ≡ b ∷ digits_of bs
unfolding digits_of
digits_more b bs e = rw e

pub digits-stop : (b : ℕ) (bs : List ℕ) → is_digit b ≡ false → digits_of (b ∷ bs) ≡ []
unfolding digits_of
digits-stop b bs e = rw e

-- the digits, and then what is left of the text
pub digits-rest : (t : List ℕ) → digits_of t ++ drop (length (digits_of t)) t ≡ t
unfolding digits_of
digits-rest [] = refl
digits-rest (b ∷ bs) = go (is_digit b) (digits-rest bs)
  where
    go : (y : Bool) → digits_of bs ++ drop (length (digits_of bs)) bs ≡ bs
        → cond y (b ∷ digits_of bs) [] ++ drop (length (cond y (b ∷ digits_of bs) [])) (b ∷ bs) ≡ b ∷ bs
    go true ih = ap (λ (l : List ℕ). b ∷ l) ih
    go false ih = refl

-- each of them is a digit
pub digits-all : (t : List ℕ) → every is_digit (digits_of t) ≡ true
unfolding digits_of every
digits-all [] = refl
digits-all (b ∷ bs) = go (is_digit b) refl (digits-all bs)
  where
    go : (y : Bool) → is_digit b ≡ y → every is_digit (digits_of bs) ≡ true → every is_digit (cond y (b ∷ digits_of bs) []) ≡ true
    go true e ih = rw e ih
    go false e ih = refl

-- digits are found whole where what follows starts with no digit
pub digits_append : (ds rest : List ℕ) → every is_digit ds ≡ true → digits_of rest ≡ [] → digits_of (ds ++ rest) ≡ ds
unfolding every
digits_append [] rest e r = r
digits_append (d ∷ ds) rest e r =
    digits_more d (ds ++ rest) (both_left (is_digit d) (every is_digit ds) e)
    ∙ ap (λ (l : List ℕ). d ∷ l) (digits_append ds rest (both_right (is_digit d) (every is_digit ds) e) r)

-- ---- the digits of a number

-- more steps than the number's size change nothing
enough : (k j n : ℕ) → n ≤ k → n ≤ j → decimal_from k n ≡ decimal_from j n
unfolding decimal_from
enough zero zero n hk hj = refl
enough zero (suc j) n hk hj = rw (lt-ltb n 10 (omega arith))
enough (suc k) zero n hk hj = rw (lt-ltb n 10 (omega arith))
enough (suc k) (suc j) n hk hj = go (ltb n 10) refl (enough k j (n / 10))
  where
    go : (y : Bool) → ltb n 10 ≡ y → (n / 10 ≤ k → n / 10 ≤ j → decimal_from k (n / 10) ≡ decimal_from j (n / 10))
        → cond y ((48 + n) ∷ []) (decimal_from k (n / 10) ++ ((48 + n % 10) ∷ []))
        ≡ cond y ((48 + n) ∷ []) (decimal_from j (n / 10) ++ ((48 + n % 10) ∷ []))
    go true e ih = refl
    go false e ih =
        let l : 10 ≤ n = ltb-false n 10 e in
        ap (λ (ds : List ℕ). ds ++ ((48 + n % 10) ∷ [])) (ih (omega arith) (omega arith))

pub decimal-one : (n : ℕ) → n < 10 → decimal n ≡ (48 + n) ∷ []
unfolding decimal decimal_from
decimal-one zero h = refl
decimal-one (suc n) h = rw (lt-ltb (suc n) 10 h)

pub decimal-more : (n : ℕ) → 10 ≤ n → decimal n ≡ decimal (n / 10) ++ ((48 + n % 10) ∷ [])
unfolding decimal decimal_from
decimal-more zero h = absurd (omega arith)
decimal-more (suc n) h =
    rw (le-ltb (suc n) 10 h)
    (ap (λ (ds : List ℕ). ds ++ ((48 + suc n % 10) ∷ [])) (enough n (suc n / 10) (suc n / 10) (omega arith) (le_refl (suc n / 10))))

-- what holds of one digit, and with each digit more, holds of every number
pub by_digits : (P : ℕ → Type 0) → ((n : ℕ) → n < 10 → P n) → ((n : ℕ) → 10 ≤ n → P (n / 10) → P n) → (n : ℕ) → P n
by_digits P one more n = go n n (le_refl n)
  where
    go : (k m : ℕ) → m ≤ k → P m
    go zero m h = one m (omega arith)
    go (suc k) m h = pick (dec_lt m 10) (go k (m / 10))
      where
        pick : Dec (m < 10) → (m / 10 ≤ k → P (m / 10)) → P m
        pick (yes l) ih = one m l
        pick (no l) ih = more m (omega arith) (ih (omega arith))

-- every byte is a digit
pub decimal-digits : (n : ℕ) → every is_digit (decimal n) ≡ true
unfolding every
decimal-digits =
    by_digits (λ n. every is_digit (decimal n) ≡ true) (λ n h. rw (decimal-one n h, digit-yes (48 + n) (omega arith) (omega arith)))
    (λ n h ih. rw (decimal-more n h, every_append, ih, digit-yes (48 + n % 10) (omega arith) (omega arith)))

-- so they are found whole in a text that goes on with no digit
pub decimal-front : (n : ℕ) (rest : List ℕ) → digits_of rest ≡ [] → digits_of (decimal n ++ rest) ≡ decimal n
decimal-front n rest r = digits_append (decimal n) rest (decimal-digits n) r

-- they say the number
pub decimal-value : (n : ℕ) → value_from 0 (decimal n) ≡ n
unfolding value_by
decimal-value =
    by_digits (λ n. value_from 0 (decimal n) ≡ n) (λ n h. rw (decimal-one n h) (omega arith))
    (λ n h ih. rw (decimal-more n h, value-append 10 digit_value 0 (decimal (n / 10)) ((48 + n % 10) ∷ []), ih) (omega arith))

-- at most k digits below 10 ^ k
pub decimal-length : (n k : ℕ) → 1 ≤ k → n < 10 ^ k → length (decimal n) ≤ k
decimal-length n zero l h = absurd (omega arith)
decimal-length n (suc zero) l h = rw (decimal-one n h) (omega arith)
decimal-length n (suc (suc k)) l h = go (dec_lt n 10) (decimal-length (n / 10) (suc k))
  where
    go : Dec (n < 10) → (1 ≤ suc k → n / 10 < 10 ^ suc k → length (decimal (n / 10)) ≤ suc k) → length (decimal n) ≤ suc (suc k)
    go (yes s) ih = rw (decimal-one n s) (omega arith)
    go (no s) ih =
        let m : n < 10 ^ suc k * 10 = rw pow-suc at h in
        let r : length (decimal (n / 10)) ≤ suc k = ih (omega arith) (omega arith) in
        rw (decimal-more n (omega arith), length-append) (omega arith)

-- all but the last digit, as the code writes them first
pub upper : ℕ → List ℕ
upper n = cond (ltb n 10) [] (decimal (n / 10))

pub upper-none : (n : ℕ) → n < 10 → upper n ≡ []
unfolding upper
upper-none n h = rw (lt-ltb n 10 h)

pub upper-more : (n : ℕ) → 10 ≤ n → upper n ≡ decimal (n / 10)
unfolding upper
upper-more n h = rw (le-ltb n 10 h)

pub decimal-last : (n : ℕ) → decimal n ≡ upper n ++ ((48 + n % 10) ∷ [])
decimal-last n = go (dec_lt n 10)
  where
    go : Dec (n < 10) → decimal n ≡ upper n ++ ((48 + n % 10) ∷ [])
    go (yes h) = rw (decimal-one n h, upper-none n h) (ap (λ (b : ℕ). b ∷ []) (omega arith))
    go (no h) = rw (upper-more n (omega arith)) (decimal-more n (omega arith))

pub upper-length : (n : ℕ) → n < 10 ^ max_digits → length (upper n) < max_digits
upper-length n h =
    omega (arith, decimal-length n max_digits (omega arith) h, ap length (decimal-last n) ∙ length-append (upper n) ((48 + n % 10) ∷ []))

-- ---- the form of a number, as the code tests it

pub plain-short : (ds : List ℕ) → length ds < 2 → plain ds ≡ eqb (length ds) 1
unfolding plain leads
plain-short [] h = refl
plain-short (d ∷ []) h = refl
plain-short (d ∷ c ∷ ds) h = absurd (omega arith)

pub plain-few : (ds : List ℕ) → plain ds ≡ true → length ds ≤ max_digits
unfolding plain
plain-few ds e = leb-true (length ds) max_digits (both_left (leb (length ds) max_digits) (leads ds) e)

pub plain-long : (ds : List ℕ) → max_digits < length ds → plain ds ≡ false
unfolding plain
plain-long ds h = rw (lt-leb (length ds) max_digits h)

pub plain-between : (ds : List ℕ) → 2 ≤ length ds → length ds ≤ max_digits → plain ds ≡ not (eqb (get_or ds 0 0) 48)
unfolding plain leads
plain-between [] l h = absurd (omega arith)
plain-between (d ∷ []) l h = absurd (omega arith)
plain-between (d ∷ c ∷ ds) l h = rw (le-leb (suc (suc (length ds))) max_digits h)

-- ---- no leading zero

starts : List ℕ → Bool
starts [] = false
starts (d ∷ ds) = not (eqb d 48)

starts-append : (xs ys : List ℕ) → starts xs ≡ true → starts (xs ++ ys) ≡ true
unfolding starts
starts-append [] ys e = absurd (let z : ◌≡◌ {A = ℕ} 0 1 = cc in omega arith)
starts-append (x ∷ xs) ys e = e

starts-leads : (ds : List ℕ) → starts ds ≡ true → leads ds ≡ true
unfolding starts leads
starts-leads [] e = e
starts-leads (d ∷ []) e = refl
starts-leads (d ∷ c ∷ ds) e = e

decimal-starts : (n : ℕ) → 1 ≤ n → starts (decimal n) ≡ true
unfolding starts
decimal-starts =
    by_digits (λ n. 1 ≤ n → starts (decimal n) ≡ true) (λ n h l. rw (decimal-one n h, ne_eqb (48 + n) 48 (λ e. omega arith)))
    (λ n h ih l. rw (decimal-more n h) (starts-append (decimal (n / 10)) ((48 + n % 10) ∷ []) (ih (omega arith))))

decimal-leads : (n : ℕ) → leads (decimal n) ≡ true
unfolding leads
decimal-leads n = go (dec_lt n 10)
  where
    go : Dec (n < 10) → leads (decimal n) ≡ true
    go (yes h) = rw (decimal-one n h)
    go (no h) = starts-leads (decimal n) (decimal-starts n (omega arith))

pub decimal-plain : (n : ℕ) → n < 10 ^ max_digits → plain (decimal n) ≡ true
unfolding plain
decimal-plain n h = rw (le-leb (length (decimal n)) max_digits (decimal-length n max_digits (omega arith) h), decimal-leads n)

-- ---- there and back

-- what is printed reads as the number
pub print-reads : (n : ℕ) → n < 10 ^ max_digits → number_of (decimal n) ≡ Some n
unfolding number_of
print-reads n h = rw (decimal-digits n, decimal-plain n h, decimal-value n)

-- also within a text that goes on with no digit
pub print-reads-at : (t : List ℕ) (at n : ℕ) (rest : List ℕ) → n < 10 ^ max_digits → drop at t ≡ decimal n ++ rest → digits_of rest ≡ []
    → number_at t at ≡ record { value = Some n; next = at + length (decimal n) }
unfolding number_at number_in
print-reads-at t at n rest h e r = rw (e, decimal-front n rest r, decimal-plain n h, decimal-value n)

-- one digit more
decimal-push : (v d : ℕ) → 1 ≤ v → is_digit d ≡ true → decimal (v * 10 + digit_value d) ≡ decimal v ++ (d ∷ [])
decimal-push v d l e =
    let lo : 48 ≤ d = digit_low d e in
    let hi : d ≤ 57 = digit-high d e in
    decimal-more (v * 10 + (d - 48)) (omega arith)
    ∙ ap₂ (λ (x y : ℕ). decimal x ++ (y ∷ [])) (omega arith) (omega arith)

-- digits that follow those of v
decimal-on : (ds : List ℕ) (v : ℕ) → 1 ≤ v → every is_digit ds ≡ true → decimal (value_from v ds) ≡ decimal v ++ ds
unfolding every value_by
decimal-on [] v l e = sym (append-nil (decimal v))
decimal-on (d ∷ ds) v l e =
    decimal-on ds (v * 10 + (d - 48)) (omega arith) (both_right (is_digit d) (every is_digit ds) e)
    ∙ ap (λ (xs : List ℕ). xs ++ ds) (decimal-push v d l (both_left (is_digit d) (every is_digit ds) e))
    ∙ append_assoc (decimal v) (d ∷ []) ds

-- a first digit prints as itself
decimal-first : (d : ℕ) → is_digit d ≡ true → decimal (0 * 10 + digit_value d) ≡ d ∷ []
decimal-first d e =
    let lo : 48 ≤ d = digit_low d e in
    let hi : d ≤ 57 = digit-high d e in
    decimal-one (0 * 10 + (d - 48)) (omega arith) ∙ ap (λ (b : ℕ). b ∷ []) (omega arith)

decimal-back : (t : List ℕ) → every is_digit t ≡ true → leads t ≡ true → decimal (value_from 0 t) ≡ t
unfolding every value_by leads
decimal-back [] e f = absurd (let z : ◌≡◌ {A = ℕ} 0 1 = cc in omega arith)
decimal-back (d ∷ []) e f = decimal-first d (both_left (is_digit d) true e)
decimal-back (d ∷ c ∷ ds) e f =
    let y : is_digit d ≡ true = both_left (is_digit d) (every is_digit (c ∷ ds)) e in
    let lo : 48 ≤ d = digit_low d y in
    let ne : (d ≡ 48 → ⊥) = eqb-false d 48 (not-true (eqb d 48) f) in
    decimal-on (c ∷ ds) (0 * 10 + (d - 48)) (omega arith) (both_right (is_digit d) (every is_digit (c ∷ ds)) e)
    ∙ ap (λ (xs : List ℕ). xs ++ (c ∷ ds)) (decimal-first d y)

-- the parts of a number that was read
number-parts : (t : List ℕ) (n : ℕ) → number_of t ≡ Some n → (every is_digit t ≡ true) × (plain t ≡ true) × (value_from 0 t ≡ n)
unfolding number_of
number-parts t n = go (every is_digit t) (plain t)
  where
    go : (a b : Bool) → cond (a && b) (Some (value_from 0 t)) None ≡ Some n → (a ≡ true) × (b ≡ true) × (value_from 0 t ≡ n)
    go true true e = (refl, refl, cc)
    go true false e = absurd (let z : ◌≡◌ {A = ℕ} 0 1 = cc in omega arith)
    go false b e = absurd (let z : ◌≡◌ {A = ℕ} 0 1 = cc in omega arith)

-- what reads as a number is what that number prints
pub reads-print : (t : List ℕ) (n : ℕ) → number_of t ≡ Some n → decimal n ≡ t
unfolding plain
reads-print t n e =
    let p = number-parts t n e in
    ap decimal (sym p.2) ∙ decimal-back t p.0 (both_right (leb (length t) max_digits) (leads t) p.1)

-- ---- digits at places of a text

-- a turn of a loop that looks for the end of the digits
pub digits-next : (t : List ℕ) (i : ℕ) → i < length t → is_digit (get_or t i 0) ≡ true
    → digits_of (drop i t) ≡ get_or t i 0 ∷ digits_of (drop (i + 1) t)
digits-next t i h e = rw (add-one, drop-cons t i 0 h) (digits_more (get_or t i 0) (drop (suc i) t) e)

pub digits-end : (t : List ℕ) (i : ℕ) → i < length t → is_digit (get_or t i 0) ≡ false → digits_of (drop i t) ≡ []
digits-end t i h e = rw (drop-cons t i 0 h) (digits-stop (get_or t i 0) (drop (suc i) t) e)

pub digits-past : (t : List ℕ) (i : ℕ) → length t ≤ i → digits_of (drop i t) ≡ []
unfolding digits_of
digits-past t i h = rw (drop_of_length-le t h)

-- the digits lie within the text
pub digits-within : (t : List ℕ) (at : ℕ) → length (digits_of (drop at t)) ≤ length t - at
digits-within t at =
    let ds = digits_of (drop at t) in
    omega (arith, length-drop at t, ap length (sym (digits-rest (drop at t))) ∙ length-append ds (drop (length ds) (drop at t)))
