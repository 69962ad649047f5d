-- Laws of bytes written in order: runs of stores, each after the last, that make one text.
use Prim.Native.Nat.{ℕ, suc, ◌+◌, ◌≤◌, ◌<◌}
use mathlib.Core.Path.{◌≡◌, sym, ap, ap₂, ◌∙◌}
use mathlib.Core.List.{List, [], ◌∷◌, ◌++◌, append-nil, append_assoc}
use native.Mathlib.Nat.{add-zero, add_assoc, zero-add}
use native.Mathlib.Numerals.{add-one}
use native.Mathlib.Omega.{arith}
use lib.ListN.{length, get_or, set, take, drop, length-append, drop_of_length-le}
use lib.Seq.{sets, sets-eq, take-suc, take-append_seam, length-take-le}

-- ---- a run of stores, of entries of any type

module _ {A : Type 0} where
  -- entries stored after others are one run
  pub sets-append : (l : List A) (at : ℕ) (xs ys : List A) → sets (sets l at xs) (at + length xs) ys ≡ sets l at (xs ++ ys)
  sets-append l at [] ys = ap (λ (k : ℕ). sets l k ys) (add-zero at)
  sets-append l at (x ∷ xs) ys =
      ap (λ (k : ℕ). sets (sets (set l at x) (suc at) xs) k ys) (omega arith) ∙ sets-append (set l at x) (suc at) xs ys

  -- a turn of a loop that copies: the first i were stored, and now the next one
  pub sets-next : (l : List A) (at : ℕ) (xs : List A) (i : ℕ) (d : A) → i < length xs
      → set (sets l at (take i xs)) (at + i) (get_or xs i d) ≡ sets l at (take (i + 1) xs)
  sets-next l at xs i d h =
      ap (λ (k : ℕ). set (sets l at (take i xs)) (at + k) (get_or xs i d)) (sym (length-take-le i xs (omega arith)))
      ∙ sets-append l at (take i xs) (get_or xs i d ∷ [])
      ∙ ap (sets l at) (sym (take-suc xs i d h) ∙ ap (λ (k : ℕ). take k xs) (sym (add-one i)))

  -- stores over the whole of a list
  pub sets-all : (l xs : List A) → length xs ≡ length l → sets l 0 xs ≡ xs
  sets-all l xs e =
      let past : length l ≤ 0 + length xs = omega arith in
      sets-eq xs l 0 (omega arith) ∙ ap (λ (r : List A). xs ++ r) (drop_of_length-le l past) ∙ append-nil xs

  -- stores in three goes, from l by r and s to t, each after the last
  pub sets-three : (l x y z : List A) (at m n : ℕ) {r s t : List A} → r ≡ sets l at x → m ≡ at + length x → s ≡ sets r m y → n ≡ m + length y
      → t ≡ sets s n z → t ≡ sets l at (x ++ (y ++ z))
  sets-three l x y z at m n {r} {s} er em es en et =
      let second : n ≡ at + length (x ++ y) = omega (arith, length-append x y) in
      let first : s ≡ sets l at (x ++ y) = es ∙ ap₂ (λ (q : List A) (k : ℕ). sets q k y) er em ∙ sets-append l at x y in
      et ∙ ap₂ (λ (q : List A) (k : ℕ). sets q k z) first second ∙ sets-append l at (x ++ y) z ∙ ap (sets l at) (append_assoc x y z)

  -- what was stored at the front, read back
  pub front : (l r : List A) (n : ℕ) → n ≡ length r → length r ≤ length l → take n (sets l 0 r) ≡ r
  front l r n e h =
      let s : sets l 0 r ≡ r ++ drop (0 + length r) l = sets-eq r l 0 (rw (zero-add (length r)) h) in
      rw (s, e) (take-append_seam r (drop (0 + length r) l))

-- ---- a text written part by part, from any place on

-- the buffer l has become a: x is there from p on, and the next part goes to `at`
pub record Placed (l : List ℕ) (p : ℕ) (a x : List ℕ) (at : ℕ) : Type 0 where
  pub bytes : a ≡ sets l p x
  pub at-end : at ≡ p + length x

-- one part more
pub placed-then : {l a x : List ℕ} {p at : ℕ} → Placed l p a x at → (y : List ℕ) {r : List ℕ} {end : ℕ} → r ≡ sets a at y → end ≡ at + length y
    → Placed l p r (x ++ y) end
placed-then {l} {a} {x} {p} {at} s y stored next =
    record {
      bytes = stored ∙ ap₂ (λ (b : List ℕ) (k : ℕ). sets b k y) s.bytes s.at-end ∙ sets-append l p x y;
      at-end =
          next ∙ ap (λ (k : ℕ). k + length y) s.at-end ∙ add_assoc p (length x) (length y) ∙ ap (λ (k : ℕ). p + k) (sym (length-append x y));
    }

-- the same text, as a definition has it
pub placed-as : {l a x y : List ℕ} {p at : ℕ} → x ≡ y → Placed l p a x at → Placed l p a y at
placed-as {l} {p = p} e s = record { bytes = s.bytes ∙ ap (sets l p) e; at-end = s.at-end ∙ ap (λ (t : List ℕ). p + length t) e }

-- ---- a text written part by part, from the front

-- the buffer l has become a: the text x is at its front, and the next part goes to `at`
pub record Stored (l a : List ℕ) (x : List ℕ) (at : ℕ) : Type 0 where
  pub bytes : a ≡ sets l 0 x
  pub at-end : at ≡ length x

-- the first part
pub stored-first : (l x : List ℕ) {a : List ℕ} {at : ℕ} → (a ≡ sets l 0 x) × (at ≡ 0 + length x) → Stored l a x at
stored-first l x e = record { bytes = e.0; at-end = e.1 ∙ zero-add (length x) }

-- one part more
pub behind : {l a x : List ℕ} {at : ℕ} → Stored l a x at → (y : List ℕ) {r : List ℕ} {end : ℕ}
    → (r ≡ sets a at y) × (end ≡ at + length y) → Stored l r (x ++ y) end
behind {l} {a} {x} {at} s y e =
    let place : at ≡ 0 + length x = s.at-end ∙ sym (zero-add (length x)) in
    record {
      bytes = e.0 ∙ ap₂ (λ (b : List ℕ) (k : ℕ). sets b k y) s.bytes place ∙ sets-append l 0 x y;
      at-end = e.1 ∙ ap (λ (k : ℕ). k + length y) s.at-end ∙ sym (length-append x y);
    }

-- the parts as a definition groups them
pub regrouped : {l r x y : List ℕ} {at : ℕ} → x ≡ y → Stored l r x at → (r ≡ sets l 0 y) × (at ≡ length y)
regrouped {l} e s = (s.bytes ∙ ap (sets l 0) e, s.at-end ∙ ap length e)

pub three : (x a b : List ℕ) {l r : List ℕ} {at : ℕ} → Stored l r ((x ++ a) ++ b) at
    → (r ≡ sets l 0 (x ++ (a ++ b))) × (at ≡ length (x ++ (a ++ b)))
three x a b s = regrouped (append_assoc x a b) s

pub six : (x a b c d e : List ℕ) {l r : List ℕ} {at : ℕ} → Stored l r (((((x ++ a) ++ b) ++ c) ++ d) ++ e) at
    → (r ≡ sets l 0 (x ++ (a ++ (b ++ (c ++ (d ++ e)))))) × (at ≡ length (x ++ (a ++ (b ++ (c ++ (d ++ e))))))
six x a b c d e s =
    let flat : ((((x ++ a) ++ b) ++ c) ++ d) ++ e ≡ x ++ (a ++ (b ++ (c ++ (d ++ e)))) = simp append_assoc in
    regrouped flat s
