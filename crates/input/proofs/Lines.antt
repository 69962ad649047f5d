-- Laws of taking lines: bytes without LF, a line that is cut, and the bytes of a block line by line.
use Prim.Native.Nat.{ℕ, suc, ◌+◌, ◌-◌, ◌≤◌, ◌<◌, min}
use mathlib.Core.Path.{◌≡◌, refl, sym, ap, ap₂, ◌∙◌}
use mathlib.Core.Bool.{Bool, true, false, cond, not, true≢false}
use mathlib.Core.List.{List, [], ◌∷◌, ◌++◌, append_assoc, append-nil}
use native.Mathlib.Decide.{dec_lt}
use native.Mathlib.Nat.{le_refl}
use native.Mathlib.Numerals.{add-one}
use native.Mathlib.Omega.{arith}
use lib.Dec.{eqb}
use lib.ListN.{length, get_or, take, drop, length-take, length-drop}
use lib.Seq.{sets, take_all, take_at, take-add, take-take, take-append-le, get_or-take, get_or-drop, drop-cons, drop-drop}
use borrow.Author.Tests.{ne_eqb, lt-ltb}
use Rattle.text.proofs.Stores.{front}
use Rattle.std.specs.Prelude.{Some, None}
use Rattle.std.specs.List.{position, position_or_len}
use Rattle.std.proofs.lemmas.Bool.{eq-eqb}
use Rattle.std.proofs.lemmas.List.Sums.{prefix_len-le-length, fails_before_first}
use Rattle.input.specs.Lines.{is_lf, Taken, ended, longer, takes, takes_all, part, NoLf, cut_to}

-- ---- the line

-- the first bytes, as many as there is room for, are the cut
pub kept-cut : (l text : List ℕ) (k : ℕ) → k ≡ min (length text) (length l) → take k (sets l 0 (take k text)) ≡ take (length l) text
kept-cut l text k ek =
    let size = length-take k text in
    let all : length (take k text) ≡ k = omega (arith, size) in
    front l (take k text) k (sym all) (omega (arith, all)) ∙ enough (dec_lt (length l) (length text))
  where
    enough : Dec (length l < length text) → take k text ≡ take (length l) text
    enough (yes g) =
        let e : k ≡ length l = omega (arith, ek) in
        ap (λ (n : ℕ). take n text) e
    enough (no g) =
        let e : length text ≤ k = omega (arith, ek) in
        let f : length text ≤ length l = omega arith in
        take_all k text e ∙ sym (take_all (length l) text f)

pub cut-cut : (n : ℕ) (l more : List ℕ) → take n (take n l ++ more) ≡ take n (l ++ more)
cut-cut n l more = go (dec_lt n (length l))
  where
    go : Dec (n < length l) → take n (take n l ++ more) ≡ take n (l ++ more)
    go (yes h) =
        let e : length (take n l) ≡ n = length-take n l ∙ omega arith in
        take_at (take n l) more n e ∙ sym (take-append-le n l more (omega arith))
    go (no h) = ap (λ (t : List ℕ). take n (t ++ more)) (take_all n l (omega arith))

-- ---- a part of a block

pub part_length : (l : List ℕ) (a b : ℕ) → b ≤ length l → length (part a b l) ≡ b - a
part_length l a b h =
    let rest = length-drop a l in
    length-take (b - a) (drop a l) ∙ omega (arith, rest)

pub part-append : (l : List ℕ) (a b d : ℕ) → a ≤ b → b ≤ d → part a d l ≡ part a b l ++ part b d l
part-append l a b d h k =
    let e : d - a ≡ (b - a) + (d - b) = omega arith in
    let f : a + (b - a) ≡ b = omega arith in
    ap (λ (n : ℕ). take n (drop a l)) e
    ∙ take-add (b - a) (d - b) (drop a l)
    ∙ ap (λ (t : List ℕ). part a b l ++ take (d - b) t) (drop-drop (b - a) a l ∙ ap (λ (n : ℕ). drop n l) f)

pub part-cons : (l : List ℕ) (a b : ℕ) → a < b → b ≤ length l → part a b l ≡ get_or l a 0 ∷ part (a + 1) b l
part-cons l a b h k =
    let e : b - a ≡ suc (b - (a + 1)) = omega arith in
    ap₂ (λ (n : ℕ) (t : List ℕ). take n t) e (drop-cons l a 0 (omega arith)) ∙ ap (λ (n : ℕ). get_or l a 0 ∷ take (b - (a + 1)) (drop n l)) (sym (add-one a))

-- a part where there is no LF
pub free_part : (block : List ℕ) (a b : ℕ) → ((k : ℕ) → k < b → a ≤ k → get_or block k 0 ≡ 10 → ⊥) → NoLf (part a b block)
free_part block a b none k h e =
    let size = length-take (b - a) (drop a block) in
    let inside : k < b - a = omega (arith, size) in
    let byte = get_or-take (b - a) (drop a block) k 0 inside ∙ get_or-drop a block k 0 in
    none (a + k) (omega arith) (omega arith) (sym byte ∙ e)

-- where `position` finds nothing, nothing passes
pub position-none : (p : ℕ → Bool) (xs : List ℕ) → position p xs ≡ None → (j : ℕ) → j < length xs → p (get_or xs j 0) ≡ false
position-none p xs e j h = fails_before_first p xs j 0 (rw (past (dec_lt first (length xs))) h)
  where
    first : ℕ
    first = position_or_len p xs

    past : Dec (first < length xs) → first ≡ length xs
    past (yes g) = let some : position p xs ≡ Some first = rw (lt-ltb first (length xs) g) in cc
    past (no g) = let short = prefix_len-le-length (λ b. not (p b)) xs in omega (arith, short)

-- bytes of a part that are no LF are none in the block
pub lf_free : (block : List ℕ) (at n end : ℕ) → end ≤ n → n ≤ length block → ((j : ℕ) → j < end - at → is_lf (get_or (part at n block) j 0) ≡ false) → (k : ℕ)
    → k < end → at ≤ k → get_or block k 0 ≡ 10 → ⊥
lf_free block at n end h fits none k g b lf =
    let same : at + (k - at) ≡ k = omega arith in
    let byte = get_or-take (n - at) (drop at block) (k - at) 0 (omega arith) ∙ get_or-drop at block (k - at) 0 ∙ ap (λ (i : ℕ). get_or block i 0) same in
    absurd (true≢false (sym (eq-eqb _ _ (byte ∙ lf)) ∙ none (k - at) (omega arith)))

-- ---- the bytes of an input

module _ {A : Type 0} (step : A → List ℕ → A) where
  pub takes-append : (s : Taken A) (xs ys : List ℕ) → takes_all step s (xs ++ ys) ≡ takes_all step (takes_all step s xs) ys
  unfolding takes_all
  takes-append s [] ys = refl
  takes-append s (b ∷ bs) ys = takes-append (takes step s b) bs ys

  -- bytes without LF make the line longer
  pub takes_part : (s : Taken A) (bs : List ℕ) → NoLf bs → takes_all step s bs ≡ longer s bs
  unfolding takes_all
  takes_part s [] none = λ i. record { done = s.done; line = sym (append-nil s.line) i }
  takes_part s (b ∷ bs) none =
      let first : b ≡ 10 → ⊥ = none 0 (omega arith) in
      let ih = takes_part (longer s (b ∷ [])) bs (λ k g. none (suc k) (omega arith)) in
      rw (ne_eqb b 10 first) (ih ∙ (λ i. record { done = s.done; line = append_assoc s.line (b ∷ []) bs i }))

  -- the first line of a block, which may have begun in an earlier one: the block's first `len` bytes
  pub first-line : (a : A) (block : List ℕ) (len end : ℕ) → len ≤ end → ((k : ℕ) → k < end → len ≤ k → get_or block k 0 ≡ 10 → ⊥)
      → record { done = a; line = part 0 end block } ≡ takes_all step (record { done = a; line = take len block }) (part len end block)
  first-line a block len end h none =
      let all : len - 0 ≡ len = omega arith in
      let line : part 0 end block ≡ take len block ++ part len end block =
      part-append block 0 len end (omega arith) h ∙ ap (λ (n : ℕ). take n block ++ part len end block) all in
      (λ i. record { done = a; line = line i })
      ∙ sym (takes_part (record { done = a; line = take len block }) (part len end block) (free_part block len end none))

  -- an LF, and the bytes up to the next one
  pub next-line : (x₀ x : Taken A) (block : List ℕ) (from end next : ℕ) → from ≤ end → end < next → next ≤ length block → get_or block end 0 ≡ 10
      → ((k : ℕ) → k < next → end + 1 ≤ k → get_or block k 0 ≡ 10 → ⊥) → x ≡ takes_all step x₀ (part from end block)
      → longer (ended step x) (part (end + 1) next block) ≡ takes_all step x₀ (part from next block)
  unfolding takes_all
  next-line x₀ x block from end next h k fits lf none e =
      let rest = part (end + 1) next block in
      let bytes : part from next block ≡ part from end block ++ (10 ∷ rest) =
      part-append block from end next h (omega arith)
      ∙ ap (λ (t : List ℕ). part from end block ++ t) (part-cons block end next k fits ∙ ap (λ (b : ℕ). b ∷ rest) lf) in
      sym (takes_part (ended step x) rest (free_part block (end + 1) next none))
      ∙ ap (λ (y : Taken A). takes_all step (ended step y) rest) e
      ∙ sym (ap (takes_all step x₀) bytes ∙ takes-append x₀ (part from end block) (10 ∷ rest))

-- ---- a line that is cut: where the step makes the same of it, an input that is taken block by block leaves what all its bytes at once would have left

module _ {A : Type 0} (step : A → List ℕ → A) (n : ℕ) (same : (a : A) (l : List ℕ) → step a (take n l) ≡ step a l) where
  ended-kept : (s : Taken A) → ended step (cut_to n s) ≡ ended step s
  ended-kept s = λ i. record { done = same s.done s.line i; line = [] }

  kept-longer : (s : Taken A) (more : List ℕ) → cut_to n (longer (cut_to n s) more) ≡ cut_to n (longer s more)
  kept-longer s more = λ i. record { done = s.done; line = cut-cut n s.line more i }

  -- the bytes that follow do the same to a line that was cut
  kept-takes : (s : Taken A) (bs : List ℕ) → cut_to n (takes_all step (cut_to n s) bs) ≡ cut_to n (takes_all step s bs)
  unfolding takes_all
  kept-takes s [] = λ i. record { done = s.done; line = take-take n n s.line (le_refl n) i }
  kept-takes s (b ∷ bs) = go (λ x. kept-takes x bs) (eqb b 10)
    where
      go : ((x : Taken A) → cut_to n (takes_all step (cut_to n x) bs) ≡ cut_to n (takes_all step x bs)) → (lf : Bool)
          → cut_to n (takes_all step (cond lf (ended step (cut_to n s)) (longer (cut_to n s) (b ∷ []))) bs)
          ≡ cut_to n (takes_all step (cond lf (ended step s) (longer s (b ∷ []))) bs)
      go ih true = ap (λ (x : Taken A). cut_to n (takes_all step x bs)) (ended-kept s)
      go ih false =
          sym (ih (longer (cut_to n s) (b ∷ [])))
          ∙ ap (λ (x : Taken A). cut_to n (takes_all step x bs)) (kept-longer s (b ∷ []))
          ∙ ih (longer s (b ∷ []))

  pub block-by-block : (s : Taken A) (xs ys : List ℕ)
      → cut_to n (takes_all step (cut_to n (takes_all step s xs)) ys) ≡ cut_to n (takes_all step s (xs ++ ys))
  block-by-block s xs ys = kept-takes (takes_all step s xs) ys ∙ ap (cut_to n) (sym (takes-append step s xs ys))
