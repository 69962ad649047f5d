-- Laws of a list given entry by entry: its entries, and a loop that replaces one entry a turn.
use Prim.Native.Nat.{ℕ, zero, suc, ◌+◌, ◌≤◌, ◌<◌}
use mathlib.Core.Path.{◌≡◌, refl, sym, ap, ap₂, ◌∙◌}
use mathlib.Core.List.{List, [], ◌∷◌, ◌++◌, append-nil, map}
use mathlib.Core.Logic.{◌⊎◌, inl, inr}
use native.Mathlib.Nat.{add-zero, le_of_suc-le-suc, eq-or-lt_of_le, not-suc-le-zero, lt-suc_self}
use native.Mathlib.Numerals.{add-one}
use native.Mathlib.Omega.{arith}
use lib.ListN.{length, get_or, set, take, drop, length-append, length-drop, get_or-append, get_or-map, drop_of_length-le, length-map}
use lib.Seq.{drop-cons, set_at, get_or_at, append_snoc, ext_get_or, take_at, length-take-le, get_or-take}
use Rattle.words.specs.Listed.{listed}

module _ {A : Type 0} where
  pub length-listed : (f : ℕ → A) (n : ℕ) → length (listed f n) ≡ n
  unfolding listed
  length-listed f zero = refl
  length-listed f (suc n) = length-append (listed f n) (f n ∷ []) ∙ ap (λ (k : ℕ). k + 1) (length-listed f n) ∙ add-one n

  pub listed_at : (f : ℕ → A) (n k : ℕ) (d : A) → k < n → get_or (listed f n) k d ≡ f k
  unfolding listed
  listed_at f zero k d h = absurd (not-suc-le-zero h)
  listed_at f (suc n) k d h = go (listed_at f n k d) (eq-or-lt_of_le (le_of_suc-le-suc h))
    where
      go : (k < n → get_or (listed f n) k d ≡ f k) → (k ≡ n) ⊎ (k < n) → get_or (listed f n ++ (f n ∷ [])) k d ≡ f k
      go ih (inl e) = rw e (get_or_at (listed f n) (f n) [] d n (length-listed f n))
      go ih (inr l) = get_or-append (listed f n) (f n ∷ []) d k (rw (length-listed f n) l) ∙ ih l

  pub listed_same : (f g : ℕ → A) (n : ℕ) → ((i : ℕ) → i < n → f i ≡ g i) → listed f n ≡ listed g n
  unfolding listed
  listed_same f g zero h = refl
  listed_same f g (suc n) h =
      ap₂ (λ (l : List A) (x : A). l ++ (x ∷ [])) (listed_same f g n (λ i k. h i (omega arith))) (h n (lt-suc_self n))

  -- the first i entries of l were replaced, and now the next one
  pub listed_next : (f : ℕ → A) (i : ℕ) (l r : List A) (v d : A) → r ≡ listed f i ++ drop i l → v ≡ f i → i < length l
      → set r i v ≡ listed f (i + 1) ++ drop (i + 1) l
  unfolding listed
  listed_next f i l r v d er ev h =
      rw (er, ev, drop-cons l i d h, add-one)
      (set_at (listed f i) (get_or l i d) (drop (suc i) l) (f i) i (length-listed f i) ∙ sym (append_snoc (listed f i) (f i) (drop (suc i) l)))

  -- after the entries that were replaced the list is as it was
  pub behind-at : (f : ℕ → A) (i : ℕ) (l r : List A) (d : A) → r ≡ listed f i ++ drop i l → i < length l → get_or r i d ≡ get_or l i d
  behind-at f i l r d e h = rw (e, drop-cons l i d h) (get_or_at (listed f i) (get_or l i d) _ d i (length-listed f i))

  -- an entry that stays is replaced by itself, and so are k of them
  pub listed_kept : (f : ℕ → A) (i : ℕ) (l r : List A) (d : A) → r ≡ listed f i ++ drop i l → get_or l i d ≡ f i → i < length l
      → r ≡ listed f (i + 1) ++ drop (i + 1) l
  unfolding listed
  listed_kept f i l r d e same h = e ∙ rw (drop-cons l i d h, same, add-one) (sym (append_snoc (listed f i) (f i) _))

  pub listed-passed : (f : ℕ → A) (i k : ℕ) (l r : List A) (d : A) → r ≡ listed f i ++ drop i l
      → ((j : ℕ) → j < k → get_or l (i + j) d ≡ f (i + j)) → i + k ≤ length l → r ≡ listed f (i + k) ++ drop (i + k) l
  listed-passed f i zero l r d e same h = e ∙ ap (λ (m : ℕ). listed f m ++ drop m l) (sym (add-zero i))
  listed-passed f i (suc k) l r d e same h =
      let before = listed-passed f i k l r d e (λ j m. same j (omega arith)) (omega arith) in
      listed_kept f (i + k) l r d before (same k (lt-suc_self k)) (omega arith)
      ∙ ap (λ (m : ℕ). listed f m ++ drop m l) (omega arith)

  -- the first n entries were replaced: each of them, all of them, and the length
  pub front_at : (f : ℕ → A) (n : ℕ) (l : List A) (i : ℕ) (d : A) → i < n → get_or (listed f n ++ drop n l) i d ≡ f i
  front_at f n l i d h = get_or-append (listed f n) (drop n l) d i (rw (length-listed f n) h) ∙ listed_at f n i d h

  pub front-taken : (f : ℕ → A) (n : ℕ) (l : List A) → take n (listed f n ++ drop n l) ≡ listed f n
  front-taken f n l = take_at (listed f n) (drop n l) n (length-listed f n)

  pub front_length : (f : ℕ → A) (n : ℕ) (l : List A) → n ≤ length l → length (listed f n ++ drop n l) ≡ length l
  front_length f n l h = omega (arith, length-append (listed f n) (drop n l), length-listed f n, length-drop n l)

  -- a list given by its entries
  listed-as : (f : ℕ → A) (n : ℕ) (l : List A) (d : A) → length l ≡ n → ((i : ℕ) → i < n → f i ≡ get_or l i d) → listed f n ≡ l
  listed-as f n l d e same =
      let long = length-listed f n in
      ext_get_or d (listed f n) l (long ∙ sym e) (λ i h. let k : i < n = omega (arith, long) in listed_at f n i d k ∙ same i k)

  pub listed-take : (l : List A) (d : A) (n : ℕ) → n ≤ length l → listed (λ i. get_or l i d) n ≡ take n l
  listed-take l d n h = listed-as (λ i. get_or l i d) n (take n l) d (length-take-le n l h) (λ i k. sym (get_or-take n l i d k))

  -- all of them were
  pub listed-done : (f : ℕ → A) (n : ℕ) (l r : List A) → r ≡ listed f n ++ drop n l → length l ≤ n → r ≡ listed f n
  listed-done f n l r e h = e ∙ ap (λ (t : List A). listed f n ++ t) (drop_of_length-le l h) ∙ append-nil (listed f n)

-- the first n entries mapped, entry by entry
pub listed-mapped : {A B : Type 0} (g : A → B) (l : List A) (d : A) (n : ℕ) → n ≤ length l → listed (λ i. g (get_or l i d)) n ≡ map g (take n l)
listed-mapped g l d n h =
    listed-as (λ i. g (get_or l i d)) n (map g (take n l)) (g d) (length-map (take n l) g ∙ length-take-le n l h)
    (λ i k. ap g (sym (get_or-take n l i d k)) ∙ sym (get_or-map g (take n l) i d))
