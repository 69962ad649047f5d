-- Laws of bytes: in fields of one length, as numbers, and compared.
use Prim.Native.Nat.{ℕ, zero, suc, ◌+◌, ◌-◌, ◌*◌, ◌/◌, ◌%◌, ◌^◌, ◌≤◌, ◌<◌, zero-le}
use mathlib.Core.Path.{◌≡◌, refl, sym, ap, ap₂, ◌∙◌}
use mathlib.Core.Bool.{Bool, true, false, ◌&&◌, false≢true, and_assoc}
use mathlib.Core.List.{List, [], ◌∷◌, ◌++◌, map, append-nil, append_assoc}
use native.Mathlib.Nat.{add-zero, zero-add, suc-add, add_assoc, zero-mul, suc-mul, add-mul, mul_assoc, not-suc-le-zero, pow-suc, pow-succ'}
use native.Mathlib.Nat.{mod-lt, mod-eq_of_lt, mod-one, div-one, div-div-eq-div-mul}
use native.Mathlib.Numerals.{add-one}
use native.Mathlib.Omega.{arith}
use lib.Arith.{mod-mul, digits_div, digits_mod}
use lib.Dec.{eqb, lit<}
use lib.ListN.{length, get_or, take, drop, length-append, length-drop}
use lib.Seq.{sets, length-sets, take-suc, take_all, get_or-drop, length-take-le, drop-append-add}
use borrow.Author.Tests.{eqb-true, eq-eqb}
use Rattle.text.proofs.Stores.{sets-append}
use Rattle.words.proofs.Bools.{and_left, and_right}
use Rattle.cells.specs.declared.cell.Cell.{Cell}
use Rattle.saved.specs.Headers.{Bytes}
use Rattle.saved.specs.Record.{cell_field, fields_from, big_endian, big_value, same_bytes}

-- ---- fields

module _ {A : Type 0} (f : ℕ → A → List ℕ) where
  pub fields_snoc : (s : ℕ) (l : List A) (x : A) → fields_from f s (l ++ (x ∷ [])) ≡ fields_from f s l ++ f (s + length l) x
  unfolding fields_from
  fields_snoc s [] x = append-nil (f s x) ∙ ap (λ (k : ℕ). f k x) (sym (add-zero s))
  fields_snoc s (y ∷ ys) x =
      let e : suc s + length ys ≡ s + suc (length ys) = omega arith in
      ap (λ (r : List ℕ). f s y ++ r) (fields_snoc (suc s) ys x ∙ ap (λ (k : ℕ). fields_from f (suc s) ys ++ f k x) e)
      ∙ sym (append_assoc (f s y) (fields_from f (suc s) ys) (f (s + suc (length ys)) x))

  -- the fields of the first i entries, and that of the next one
  fields-next : (l : List A) (i : ℕ) (d : A) → i < length l
      → fields_from f 0 (take (i + 1) l) ≡ fields_from f 0 (take i l) ++ f i (get_or l i d)
  fields-next l i d h =
      let n : 0 + length (take i l) ≡ i = omega (arith, length-take-le i l (omega arith)) in
      rw (add-one i, take-suc l i d h)
      (fields_snoc 0 (take i l) (get_or l i d) ∙ ap (λ (k : ℕ). fields_from f 0 (take i l) ++ f k (get_or l i d)) n)

  -- a loop stores the fields, of length w, from `at` on in a buffer of this size: after i turns those of the first i entries, of count
  abbrev pub FieldsStored : (w at size count : ℕ) → List A → (out next : List ℕ) → ℕ → Type 0
  FieldsStored w at size count l out next i =
      (i ≤ count)
      × (next ≡ sets out at (fields_from f 0 (take i l)))
      × (length (fields_from f 0 (take i l)) ≡ i * w)
      × (length next ≡ size)

  pub fields-none : (w at size count : ℕ) (l : List A) (out : List ℕ) → length out ≡ size → FieldsStored w at size count l out out 0
  unfolding fields_from
  fields-none w at size count l out long = (zero-le, refl, sym (zero-mul w), long)

  -- the fields of the first i entries were stored, and now that of the next one
  module _ (w at i : ℕ) (l : List A) (d : A) (bytes : List ℕ)
      (h : i < length l) (e : bytes ≡ f i (get_or l i d)) (n : length (fields_from f 0 (take i l)) ≡ i * w) where
    field_next : (out next : List ℕ) (place : ℕ) → next ≡ sets out at (fields_from f 0 (take i l)) → place ≡ at + i * w
        → sets next place bytes ≡ sets out at (fields_from f 0 (take (i + 1) l))
    field_next out next place stored p =
        let there : place ≡ at + length (fields_from f 0 (take i l)) = omega arith in
        ap₂ (λ (r : List ℕ) (k : ℕ). sets r k bytes) stored there
        ∙ ap (sets (sets out at (fields_from f 0 (take i l))) (at + length (fields_from f 0 (take i l)))) e
        ∙ sets-append out at (fields_from f 0 (take i l)) (f i (get_or l i d))
        ∙ ap (sets out at) (sym (fields-next l i d h))

    field-longer : length bytes ≡ w → length (fields_from f 0 (take (i + 1) l)) ≡ (i + 1) * w
    field-longer long =
        let one : length (f i (get_or l i d)) ≡ w = sym (ap length e) ∙ long in
        ap length (fields-next l i d h) ∙ length-append (fields_from f 0 (take i l)) (f i (get_or l i d)) ∙ omega (arith, add-mul i 1 w)

    pub fields-stored-next : (size count : ℕ) (out next after : List ℕ) (place : ℕ) → FieldsStored w at size count l out next i → i < count
        → length bytes ≡ w → place ≡ at + i * w → after ≡ sets next place bytes → FieldsStored w at size count l out after (i + 1)
    fields-stored-next size count out next after place so_far inside long p stored =
        (omega arith, stored ∙ field_next out next place so_far.1 p, field-longer long, ap length stored ∙ length-sets next place bytes ∙ so_far.3)

  -- fields that do not see the difference
  pub fields_map : (g : A → A) → ((k : ℕ) (x : A) → f k (g x) ≡ f k x) → (s : ℕ) (l : List A) → fields_from f s (map g l) ≡ fields_from f s l
  unfolding fields_from
  fields_map g same s [] = refl
  fields_map g same s (x ∷ xs) = ap₂ (λ (a b : List ℕ). a ++ b) (same s x) (fields_map g same (suc s) xs)

  -- fields of one length w
  module _ (w : ℕ) (d : A) where
    pub fields-length : (s : ℕ) (l : List A) → ((k i : ℕ) → i < length l → length (f k (get_or l i d)) ≡ w)
        → length (fields_from f s l) ≡ length l * w
    unfolding fields_from
    fields-length s [] all = sym (zero-mul w)
    fields-length s (x ∷ xs) all =
        length-append (f s x) (fields_from f (suc s) xs)
        ∙ ap₂ (λ (a b : ℕ). a + b) (all s 0 (omega arith)) (fields-length (suc s) xs (λ k i h. all k (suc i) (omega arith)))
        ∙ omega (arith, suc-mul (length xs) w)

    -- the field at its place
    pub field_at : (s : ℕ) (l : List A) (i : ℕ) → ((k i : ℕ) → i < length l → length (f k (get_or l i d)) ≡ w) → i < length l
        → drop (i * w) (fields_from f s l) ≡ f (s + i) (get_or l i d) ++ fields_from f (suc (s + i)) (drop (suc i) l)
    unfolding fields_from
    field_at s [] i all h = absurd (not-suc-le-zero h)
    field_at s (x ∷ xs) zero all h =
        ap (λ (k : ℕ). drop k (f s x ++ fields_from f (suc s) xs)) (zero-mul w)
        ∙ ap (λ (k : ℕ). f k x ++ fields_from f (suc k) xs) (sym (add-zero s))
    field_at s (x ∷ xs) (suc i) all h =
        let e : suc i * w ≡ length (f s x) + i * w = omega (arith, suc-mul i w, all s 0 (omega arith)) in
        let n : suc s + i ≡ s + suc i = omega arith in
        ap (λ (k : ℕ). drop k (f s x ++ fields_from f (suc s) xs)) e
        ∙ drop-append-add (f s x) (fields_from f (suc s) xs) (i * w)
        ∙ field_at (suc s) xs i (λ k j g. all k (suc j) (omega arith)) (omega arith)
        ∙ ap (λ (k : ℕ). f k (get_or xs i d) ++ fields_from f (suc k) (drop (suc i) xs)) n

-- ---- numbers

-- a number takes the bytes that it is given
pub length-big : (w v : ℕ) → length (big_endian w v) ≡ w
unfolding big_endian
length-big zero v = refl
length-big (suc w) v = ap suc (length-big w v)

byte_pos : (w : ℕ) → 0 < 256 ^ w
byte_pos zero = omega arith
byte_pos (suc w) = omega (arith, byte_pos w, pow-suc 256 w)

-- and their value is the number, as far as it fits
big-value : (w acc v : ℕ) → big_value acc (big_endian w v) ≡ acc * 256 ^ w + v % 256 ^ w
unfolding big_endian big_value
big-value zero acc v = omega (arith, mod-one v)
big-value (suc w) acc v =
    let p : ℕ = 256 ^ w in
    let top : ℕ = v / p % 256 in
    let parts : v % (256 * p) ≡ top * p + v % p = mod-mul v (lit< tt) (byte_pos w) in
    big-value w (acc * 256 + top) v
    ∙ rw (pow-succ' 256 w, parts, add-mul (acc * 256) top p, mul_assoc acc 256 p) (add_assoc (acc * (256 * p)) (top * p) (v % p))

-- a number that fits is read back
pub big-read : (w v : ℕ) → v < 256 ^ w → big_value 0 (big_endian w v) ≡ v
big-read w v h = big-value w 0 v ∙ ap (λ (k : ℕ). 0 * 256 ^ w + k) (mod-eq_of_lt h) ∙ omega (arith, zero-mul (256 ^ w))

pub big-under : (w v : ℕ) → big_value 0 (big_endian w v) < 256 ^ w
big-under w v = rw (big-value w 0 v) (omega (arith, zero-mul (256 ^ w), mod-lt v (byte_pos w)))

-- bytes are written back from their value, whatever was before them
big-top : (acc : ℕ) (l : List ℕ) → Bytes l → big_value acc l / 256 ^ length l ≡ acc
unfolding big_value
big-top acc [] all = div-one acc
big-top acc (b ∷ bs) all =
    let m : ℕ = 256 ^ length bs in
    let v : ℕ = big_value (acc * 256 + b) bs in
    let first : b < 256 = all 0 in
    ap (λ (k : ℕ). v / k) (pow-suc 256 (length bs))
    ∙ sym (div-div-eq-div-mul v m 256)
    ∙ ap (λ (k : ℕ). k / 256) (big-top (acc * 256 + b) bs (λ i. all (suc i)))
    ∙ digits_div acc first

pub big-back : (acc : ℕ) (l : List ℕ) → Bytes l → big_endian (length l) (big_value acc l) ≡ l
unfolding big_endian big_value
big-back acc [] all = refl
big-back acc (b ∷ bs) all =
    let first : b < 256 = all 0 in
    let rest : Bytes bs = λ i. all (suc i) in
    ap₂ (λ (k : ℕ) (t : List ℕ). k ∷ t)
    (ap (λ (k : ℕ). k % 256) (big-top (acc * 256 + b) bs rest) ∙ digits_mod acc first)
    (big-back (acc * 256 + b) bs rest)

-- the low bytes of a number
big-last : (k w v : ℕ) → drop k (big_endian (k + w) v) ≡ big_endian w v
unfolding big_endian
big-last zero w v = ap (λ (j : ℕ). big_endian j v) (zero-add w)
big-last (suc k) w v = ap (λ (j : ℕ). drop (suc k) (big_endian j v)) (suc-add k w) ∙ big-last k w v

-- a slice of a number's bytes, its last w
pub big-low : (count w v : ℕ) (bytes : List ℕ) → w ≤ count → bytes ≡ big_endian count v
    → take (count - (count - w)) (drop (count - w) bytes) ≡ big_endian w v
big-low count w v bytes h e =
    let k : ℕ = count - w in
    let sum : count ≡ k + w = omega arith in
    let many : count - k ≡ w = omega arith in
    ap₂ (λ (m : ℕ) (l : List ℕ). take m (drop k l)) many (e ∙ ap (λ (j : ℕ). big_endian j v) sum)
    ∙ ap (take w) (big-last k w v)
    ∙ take_all w (big_endian w v) (omega (arith, length-big w v))

-- a turn of a loop that reads a number: one byte more, and it still fits in as many bytes
big-snoc : (acc : ℕ) (l : List ℕ) (b : ℕ) → big_value acc (l ++ (b ∷ [])) ≡ big_value acc l * 256 + b
unfolding big_value
big-snoc acc [] b = refl
big-snoc acc (x ∷ xs) b = big-snoc (acc * 256 + x) xs b

pub value-next : (l : List ℕ) (at i : ℕ) → at + i < length l
    → big_value 0 (take i (drop at l)) * 256 + get_or l (at + i) 0 ≡ big_value 0 (take (i + 1) (drop at l))
value-next l at i h =
    let inside : i < length (drop at l) = omega (arith, length-drop at l) in
    rw (add-one i, take-suc (drop at l) i 0 inside, ← get_or-drop at l i 0) (sym (big-snoc 0 (take i (drop at l)) (get_or (drop at l) i 0)))

pub value-fits : (v b i : ℕ) → v < 256 ^ i → b < 256 → v * 256 + b < 256 ^ (i + 1)
value-fits v b i h small = rw (add-one i) (omega (arith, pow-suc 256 i))

-- less than four bytes leave room for one more
pub value_room : (v i : ℕ) → i < 4 → v < 256 ^ i → v * 256 + 255 < 4294967296
value_room v zero h f = omega arith
value_room v (suc zero) h f = omega arith
value_room v (suc (suc zero)) h f = omega arith
value_room v (suc (suc (suc zero))) h f = omega arith
value_room v (suc (suc (suc (suc i)))) h f = absurd (omega arith)

-- ---- a cell's field

-- its head, with the size in two bytes, its configuration and its slots
pub cell_parts : (width i : ℕ) (cell : Cell) → length cell.slots ≡ 4 → width ≤ 4
    → (2 ∷ 0 ∷ (6 + width) ∷ (i + 1) ∷ cell.kind ∷ []) ++ (big_endian width cell.config ++ cell.slots) ≡ cell_field width i cell
unfolding cell_field
cell_parts width i cell n h =
    let size : ℕ = suc (suc (length (big_endian width cell.config ++ cell.slots))) in
    let long = length-append (big_endian width cell.config) cell.slots in
    let wide = length-big width cell.config in
    let top : 0 ≡ size / 256 = omega (arith, long, wide) in
    let low : 6 + width ≡ size % 256 = omega (arith, long, wide) in
    λ k. 2 ∷ top k ∷ low k ∷ (i + 1) ∷ cell.kind ∷ big_endian width cell.config ++ cell.slots

-- ---- equal bytes

-- the test holds of equal bytes, and of no others
pub same_refl : (a : List ℕ) → same_bytes a a ≡ true
unfolding same_bytes
same_refl [] = refl
same_refl (x ∷ xs) = rw (eq-eqb x x refl) (same_refl xs)

pub same-sound : (a b : List ℕ) → same_bytes a b ≡ true → a ≡ b
unfolding same_bytes
same-sound [] [] e = refl
same-sound [] (y ∷ ys) e = absurd (false≢true e)
same-sound (x ∷ xs) [] e = absurd (false≢true e)
same-sound (x ∷ xs) (y ∷ ys) e =
    ap₂ (λ (k : ℕ) (l : List ℕ). k ∷ l) (eqb-true x y (and_left (eqb x y) (same_bytes xs ys) e))
    (same-sound xs ys (and_right (eqb x y) (same_bytes xs ys) e))

pub same-eq : (a b : List ℕ) → a ≡ b → same_bytes a b ≡ true
same-eq a b e = ap (λ (l : List ℕ). same_bytes l b) e ∙ same_refl b

-- two lists in two parts, the first ones of one length
pub same-append : (a b c d : List ℕ) → length a ≡ length c → same_bytes (a ++ b) (c ++ d) ≡ (same_bytes a c && same_bytes b d)
unfolding same_bytes
same-append [] b [] d e = refl
same-append [] b (y ∷ ys) d e = absurd (omega arith)
same-append (x ∷ xs) b [] d e = absurd (omega arith)
same-append (x ∷ xs) b (y ∷ ys) d e =
    ap (λ (t : Bool). eqb x y && t) (same-append xs b ys d (omega arith)) ∙ sym (and_assoc (eqb x y) (same_bytes xs ys) (same_bytes b d))

pub same_not : (a b : List ℕ) → (a ≡ b → ⊥) → same_bytes a b ≡ false
same_not a b ne = go (same_bytes a b) refl
  where
    go : (t : Bool) → same_bytes a b ≡ t → t ≡ false
    go true e = absurd (ne (same-sound a b e))
    go false e = refl
