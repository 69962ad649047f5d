-- What 14 means, byte by byte: the settings in some bytes, written again, are these bytes exactly where the record's length, tags, lengths of fields,
-- numbers of cells and addresses of connectors are right. Over the number n of cells and the width of a configuration.
use Prim.Native.Nat.{ℕ, zero, suc, ◌+◌, ◌*◌, ◌/◌, ◌%◌, ◌≤◌, ◌<◌}
use mathlib.Core.Path.{◌≡◌, refl, sym, ap, ap₂, ◌∙◌}
use mathlib.Core.Bool.{Bool, true, false, not, ◌&&◌, ◌||◌, cond, and-true, or-false}
use mathlib.Core.List.{List, [], ◌∷◌, ◌++◌}
use native.Mathlib.Decide.{dec_lt}
use native.Mathlib.Nat.{zero-mul, suc-mul, zero-add, mul-le-mul_right}
use native.Mathlib.Numerals.{add-one}
use native.Mathlib.Omega.{arith}
use lib.Dec.{eqb, leb}
use lib.ListN.{length, get_or, take, drop, length-append, length-take, length-drop, get_or-eq_default}
use lib.Seq.{drop-cons, drop-drop, take-add, take_all, length-take-le, get_or-take, get_or-drop}
use borrow.Author.Tests.{eq-eqb, ne_eqb, eqb-true, eqb-false}
use Rattle.words.proofs.Bools.{and_left}
use Rattle.words.specs.Listed.{listed}
use Rattle.text.specs.Digits.{every}
use Rattle.words.proofs.Listed.{length-listed}
use Rattle.card.specs.Address.{cell_count, first_cell, first_connector, connector_count}
use Rattle.card.specs.Valid.{valid}
use Rattle.card.proofs.Settings.{every-snoc}
use Rattle.saved.specs.Record.{field, big_endian, big_value, trigger_field, cell_field, connector_field, fields_from, encode, trigger_length, cell_length}
use Rattle.saved.specs.Record.{connector_length, record_length, trigger_in, cell_in, connector_in, cells_in, load_cells, connectors_in, same_bytes, load_number_as}
use Rattle.saved.specs.Record.{config_width, narrow_width, width_of, load_number}
use Rattle.saved.specs.Headers.{Bytes, every_below, starts_at, numbered_at, trigger_headed, cell_headed, connector_headed, headed, headed_either}
use Rattle.saved.proofs.Fields.{fields_snoc, big-back, same-eq, same-append}
use Rattle.saved.proofs.Forms.{cell-length, connector-length, other_length_lem}

-- ---- every index below a number

-- one more is tested
every-suc : (f : ℕ → Bool) (i : ℕ) → every_below f (suc i) ≡ (every_below f i && f i)
unfolding listed
every-suc f i = every-snoc f (listed (λ k. k) i) i

pub every-next : (f : ℕ → Bool) (i : ℕ) → every_below f (i + 1) ≡ (every_below f i && f i)
every-next f i = rw add-one (every-suc f i)

pub every-same : (f g : ℕ → Bool) (n : ℕ) → ((i : ℕ) → i < n → f i ≡ g i) → every_below f n ≡ every_below g n
unfolding every listed
every-same f g zero h = refl
every-same f g (suc n) h =
    every-suc f n
    ∙ ap₂ (λ (a b : Bool). a && b) (every-same f g n (λ i k. h i (omega arith))) (h n (omega arith))
    ∙ sym (every-suc g n)

-- ---- parts of a list

-- the next entry of a part
next_of : (l : List ℕ) (k j m : ℕ) → j ≡ k + 1 → k < length l → take (suc m) (drop k l) ≡ get_or l k 0 ∷ take m (drop j l)
next_of l k j m e h = rw (drop-cons l k 0 h, e, add-one k)

-- its first four
four-of : (l : List ℕ) (at m : ℕ) → at + (4 + m) ≤ length l
    → take (4 + m) (drop at l) ≡ get_or l at 0 ∷ get_or l (at + 1) 0 ∷ get_or l (at + 2) 0 ∷ get_or l (at + 3) 0 ∷ take m (drop (at + 4) l)
four-of l at m h =
    let e : 4 + m ≡ suc (suc (suc (suc m))) = omega arith in
    ap (λ (k : ℕ). take k (drop at l)) e
    ∙ next_of l at (at + 1) (suc (suc (suc m))) refl (omega arith)
    ∙ ap (λ (t : List ℕ). get_or l at 0 ∷ t)
    (next_of l (at + 1) (at + 2) (suc (suc m)) (omega arith) (omega arith)
    ∙ ap (λ (t : List ℕ). get_or l (at + 1) 0 ∷ t)
    (next_of l (at + 2) (at + 3) (suc m) (omega arith) (omega arith)
    ∙ ap (λ (t : List ℕ). get_or l (at + 2) 0 ∷ t) (next_of l (at + 3) (at + 4) m (omega arith) (omega arith))))

-- a part in two
part-in-two : (l : List ℕ) (at m k : ℕ) → take (m + k) (drop at l) ≡ take m (drop at l) ++ take k (drop (at + m) l)
part-in-two l at m k = take-add m k (drop at l) ∙ ap (λ (t : List ℕ). take m (drop at l) ++ take k t) (drop-drop m at l)

part_length : (l : List ℕ) (at m : ℕ) → at + m ≤ length l → length (take m (drop at l)) ≡ m
part_length l at m h =
    let d = length-drop at l in
    length-take-le m (drop at l) (omega (arith, d))

-- ---- one field

regroup : (a b c d : Bool) → (a && (b && (c && (d && true)))) ≡ ((a && (b && c)) && d)
regroup true true true d = and-true d
regroup true true false d = refl
regroup true false c d = refl
regroup false b c d = refl

-- a field whose values are those that are there
field-headed : (l : List ℕ) (at m tag size number : ℕ) (body : List ℕ) → at + (4 + m) ≤ length l → body ≡ take m (drop (at + 4) l)
    → suc (length body) ≡ size → same_bytes (field tag (number ∷ body)) (take (4 + m) (drop at l)) ≡ numbered_at l at tag size number
unfolding same_bytes starts_at numbered_at
field-headed l at m tag size number body h e n =
    rw (four-of l at m h, n, same-eq body (take m (drop (at + 4) l)) e)
    (regroup (eqb tag (get_or l at 0)) (eqb (size / 256) (get_or l (at + 1) 0)) (eqb (size % 256) (get_or l (at + 2) 0)) (eqb number (get_or l (at + 3) 0)))

-- ---- the fields of one kind

module _ {A : Type 0} (f : ℕ → A → List ℕ) (g : ℕ → A) (w : ℕ) (long : (i : ℕ) → length (f i (g i)) ≡ w) where
  one_more : (n : ℕ) → fields_from f 0 (listed g (suc n)) ≡ fields_from f 0 (listed g n) ++ f n (g n)
  unfolding listed
  one_more n =
      fields_snoc f 0 (listed g n) (g n) ∙ ap (λ (k : ℕ). fields_from f 0 (listed g n) ++ f k (g n)) (zero-add _ ∙ length-listed g n)

  fields-long : (n : ℕ) → length (fields_from f 0 (listed g n)) ≡ n * w
  unfolding listed fields_from
  fields-long zero = sym (zero-mul w)
  fields-long (suc n) =
      ap length (one_more n) ∙ length-append (fields_from f 0 (listed g n)) (f n (g n)) ∙ omega (arith, fields-long n, long n, suc-mul n w)

  -- they are the bytes at a place where each is
  fields-same : (at : ℕ) (l : List ℕ) (n : ℕ) → at + n * w ≤ length l
      → same_bytes (fields_from f 0 (listed g n)) (take (n * w) (drop at l))
      ≡ every_below (λ i. same_bytes (f i (g i)) (take w (drop (at + i * w) l))) n
  unfolding every listed fields_from same_bytes
  fields-same at l zero h = rw (zero-mul w)
  fields-same at l (suc n) h =
      let e : suc n * w ≡ n * w + w = omega (arith, suc-mul n w) in
      let inside : at + n * w ≤ length l = omega (arith, e) in
      ap₂ same_bytes (one_more n) (ap (λ (k : ℕ). take k (drop at l)) e ∙ part-in-two l at (n * w) w)
      ∙ same-append (fields_from f 0 (listed g n)) (f n (g n)) (take (n * w) (drop at l)) (take w (drop (at + n * w) l))
      (fields-long n ∙ sym (part_length l at (n * w) inside))
      ∙ ap (λ (b : Bool). b && same_bytes (f n (g n)) (take w (drop (at + n * w) l))) (fields-same at l n inside)
      ∙ sym (every-suc (λ i. same_bytes (f i (g i)) (take w (drop (at + i * w) l))) n)

-- ---- the settings in some bytes

part_bytes : (l : List ℕ) (at m : ℕ) → Bytes l → Bytes (take m (drop at l))
part_bytes l at m all i = go (dec_lt i m)
  where
    go : Dec (i < m) → get_or (take m (drop at l)) i 0 < 256
    go (yes h) = rw (get_or-take m (drop at l) i 0 h, get_or-drop at l i 0) (all (at + i))
    go (no h) =
        let n = length-take m (drop at l) in
        let short : length (take m (drop at l)) ≤ i = omega (arith, n) in
        rw (get_or-eq_default (take m (drop at l)) 0 short) (omega arith)

-- the values of a cell are those that are at its place, whatever place that is
cell-values : (width : ℕ) (bytes : List ℕ) (at : ℕ) → Bytes bytes → at + cell_length width ≤ length bytes
    → get_or bytes (at + 4) 0
    ∷ big_endian width (big_value 0 (take width (drop (at + 5) bytes)))
    ++ (get_or bytes (at + (5 + width)) 0 ∷ get_or bytes (at + (6 + width)) 0 ∷ get_or bytes (at + (7 + width)) 0 ∷ get_or bytes (at + (8 + width)) 0 ∷ [])
    ≡ take (5 + width) (drop (at + 4) bytes)
cell-values width bytes at all h =
    let digits = take width (drop (at + 5) bytes) in
    let long : length digits ≡ width = part_length bytes (at + 5) width (omega arith) in
    let sum : 5 + width ≡ suc (width + 4) = omega arith in
    let written : big_endian width (big_value 0 digits) ≡ digits =
    ap (λ (k : ℕ). big_endian k (big_value 0 digits)) (sym long) ∙ big-back 0 digits (part_bytes bytes (at + 5) width all) in
    let k0 : at + (5 + width) ≡ at + 5 + width = omega arith in
    let k1 : at + (6 + width) ≡ at + 5 + width + 1 = omega arith in
    let k2 : at + (7 + width) ≡ at + 5 + width + 2 = omega arith in
    let k3 : at + (8 + width) ≡ at + 5 + width + 3 = omega arith in
    let slots =
    (λ k. get_or bytes (k0 k) 0 ∷ get_or bytes (k1 k) 0 ∷ get_or bytes (k2 k) 0 ∷ get_or bytes (k3 k) 0 ∷ [])
    ∙ sym (four-of bytes (at + 5 + width) 0 (omega arith)) in
    ap (λ (t : List ℕ). get_or bytes (at + 4) 0 ∷ t) (ap₂ (λ (a b : List ℕ). a ++ b) written slots ∙ sym (part-in-two bytes (at + 5) width 4))
    ∙ sym (ap (λ (k : ℕ). take k (drop (at + 4) bytes)) sum ∙ next_of bytes (at + 4) (at + 5) (width + 4) (omega arith) (omega arith))

module _ (n width : ℕ) (bytes : List ℕ) (all : Bytes bytes) (sized : length bytes ≡ record_length n width) where
  trigger-headed : same_bytes (trigger_field (trigger_in bytes)) (take trigger_length (drop 0 bytes)) ≡ trigger_headed bytes
  unfolding trigger_headed numbered_at
  trigger-headed =
      field-headed bytes 0 0 1 1 (trigger_in bytes) [] (omega arith) refl refl
      ∙ ap (λ (b : Bool). starts_at bytes 0 1 1 && b) (eq-eqb (trigger_in bytes) (trigger_in bytes) refl)
      ∙ and-true (starts_at bytes 0 1 1)

  cell-headed : (i : ℕ) → i < n
      → same_bytes (cell_field width i (cell_in width bytes i)) (take (cell_length width) (drop (trigger_length + i * cell_length width) bytes))
      ≡ cell_headed width bytes i
  unfolding cell_field cell_in cell_headed
  cell-headed i h =
      let w = cell_length width in
      let at = trigger_length + i * w in
      let cell = cell_in width bytes i in
      let inside : at + w ≤ length bytes = omega (arith, mul-le-mul_right w h, suc-mul i w) in
      let long = cell-length width i cell refl in
      let sum : w ≡ 4 + (5 + width) = omega arith in
      ap (λ (k : ℕ). same_bytes (cell_field width i cell) (take k (drop at bytes))) sum
      ∙ field-headed bytes at (5 + width) 2 (6 + width) (i + first_cell) (cell.kind ∷ big_endian width cell.config ++ cell.slots) (omega (arith, inside))
      (cell-values width bytes at all inside) (omega (arith, long))

  connector-headed : (k : ℕ) → k < connector_count
      → same_bytes (connector_field k (connector_in n width bytes k))
      (take connector_length (drop (trigger_length + n * cell_length width + k * connector_length) bytes))
      ≡ connector_headed n width bytes k
  unfolding connector_field connector_in connector_headed
  connector-headed k h =
      let at = trigger_length + n * cell_length width + k * connector_length in
      let c = connector_in n width bytes k in
      let values : c.kind ∷ c.source ∷ [] ≡ take 2 (drop (at + 4) bytes) =
      sym (next_of bytes (at + 4) (at + 5) 1 (omega arith) (omega arith)
      ∙ ap (λ (t : List ℕ). c.kind ∷ t) (next_of bytes (at + 5) (at + 6) 0 (omega arith) (omega arith))) in
      field-headed bytes at 2 3 3 (k + first_connector) (c.kind ∷ c.source ∷ []) (omega arith) values refl

  -- the bytes in three parts
  three : bytes
      ≡ take trigger_length (drop 0 bytes)
      ++ (take (n * cell_length width) (drop trigger_length bytes)
      ++ take (connector_count * connector_length) (drop (trigger_length + n * cell_length width) bytes))
  three =
      let cells = n * cell_length width in
      let connectors = connector_count * connector_length in
      let whole : length bytes ≤ trigger_length + (cells + connectors) = omega arith in
      sym (take_all (trigger_length + (cells + connectors)) bytes whole)
      ∙ part-in-two bytes 0 trigger_length (cells + connectors)
      ∙ ap (λ (t : List ℕ). take trigger_length bytes ++ t) (part-in-two bytes trigger_length cells connectors)

  cells-long : (i : ℕ) → length (cell_field width i (cell_in width bytes i)) ≡ cell_length width
  unfolding cell_in
  cells-long i = cell-length width i (cell_in width bytes i) refl

  connectors-long : (k : ℕ) → length (connector_field k (connector_in n width bytes k)) ≡ connector_length
  connectors-long k = connector-length k (connector_in n width bytes k)

  cells-headed : same_bytes (fields_from (cell_field width) 0 (cells_in n width bytes)) (take (n * cell_length width) (drop trigger_length bytes))
      ≡ every_below (cell_headed width bytes) n
  cells-headed =
      fields-same (cell_field width) (cell_in width bytes) (cell_length width) cells-long trigger_length bytes n (omega arith)
      ∙ every-same _ (cell_headed width bytes) n cell-headed

  connectors-headed : same_bytes (fields_from connector_field 0 (connectors_in n width bytes))
      (take (connector_count * connector_length) (drop (trigger_length + n * cell_length width) bytes))
      ≡ every_below (connector_headed n width bytes) connector_count
  connectors-headed =
      let at = trigger_length + n * cell_length width in
      fields-same connector_field (connector_in n width bytes) connector_length connectors-long at bytes connector_count (omega arith)
      ∙ every-same _ (connector_headed n width bytes) connector_count connector-headed

  sized_same : same_bytes (encode width (trigger_in bytes) (cells_in n width bytes) (connectors_in n width bytes)) bytes
      ≡ (trigger_headed bytes && (every_below (cell_headed width bytes) n && every_below (connector_headed n width bytes) connector_count))
  unfolding encode
  sized_same =
      let cells = n * cell_length width in
      let front = fields_from (cell_field width) 0 (cells_in n width bytes) in
      let back = fields_from connector_field 0 (connectors_in n width bytes) in
      let cell_bytes = take cells (drop trigger_length bytes) in
      let connector_bytes = take (connector_count * connector_length) (drop (trigger_length + cells) bytes) in
      let long : length front ≡ length cell_bytes =
      fields-long (cell_field width) (cell_in width bytes) (cell_length width) cells-long n ∙ sym (part_length bytes trigger_length cells (omega arith)) in
      ap (same_bytes (encode width (trigger_in bytes) (cells_in n width bytes) (connectors_in n width bytes))) three
      ∙ same-append (trigger_field (trigger_in bytes)) (front ++ back) (take trigger_length (drop 0 bytes)) (cell_bytes ++ connector_bytes)
      (sym (part_length bytes 0 trigger_length (omega arith)))
      ∙ ap₂ ◌&&◌ trigger-headed (same-append front back cell_bytes connector_bytes long ∙ ap₂ ◌&&◌ cells-headed connectors-headed)

-- bytes with the heads of a record have its length
pub headed-length : (n width : ℕ) (bytes : List ℕ) → headed n width bytes ≡ true → length bytes ≡ record_length n width
unfolding headed
headed-length n width bytes h = eqb-true (length bytes) (record_length n width) (and_left (eqb (length bytes) (record_length n width)) _ h)

-- ---- the law

module _ (n width : ℕ) (bytes : List ℕ) (all : Bytes bytes) where
  -- the settings in the bytes, written again, are the bytes
  pub same-headed : same_bytes (encode width (trigger_in bytes) (cells_in n width bytes) (connectors_in n width bytes)) bytes ≡ headed n width bytes
  unfolding headed
  same-headed = go (eqb (length bytes) (record_length n width)) refl
    where
      go : (t : Bool) → eqb (length bytes) (record_length n width) ≡ t
          → same_bytes (encode width (trigger_in bytes) (cells_in n width bytes) (connectors_in n width bytes)) bytes
          ≡ (t && (trigger_headed bytes && (every_below (cell_headed width bytes) n && every_below (connector_headed n width bytes) connector_count)))
      go true e = sized_same n width bytes all (eqb-true (length bytes) (record_length n width) e)
      go false e = other_length_lem n width bytes (eqb-false (length bytes) (record_length n width) e)

  -- so the number of a load by one form goes by the heads first and then by the values
  pub number-headed : load_number_as n width bytes
      ≡ cond (headed n width bytes) (cond (valid n (trigger_in bytes) (load_cells n width bytes) (connectors_in n width bytes)) 0 15) 14
  unfolding load_number_as
  number-headed = rw same-headed

-- ---- a load, by the form that the length shows

-- bytes that have the length of one form have no heads of the other
form-headed : (n : ℕ) (bytes : List ℕ) → 1 ≤ n → headed n (width_of n bytes) bytes ≡ headed_either n bytes
unfolding headed_either headed
form-headed n bytes some = go (leb n cell_count) (eqb (length bytes) (record_length n narrow_width)) refl
  where
    values : ℕ → Bool
    values width = trigger_headed bytes && (every_below (cell_headed width bytes) n && every_below (connector_headed n width bytes) connector_count)

    go : (small short : Bool) → eqb (length bytes) (record_length n narrow_width) ≡ short
        → headed n (cond (small && short) narrow_width config_width) bytes
        ≡ ((small && (short && values narrow_width)) || (eqb (length bytes) (record_length n config_width) && values config_width))
    go true true e =
        let long = eqb-true (length bytes) (record_length n narrow_width) e in
        let other : eqb (length bytes) (record_length n config_width) ≡ false =
        ne_eqb (length bytes) (record_length n config_width) (λ same. omega (arith, same)) in
        ap (λ (b : Bool). b && values narrow_width) e ∙ sym (or-false (values narrow_width))
        ∙ ap (λ (b : Bool). values narrow_width || (b && values config_width)) (sym other)
    go true false e = refl
    go false short e = refl

-- of a card with cells, whatever its bytes
module _ (n : ℕ) (some : 1 ≤ n) (bytes : List ℕ) (all : Bytes bytes) where
  -- the number of a load goes by the heads first and then by the values
  pub load-number : load_number n bytes
      ≡ cond (headed_either n bytes)
      (cond (valid n (trigger_in bytes) (load_cells n (width_of n bytes) bytes) (connectors_in n (width_of n bytes) bytes)) 0 15) 14
  unfolding load_number
  load-number =
      let ok = valid n (trigger_in bytes) (load_cells n (width_of n bytes) bytes) (connectors_in n (width_of n bytes) bytes) in
      number-headed n (width_of n bytes) bytes all ∙ ap (λ (h : Bool). cond h (cond ok 0 15) 14) (form-headed n bytes some)

  -- 14, exactly where a length, a tag, a number or an address is wrong
  pub load-fourteen : eqb (load_number n bytes) 14 ≡ not (headed_either n bytes)
  load-fourteen =
      ap (λ (k : ℕ). eqb k 14) load-number
      ∙ told (headed_either n bytes) (valid n (trigger_in bytes) (load_cells n (width_of n bytes) bytes) (connectors_in n (width_of n bytes) bytes))
    where
      told : (h v : Bool) → eqb (cond h (cond v 0 15) 14) 14 ≡ not h
      told true true = refl
      told true false = refl
      told false v = refl
