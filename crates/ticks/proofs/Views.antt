-- Laws of addresses and views: the word that holds a view has the view's bits, and the formula that
-- reads an address reads it.
use Prim.Native.Nat.{ℕ, zero, suc, ◌+◌, ◌-◌, ◌*◌, ◌/◌, ◌%◌, ◌^◌, ◌≤◌, ◌<◌}
use mathlib.Core.Path.{◌≡◌, refl, sym, ap, ap₂, ◌∙◌}
use mathlib.Core.Bool.{Bool, true, false, not, ◌&&◌, ◌||◌, beq, cond}
use mathlib.Core.List.{List, [], ◌∷◌}
use native.Mathlib.Nat.{add-zero, mod-lt, lt_of_le_of_lt, lt_of_lt_of_le}
use native.Mathlib.Numerals.{one-add}
use native.Mathlib.Decide.{dec_lt, ℕ_discrete}
use native.Mathlib.Omega.{arith}
use lib.Dec.{ltb, lit<}
use lib.Bits.{bit_and, bit_or, bit_xor, xor_lt, and_le_l}
use lib.ListN.{get_or}
use lib.Pow.{ones_lt, pow_mono}
use mathlib.Core.Logic.{inl, inr}
use borrow.Author.Tests.{eq-eqb, ne_eqb, lt-ltb, le-ltb}
use Rattle.words.specs.Bits.{bit_at, word_of}
use Rattle.words.proofs.Laws.{bit-zero, bit-above, bit-ones, bit-low, bit_high, bit-and, bit-or, bit-xor, bit-built, built-same, built-of-bits}
use Rattle.card.specs.Address.{cell_room, connector_count, first_cell, first_connector, among, base_of, is_inverted, is_edge}
use Rattle.card.proofs.Places.{among_in, among_below, among-above}
use Rattle.ticks.specs.Reading.{level_at, reads_levels, reads, slots_read, mixed, view}
use Rattle.ticks.proofs.Quarters.{Quarter, InQuarter, in-quarter}

-- ---- two words under a mask

-- x where the mask is set, y elsewhere
abbrev pub merged : (x y mask : ℕ) → ℕ
merged x y mask = bit_xor y (bit_and (bit_xor x y) mask)

merged-rule : (x y mask : Bool) → not (beq y (not (beq x y) && mask)) ≡ cond mask x y
merged-rule true true true = refl
merged-rule true true false = refl
merged-rule true false true = refl
merged-rule true false false = refl
merged-rule false true true = refl
merged-rule false true false = refl
merged-rule false false true = refl
merged-rule false false false = refl

pub merged-bit : (x y mask j : ℕ) → bit_at (merged x y mask) j ≡ cond (bit_at mask j) (bit_at x j) (bit_at y j)
merged-bit x y mask j =
    bit-xor y (bit_and (bit_xor x y) mask) j
    ∙ ap (λ (b : Bool). not (beq (bit_at y j) b)) (bit-and (bit_xor x y) mask j)
    ∙ ap (λ (b : Bool). not (beq (bit_at y j) (b && bit_at mask j))) (bit-xor x y j)
    ∙ merged-rule (bit_at x j) (bit_at y j) (bit_at mask j)

pub merged-lt : (n x y mask : ℕ) → x < 2 ^ n → y < 2 ^ n → merged x y mask < 2 ^ n
merged-lt n x y mask hx hy =
    xor_lt n y (bit_and (bit_xor x y) mask) hy (lt_of_le_of_lt (and_le_l (bit_xor x y) mask) (xor_lt n x y hx hy))

-- ---- the word of a view

-- below under the mask of i ones, the others above it
unfoldable pub mix : ℕ → ℕ → ℕ → ℕ
mix i below others = merged below others (2 ^ i - 1)

mix-bit : (i below others j : ℕ) → bit_at (mix i below others) j ≡ mixed i below others j
unfolding mix mixed
mix-bit i below others j = merged-bit below others (2 ^ i - 1) j ∙ ap (λ (b : Bool). cond b (bit_at below j) (bit_at others j)) (go (dec_lt j i))
  where
    go : Dec (j < i) → bit_at (2 ^ i - 1) j ≡ ltb j i
    go (yes h) = bit-ones i j h ∙ sym (lt-ltb j i h)
    go (no h) =
        let g : i ≤ j = omega arith in
        bit-above (2 ^ i - 1) i j (ones_lt i) g ∙ sym (le-ltb j i g)

pub mix-lt : (n i below others : ℕ) → below < 2 ^ n → others < 2 ^ n → mix i below others < 2 ^ n
unfolding mix
mix-lt n i below others = merged-lt n below others (2 ^ i - 1)

-- a base is low, or a cell's, or a connector's
pub level-cell : (n : ℕ) (cells connectors : ℕ → Bool) (j : ℕ) → j < n → level_at n cells connectors (1 + j) ≡ cells j
unfolding level_at
level-cell n cells connectors j h = rw (among_in 1 n (1 + j) (omega arith) (omega arith)) (ap cells (omega arith))

pub level-connector : (n : ℕ) (cells connectors : ℕ → Bool) (k : ℕ) → n ≤ 32 → k < connector_count
    → level_at n cells connectors (first_connector + k) ≡ connectors k
unfolding level_at
level-connector n cells connectors k hn h =
    rw (among-above 1 n (first_connector + k) (omega arith), among_in first_connector connector_count (first_connector + k) (omega arith) (omega arith))
    (ap connectors (omega arith))

pub level-zero : (n : ℕ) (cells connectors : ℕ → Bool) → level_at n cells connectors 0 ≡ false
unfolding level_at
level-zero n cells connectors = refl

level-gap : (n : ℕ) (cells connectors : ℕ → Bool) (b : ℕ) → n < b → b < first_connector → level_at n cells connectors b ≡ false
unfolding level_at
level-gap n cells connectors b h k = rw (among-above 1 n b (omega arith), among_below first_connector connector_count b k)

level-past : (n : ℕ) (cells connectors : ℕ → Bool) (b : ℕ) → n ≤ 32 → first_connector + connector_count ≤ b → level_at n cells connectors b ≡ false
unfolding level_at
level-past n cells connectors b hn h = rw (among-above 1 n b (omega arith), among-above first_connector connector_count b h)

-- the levels above the cells, the cells above base 0: the bit at each base
module _ (n m l : ℕ) (hn : n ≤ 32) (hm : m < 2 ^ n) (hl : l < 2 ^ connector_count) (hw : m * 2 < 2 ^ first_connector) where
  low_bit : (b : ℕ) → b < first_connector → bit_at (m * 2 ^ 1 + 0) b ≡ level_at n (bit_at m) (bit_at l) b
  low_bit zero h = bit-low m 1 0 0 (omega arith) ∙ bit-zero 0 ∙ sym (level-zero n (bit_at m) (bit_at l))
  low_bit (suc j) h = ap (bit_at (m * 2 ^ 1 + 0)) (sym (one-add j)) ∙ bit_high m 1 0 j (omega arith) ∙ go (dec_lt j n)
    where
      go : Dec (j < n) → bit_at m j ≡ level_at n (bit_at m) (bit_at l) (suc j)
      go (yes k) = sym (level-cell n (bit_at m) (bit_at l) j k) ∙ ap (level_at n (bit_at m) (bit_at l)) (one-add j)
      go (no k) =
          let g : n ≤ j = omega arith in
          bit-above m n j hm g ∙ sym (level-gap n (bit_at m) (bit_at l) (suc j) (omega arith) h)

  level-bit : (b : ℕ) → bit_at (l * 2 ^ first_connector + m * 2) b ≡ level_at n (bit_at m) (bit_at l) b
  level-bit b = go (dec_lt b first_connector)
    where
      far : (k : ℕ) → Dec (k < connector_count) → bit_at l k ≡ level_at n (bit_at m) (bit_at l) (first_connector + k)
      far k (yes h) = sym (level-connector n (bit_at m) (bit_at l) k hn h)
      far k (no h) =
          let g : connector_count ≤ k = omega arith in
          bit-above l connector_count k hl g ∙ sym (level-past n (bit_at m) (bit_at l) (first_connector + k) hn (omega arith))

      go : Dec (b < first_connector) → bit_at (l * 2 ^ first_connector + m * 2) b ≡ level_at n (bit_at m) (bit_at l) b
      go (yes h) = bit-low l first_connector (m * 2) b h ∙ ap (λ (x : ℕ). bit_at x b) (sym (add-zero (m * 2))) ∙ low_bit b h
      go (no h) =
          let k : ℕ = b - first_connector in
          let e : b ≡ first_connector + k = omega arith in
          rw e (bit_high l first_connector (m * 2) k hw ∙ far k (dec_lt k connector_count))

-- "Cell i sees this tick's output of a cell j below i, otherwise last tick's"; "Connectors show
-- this tick's levels"
pub sees_cell : (n i below others levels j : ℕ) → j < n → view n i below others levels (first_cell + j) ≡ cond (ltb j i) (bit_at below j) (bit_at others j)
unfolding view mixed
sees_cell n i below others levels j h = level-cell n (mixed i below others) (bit_at levels) j h

pub sees_line : (n : ℕ) → n ≤ cell_room → (i below others levels k : ℕ) → k < connector_count → view n i below others levels (first_connector + k) ≡ bit_at levels k
unfolding view
sees_line n few i below others levels k h = level-connector n (mixed i below others) (bit_at levels) k few h

-- so the word that the code makes is the word of the view
pub view-word : (n i below others levels w : ℕ) → n ≤ 32 → below < 2 ^ n → others < 2 ^ n → levels < 2 ^ connector_count
    → w ≡ levels * 2 ^ first_connector + mix i below others * 2 → w ≡ word_of (view n i below others levels) 64
unfolding view
view-word n i below others levels w hn hb ho hl e =
    let m = mix i below others in
    let hm : m < 2 ^ n = mix-lt n i below others hb ho in
    let fits : m < 2 ^ 32 = lt_of_lt_of_le hm (pow_mono hn) in
    let word = levels * 2 ^ first_connector + m * 2 in
    let bits : (b : ℕ) → b < 64 → bit_at word b ≡ view n i below others levels b = λ b h.
    level-bit n m levels hn hm hl (omega arith) b ∙ (λ k. level_at n (λ j. mix-bit i below others j k) (bit_at levels) b) in
    e ∙ sym (built-of-bits word 64 (omega arith)) ∙ built-same (bit_at word) (view n i below others levels) 64 bits

-- ---- views of one word

cond_same : (b x : Bool) → cond b x x ≡ x
cond_same true x = refl
cond_same false x = refl

-- where two ticks had the same cell word, a reader in any position sees that word
pub mixed_one : (i o j : ℕ) → mixed i o o j ≡ bit_at o j
unfolding mixed
mixed_one i o j = cond_same (ltb j i) (bit_at o j)

-- where all words are low, so is every base
level-low : (n b : ℕ) → level_at n (λ j. false) (λ k. false) b ≡ false
unfolding level_at
level-low n b =
    ap (λ (x : Bool). cond (among first_cell n b) false x) (cond_same (among first_connector connector_count b) false) ∙ cond_same (among first_cell n b) false

pub view-low : (n i : ℕ) → view n i 0 0 0 ≡ (λ b. false)
unfolding view
view-low n i =
    let cells : mixed i 0 0 ≡ (λ j. false) = λ k j. (mixed_one i 0 j ∙ bit-zero j) k in
    let levels : bit_at 0 ≡ (λ j. false) = λ k j. bit-zero j k in
    ap₂ (level_at n) cells levels ∙ (λ k b. level-low n b k)

-- ---- reading an address

-- the four words that the code reads addresses from
abbrev pub all : ℕ
all = 18446744073709551615

abbrev pub quarter_words : ℕ → ℕ → List ℕ
quarter_words n b = n ∷ bit_xor n all ∷ bit_and n (bit_xor b all) ∷ bit_or (bit_and (bit_xor n all) b) 1 ∷ []

flip-true : (b : Bool) → not (beq b true) ≡ not b
flip-true true = refl
flip-true false = refl

or-false : (b : Bool) → (b || false) ≡ b
or-false true = refl
or-false false = refl

or-true : (b : Bool) → (b || true) ≡ true
or-true true = refl
or-true false = refl

pub flipped : (w i : ℕ) → i < 64 → bit_at (bit_xor w all) i ≡ not (bit_at w i)
flipped w i h = bit-xor w all i ∙ ap (λ (x : Bool). not (beq (bit_at w i) x)) (bit-ones 64 i h) ∙ flip-true (bit_at w i)

rose : (n b i : ℕ) → i < 64 → bit_at (bit_and n (bit_xor b all)) i ≡ (bit_at n i && not (bit_at b i))
rose n b i h = bit-and n (bit_xor b all) i ∙ ap (λ (x : Bool). bit_at n i && x) (flipped b i h)

fell : (n b i : ℕ) → i < 64 → bit_at (bit_and (bit_xor n all) b) i ≡ (not (bit_at n i) && bit_at b i)
fell n b i h = bit-and (bit_xor n all) b i ∙ ap (λ (x : Bool). x && bit_at b i) (flipped n i h)

-- an address other than 192, by what it is
reads_as : (now before : ℕ → Bool) (a q : ℕ) (inverted edge : Bool) → Quarter a q inverted edge → (a ≡ 192 → ⊥)
    → reads now before a ≡ reads_levels inverted edge (now (base_of a)) (before (base_of a))
unfolding reads
reads_as now before a q inverted edge e other =
    ap (λ (b : Bool). cond b true (reads_levels (is_inverted a) (is_edge a) (now (base_of a)) (before (base_of a)))) (ne_eqb a 192 other)
    ∙ ap₂ (λ (i e : Bool). reads_levels i e (now (base_of a)) (before (base_of a))) e.1 e.2

-- an address reads its base in the word of its quarter
pub quarter-reads : (n b a : ℕ) → a < 256 → bit_at (get_or (quarter_words n b) (a / 64) 0) (a % 64) ≡ reads (bit_at n) (bit_at b) a
unfolding reads reads_levels bit_at
quarter-reads n b a h = go (in-quarter a h)
  where
    i : ℕ
    i = a % 64

    below : i < 64
    below = mod-lt a (lit< tt)

    word : {q : ℕ} → a / 64 ≡ q → bit_at (get_or (quarter_words n b) (a / 64) 0) i ≡ bit_at (get_or (quarter_words n b) q 0) i
    word e = ap (λ (k : ℕ). bit_at (get_or (quarter_words n b) k 0) i) e

    -- what it reads, but for 192
    shown : (q : ℕ) (inverted edge : Bool) → Quarter a q inverted edge → (a ≡ 192 → ⊥)
        → reads (bit_at n) (bit_at b) a ≡ reads_levels inverted edge (bit_at n i) (bit_at b i)
    shown = reads_as (bit_at n) (bit_at b) a

    last : Quarter a 3 true true → Dec (a ≡ 192) → bit_at (bit_or (bit_and (bit_xor n all) b) 1) i ≡ reads (bit_at n) (bit_at b) a
    last e (no other) =
        let q = e.0 in
        let z : 1 ≤ i = omega arith in
        bit-or (bit_and (bit_xor n all) b) 1 i
        ∙ ap (λ (x : Bool). bit_at (bit_and (bit_xor n all) b) i || x) (bit-above 1 1 i (omega arith) z)
        ∙ or-false (bit_at (bit_and (bit_xor n all) b) i)
        ∙ fell n b i below
        ∙ sym (shown 3 true true e other)
    last e (yes it) =
        let z : i ≡ 0 = omega arith in
        rw (eq-eqb a 192 it)
        (bit-or (bit_and (bit_xor n all) b) 1 i
        ∙ ap (λ (k : ℕ). bit_at (bit_and (bit_xor n all) b) i || bit_at 1 k) z
        ∙ or-true (bit_at (bit_and (bit_xor n all) b) i))

    go : InQuarter a → bit_at (get_or (quarter_words n b) (a / 64) 0) i ≡ reads (bit_at n) (bit_at b) a
    go (inl e) = let q = e.0 in word e.0 ∙ sym (shown 0 false false e (omega arith))
    go (inr (inl e)) = let q = e.0 in word e.0 ∙ flipped n i below ∙ sym (shown 1 true false e (omega arith))
    go (inr (inr (inl e))) = let q = e.0 in word e.0 ∙ rose n b i below ∙ sym (shown 2 false true e (omega arith))
    go (inr (inr (inr e))) = word e.0 ∙ last e (ℕ_discrete a 192)

-- an address looks at one base below 64, so the word of a view reads as the view
pub reads-built : (f g : ℕ → Bool) (a : ℕ) → reads (bit_at (word_of f 64)) (bit_at (word_of g 64)) a ≡ reads f g a
unfolding reads
reads-built f g a =
    let h : base_of a < 64 = mod-lt a (lit< tt) in
    rw (bit-built f 64 (base_of a) h, bit-built g 64 (base_of a) h)

pub slots-built : (f g : ℕ → Bool) (s : List ℕ) → slots_read (bit_at (word_of f 64)) (bit_at (word_of g 64)) s ≡ slots_read f g s
unfolding slots_read
slots-built f g s = rw (reads-built f g (get_or s 0 0), reads-built f g (get_or s 1 0), reads-built f g (get_or s 2 0), reads-built f g (get_or s 3 0))
