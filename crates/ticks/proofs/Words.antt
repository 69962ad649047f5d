-- Laws of the words that addresses are read from: what they read by views, which addresses have
-- changed, and when they serve the next reader too.
use Prim.Native.Nat.{ℕ, zero, suc, ◌+◌, ◌/◌, ◌%◌, ◌≤◌, ◌<◌}
use mathlib.Core.Path.{◌≡◌, sym, ap, ap₂, ◌∙◌}
use mathlib.Core.Bool.{Bool, not, beq, cond}
use mathlib.Core.List.{List, [], ◌∷◌}
use native.Mathlib.Nat.{not-suc-le-zero, le_of_suc-le-suc}
use native.Mathlib.Decide.{dec_lt}
use native.Mathlib.Omega.{arith}
use lib.Bits.{bit_xor}
use lib.Dec.{ltb}
use lib.ListN.{get_or}
use borrow.Author.Tests.{lt-ltb, le-ltb}
use Rattle.words.specs.Bits.{bit_at, word_of}
use Rattle.words.proofs.Laws.{bit-xor}
use Rattle.cells.specs.Table.{slots}
use Rattle.cells.specs.Reading.{read_from, slots_at}
use Rattle.cells.proofs.Laws.{changes}
use Rattle.ticks.specs.Reading.{level_at, reads, slots_read, mixed, view}
use Rattle.ticks.specs.Words.{ReadsAs, Differ, MovesAs}
use Rattle.ticks.proofs.Views.{reads-built}

-- words that read as two words of views read as the views
pub reads-views : (f g : ℕ → Bool) (q : List ℕ) (a b : ℕ) → a ≡ word_of f 64 → b ≡ word_of g 64 → ReadsAs q (bit_at a) (bit_at b) → ReadsAs q f g
unfolding ReadsAs
reads-views f g q a b ea eb r k h = r k h ∙ ap₂ (λ (x y : ℕ). reads (bit_at x) (bit_at y) k) ea eb ∙ reads-built f g k

-- four words, each the difference of two
abbrev pub differences : List ℕ → List ℕ → List ℕ
differences p q =
    bit_xor (get_or p 0 0) (get_or q 0 0) ∷ bit_xor (get_or p 1 0) (get_or q 1 0) ∷ bit_xor (get_or p 2 0) (get_or q 2 0) ∷ bit_xor (get_or p 3 0) (get_or q 3 0) ∷ []

differ-at : (p q : List ℕ) (k i : ℕ) → k < 4
    → bit_at (get_or (differences p q) k 0) i ≡ not (beq (bit_at (get_or p k 0) i) (bit_at (get_or q k 0) i))
differ-at p q zero i h = bit-xor _ _ i
differ-at p q (suc zero) i h = bit-xor _ _ i
differ-at p q (suc (suc zero)) i h = bit-xor _ _ i
differ-at p q (suc (suc (suc zero))) i h = bit-xor _ _ i
differ-at p q (suc (suc (suc (suc k)))) i h = absurd (not-suc-le-zero (le_of_suc-le-suc (le_of_suc-le-suc (le_of_suc-le-suc (le_of_suc-le-suc h)))))

pub differ-words : (p q : List ℕ) → Differ (differences p q) p q
unfolding Differ read_from
differ-words p q a h = differ-at p q (a / 64) (a % 64) (omega arith)

pub differ-moves : (now last earlier : ℕ → Bool) (d p q : List ℕ) → Differ d p q → ReadsAs p now last → ReadsAs q last earlier → MovesAs d now last earlier
unfolding Differ ReadsAs MovesAs
differ-moves now last earlier d p q e rp rq a h = e a h ∙ ap₂ (λ (x y : Bool). not (beq x y)) (rp a h) (rq a h)

-- ---- the slots of a cell

-- the addresses in the slots are bytes
pub record Bytes (s : List ℕ) : Type 0 where
  pub at_x : get_or s 0 0 < 256
  pub at_y : get_or s 1 0 < 256
  pub at_z : get_or s 2 0 < 256
  pub at_f : get_or s 3 0 < 256

pub slots-as : (now before : ℕ → Bool) (q s : List ℕ) → ReadsAs q now before → Bytes s → slots_at q s ≡ slots_read now before s
unfolding ReadsAs slots_read
slots-as now before q s r h = λ i. slots (r _ h.at_x i) (r _ h.at_y i) (r _ h.at_z i) (r _ h.at_f i)

pub slots-moved : (now last earlier : ℕ → Bool) (d s : List ℕ) → MovesAs d now last earlier → Bytes s
    → slots_at d s ≡ changes (slots_read now last s) (slots_read last earlier s)
unfolding MovesAs slots_read
slots-moved now last earlier d s m h = λ i. slots (m _ h.at_x i) (m _ h.at_y i) (m _ h.at_z i) (m _ h.at_f i)

-- ---- the next reader

-- an address whose views did not move reads as it did
pub reads_kept : (q : List ℕ) (f g f' g' : ℕ → Bool) → f ≡ f' → g ≡ g' → ReadsAs q f g → ReadsAs q f' g'
unfolding ReadsAs
reads_kept q f g f' g' ef eg r a h = r a h ∙ ap₂ (λ (x y : ℕ → Bool). reads x y a) ef eg

pub moves-kept : (d : List ℕ) (f g h f' g' h' : ℕ → Bool) → f ≡ f' → g ≡ g' → h ≡ h' → MovesAs d f g h → MovesAs d f' g' h'
unfolding MovesAs
moves-kept d f g h f' g' h' ef eg eh m a k =
    m a k ∙ (λ i. not (beq (reads (ef i) (eg i) a) (reads (eg i) (eh i) a)))

-- readers in positions i and i + 1 see the same where the words below agree up to i, and cell i
-- shows in both what it showed
mixed-step : (i below below' others j : ℕ) → ((k : ℕ) → k < i → bit_at below k ≡ bit_at below' k) → bit_at below' i ≡ bit_at others i
    → mixed i below others j ≡ mixed (i + 1) below' others j
unfolding mixed
mixed-step i below below' others j same at = go (dec_lt j i)
  where
    next : Dec (j < i + 1) → i ≤ j → bit_at others j ≡ cond (ltb j (i + 1)) (bit_at below' j) (bit_at others j)
    next (yes h) g =
        let e : j ≡ i = omega arith in
        rw (lt-ltb j (i + 1) h, e) (sym at)
    next (no h) g = rw (le-ltb j (i + 1) (omega arith))

    go : Dec (j < i) → cond (ltb j i) (bit_at below j) (bit_at others j) ≡ cond (ltb j (i + 1)) (bit_at below' j) (bit_at others j)
    go (yes h) = rw (lt-ltb j i h, lt-ltb j (i + 1) (omega arith)) (same j h)
    go (no h) = rw (le-ltb j i (omega arith)) (next (dec_lt j (i + 1)) (omega arith))

pub view-step : (n i below below' others levels : ℕ) → ((k : ℕ) → k < i → bit_at below k ≡ bit_at below' k) → bit_at below' i ≡ bit_at others i
    → view n i below others levels ≡ view n (i + 1) below' others levels
unfolding view
view-step n i below below' others levels same at = λ k b. level_at n (λ j. mixed-step i below below' others j same at k) (bit_at levels) b
