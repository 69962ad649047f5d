-- The tallies, from one named cell to the next: the cells between them are not named, and their tallies stay.
use Rattle.std.proofs.Common.{◌≡◌, ℕ, ◌+◌, ◌-◌, ◌/◌, ◌^◌, ◌<◌, ◌≤◌, Bool, true, false, cond, ltb, List, ◌++◌, length, get_or, drop, set, sym, refl, ap, ◌∙◌, subst, lt_of_not-le, arith, take-append-drop, shr-shr, ltb-false, ltb-true, lt-ltb}
use mathlib.Core.Bool.{false≢true}
use Rattle.words.specs.Bits.{bit_at, bit_number, IsLowest}
use Rattle.words.specs.Listed.{listed}
use Rattle.words.proofs.Laws.{bit-above, bit-shr, bit-zero}
use Rattle.words.proofs.Listed.{behind-at, listed_next, listed-passed, listed_same, listed-take, front_at}
use Rattle.cells.specs.declared.cell.Ticks.{Ticks}
use Rattle.card.specs.declared.tallies.Tallies.{Tallies}
use Rattle.card.specs.Address.{cell_room}
use Rattle.card.specs.Tally.{ticks, standstill, tally_of, counted, tallied_by}

-- the tally of a cell that is not named stays
pub unnamed : (v : Ticks) → counted false v ≡ v
unfolding counted
unnamed v = refl

module _ (named : ℕ) (cells : List Ticks) where
  -- the tally of cell i after the tick
  abbrev pub tally_next : ℕ → Ticks
  tally_next i = counted (bit_at named i) (get_or cells i (ticks 0))

  -- the cells below i are counted: i, what is left of the word, and the tallies
  pub record CountedTo (i left : ℕ) (now : List Ticks) : Type 0 where
    pub within : i ≤ cell_room
    pub rest : left ≡ named / 2 ^ i
    pub so_far : now ≡ listed tally_next i ++ drop i cells

  -- cells that are not named
  passed : (i k : ℕ) (now : List Ticks) → now ≡ listed tally_next i ++ drop i cells → ((j : ℕ) → j < k → bit_at named (i + j) ≡ false)
      → i + k ≤ length cells → now ≡ listed tally_next (i + k) ++ drop (i + k) cells
  passed i k now e none h =
      listed-passed tally_next i k cells now (ticks 0) e
      (λ j m. sym (ap (λ (b : Bool). counted b (get_or cells (i + j) (ticks 0))) (none j m) ∙ unnamed (get_or cells (i + j) (ticks 0)))) h

  module _ (fits : named < 2 ^ cell_room) (room : length cells ≡ cell_room) where
    -- the next named cell is one of the card's
    pub next-within : (i left k : ℕ) (now : List Ticks) → CountedTo i left now → IsLowest left k → i + k < cell_room
    next-within i left k now so low =
        let bit = sym (bit-shr named i k) ∙ ap (λ (w : ℕ). bit_at w k) (sym so.rest) ∙ low.0 in
        lt_of_not-le (λ h. false≢true (sym (bit-above named cell_room (i + k) fits h) ∙ bit))

    -- it is counted
    pub next-counted : (i left k : ℕ) (now : List Ticks) (v : Ticks) → CountedTo i left now → IsLowest left k
        → v ≡ counted true (get_or now (i + k) (ticks 0)) → CountedTo (i + k + 1) (left / 2 ^ (k + 1)) (set now (i + k) v)
    next-counted i left k now v so low e =
        let here = next-within i left k now so low in
        let bit : (j : ℕ) → bit_at named (i + j) ≡ bit_at left j = λ j. sym (bit-shr named i j) ∙ ap (λ (w : ℕ). bit_at w j) (sym so.rest) in
        let inside : i + k < length cells = subst (λ (m : ℕ). i + k < m) (sym room) here in
        let before = passed i k now so.so_far (λ j m. bit j ∙ low.1 j m) (omega (arith, inside)) in
        let old = behind-at tally_next (i + k) cells now (ticks 0) before inside in
        let new = e ∙ ap (counted true) old ∙ ap (λ (b : Bool). counted b (get_or cells (i + k) (ticks 0))) (sym (bit k ∙ low.0)) in
        record {
          within = omega (arith, here);
          rest = ap (λ (w : ℕ). w / 2 ^ (k + 1)) so.rest ∙ shr-shr named i (k + 1) ∙ ap (λ (m : ℕ). named / 2 ^ m) (omega arith);
          so_far = listed_next tally_next (i + k) cells now v (ticks 0) before new inside;
        }

    -- nothing is left of the word: all cells are counted, of a card that the word is for
    all-counted : (i n : ℕ) (now : List Ticks) → now ≡ listed tally_next i ++ drop i cells → i ≤ cell_room → ((j : ℕ) → bit_at named (i + j) ≡ false)
        → now ≡ listed tally_next cell_room ++ drop cell_room cells
    all-counted i n now e h none =
        let k : ℕ = cell_room - i in
        let all : i + k ≡ cell_room = omega arith in
        passed i k now e (λ j m. none j) (omega (arith, room)) ∙ ap (λ (m : ℕ). listed tally_next m ++ drop m cells) all

    pub end-counted : (i n : ℕ) (now : List Ticks) → CountedTo i 0 now → n ≤ cell_room → named < 2 ^ n → now ≡ listed tally_next n ++ drop n cells
    end-counted i n now so h small =
        let none : (j : ℕ) → bit_at named (i + j) ≡ false = λ j. sym (bit-shr named i j) ∙ ap (λ (w : ℕ). bit_at w j) (sym so.rest) ∙ bit-zero j in
        let mine = all-counted i n now so.so_far so.within none in
        let above : (j : ℕ) → bit_at named (n + j) ≡ false = λ j. bit-above named n (n + j) small (omega arith) in
        mine ∙ sym (all-counted n n _ refl h above)

-- all tallies after a tick: below the standstill those of the named cells went up, at it none
pub all-tallied : (named : ℕ) (t : Tallies) → length t.cells ≡ cell_room → (word i n : ℕ) (after : Tallies)
    → word ≡ cond (ltb t.total.0 standstill) named 0 → word < 2 ^ cell_room → CountedTo word t.cells i 0 after.cells
    → after.total ≡ cond (ltb t.total.0 standstill) (ticks (t.total.0 + 1)) t.total → n ≤ cell_room → named < 2 ^ n
    → after ≡ tallied_by n (bit_at named) t
unfolding tallied_by listed
all-tallied named t room word i n after is fits so total h small = go (ltb t.total.0 standstill) is total
  where
    go : (b : Bool) → word ≡ cond b named 0 → after.total ≡ cond b (ticks (t.total.0 + 1)) t.total
        → after ≡ cond b (record { cells = listed (tally_next named t.cells) n ++ drop n t.cells; total = ticks (t.total.0 + 1) }) t
    go true e whole =
        let cells = end-counted named t.cells (rw e at fits) room i n after.cells (rw e at so) h small in
        λ k. record { cells = cells k; total = whole k }
    go false e whole =
        let cells = end-counted 0 t.cells (rw e at fits) room i 0 after.cells (rw e at so) (omega arith) (omega arith) in
        λ k. record { cells = cells k; total = whole k }

-- the tallies go by what is named among the n cells
pub tallied-same : (n : ℕ) (f g : ℕ → Bool) (t : Tallies) → ((i : ℕ) → i < n → f i ≡ g i) → tallied_by n f t ≡ tallied_by n g t
unfolding tallied_by
tallied-same n f g t same =
    let cells = listed_same (λ i. counted (f i) (get_or t.cells i (ticks 0))) (λ i. counted (g i) (get_or t.cells i (ticks 0))) n
    (λ i h. ap (λ (b : Bool). counted b (get_or t.cells i (ticks 0))) (same i h)) in
    ap (λ (l : List Ticks). cond (ltb t.total.0 standstill) (record { cells = l ++ drop n t.cells; total = ticks (t.total.0 + 1) }) t) cells

-- where none is named only the total counts on
pub tallied-none : (n : ℕ) (f : ℕ → Bool) (t : Tallies) → n ≤ length t.cells → ((i : ℕ) → i < n → f i ≡ false)
    → tallied_by n f t ≡ record { cells = t.cells; total = ticks (cond (ltb t.total.0 standstill) (t.total.0 + 1) t.total.0) }
unfolding tallied_by
tallied-none n f t h none = go (ltb t.total.0 standstill)
  where
    cells : listed (λ i. counted (f i) (get_or t.cells i (ticks 0))) n ++ drop n t.cells ≡ t.cells
    cells =
        let stay = listed_same (λ i. counted (f i) (get_or t.cells i (ticks 0))) (λ i. get_or t.cells i (ticks 0)) n
        (λ i k. ap (λ (b : Bool). counted b (get_or t.cells i (ticks 0))) (none i k) ∙ unnamed (get_or t.cells i (ticks 0))) in
        ap (λ (l : List Ticks). l ++ drop n t.cells) (stay ∙ listed-take t.cells (ticks 0) n h) ∙ take-append-drop n t.cells

    go : (b : Bool)
        → cond b (record { cells = listed (λ i. counted (f i) (get_or t.cells i (ticks 0))) n ++ drop n t.cells; total = ticks (t.total.0 + 1) }) t
        ≡ record { cells = t.cells; total = ticks (cond b (t.total.0 + 1) t.total.0) }
    go true = ap (λ (l : List Ticks). record { cells = l; total = ticks (t.total.0 + 1) }) cells
    go false = refl

-- the total of a tick that ran
pub tallied-total : (n : ℕ) (f : ℕ → Bool) (t : Tallies)
    → (tallied_by n f t).total.0 ≡ cond (ltb t.total.0 standstill) (t.total.0 + 1) t.total.0
unfolding tallied_by
tallied-total n f t = go (ltb t.total.0 standstill)
  where
    go : (b : Bool)
        → (cond b (record {
          cells = listed (λ i. counted (f i) (get_or t.cells i (ticks 0))) n ++ drop n t.cells;
          total = ticks
              (t.total.0 + 1);
        }) t).total.0
        ≡ cond b (t.total.0 + 1) t.total.0
    go true = refl
    go false = refl

-- tallies that a tick left as they were stay so with another total
pub cells-any : (n : ℕ) (f : ℕ → Bool) (cells : List Ticks) (total other : ℕ) → ltb total standstill ≡ true
    → (tallied_by n f (record { cells = cells; total = ticks total })).cells ≡ cells
    → (tallied_by n f (record { cells = cells; total = ticks other })).cells ≡ cells
unfolding tallied_by
cells-any n f cells total other below stay = go (ltb other standstill) (rw below at stay)
  where
    go : (b : Bool) → listed (λ i. counted (f i) (get_or cells i (ticks 0))) n ++ drop n cells ≡ cells
        → (cond {A = Tallies} b (record { cells = listed (λ i. counted (f i) (get_or cells i (ticks 0))) n ++ drop n cells; total = ticks (other + 1) })
        (record { cells = cells; total = ticks other })).cells ≡ cells
    go true e = e
    go false e = refl

-- a number is below another, or is not: the two cases of the test
pub by_less : (a b : ℕ) (P : Bool → Type 0) → (a < b → P true) → (b ≤ a → P false) → P (ltb a b)
by_less a b P less more = go (ltb a b) refl
  where
    go : (t : Bool) → ltb a b ≡ t → P t
    go true e = less (ltb-true a b e)
    go false e = more (ltb-false a b e)

-- one tally, below the standstill, and all of them at it
pub tallied-at : (n : ℕ) (f : ℕ → Bool) (t : Tallies) (i : ℕ) → i < n → ltb t.total.0 standstill ≡ true
    → tally_of (tallied_by n f t) i ≡ (counted (f i) (get_or t.cells i (ticks 0))).0
unfolding tallied_by
tallied-at n f t i h e =
    rw e (ap (λ (v : Ticks). v.0) (front_at (λ j. counted (f j) (get_or t.cells j (ticks 0))) n t.cells i (ticks 0) h))

pub tallied-off : (n : ℕ) (f : ℕ → Bool) (t : Tallies) → ltb t.total.0 standstill ≡ false → tallied_by n f t ≡ t
unfolding tallied_by
tallied-off n f t e = rw e

pub counted-below : (b : Bool) (v : Ticks) → v.0 < standstill → (counted b v).0 ≡ v.0 + bit_number b
unfolding counted
counted-below true v h = rw (lt-ltb v.0 standstill h)
counted-below false v h = omega arith
