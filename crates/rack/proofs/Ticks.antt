-- A rack tick on its way: the cards before place i have ticked, those from it on are as they were.
use Prim.Native.Nat.{ℕ, suc, ◌+◌, ◌<◌, ◌≤◌}
use mathlib.Core.Path.{◌≡◌, refl, sym, ap, ◌∙◌}
use mathlib.Core.Bool.{Bool, false}
use mathlib.Core.List.{List, [], ◌∷◌, ◌++◌}
use native.Mathlib.Numerals.{add-one}
use native.Mathlib.Omega.{arith}
use lib.Bits.{bit_or}
use lib.ListN.{length, get_or, set, take, drop}
use lib.Seq.{sets}
use Rattle.std.specs.List.{fold}
use Rattle.std.proofs.lemmas.List.{append-nil, append_assoc, take_all, drop_all, drop_more, take_more_set, drop-set-lt}
use Rattle.words.proofs.Bools.{or_left, or_right}
use Rattle.card.specs.declared.card.Card.{Card}
use Rattle.card.specs.Address.{cell_count, cells_for}
use Rattle.ticks.specs.declared.view.Input.{Input}
use Rattle.ticks.specs.declared.tick.Answer.{Answer}
use Rattle.ticks.specs.declared.tick.Ticked.{Ticked}
use Rattle.rack.specs.declared.tick.RackInput.{RackInput}
use Rattle.rack.specs.Shared.{pulls, shared_tick}
use Rattle.rack.specs.Rack.{is_large, any_large, input_for, low_lines, row_ticks, ticks_from, cards_of, answers_of}
use Rattle.rack.proofs.Rows.{small}

-- the lines that some card pulls low, each card by its own size
pub low-small : (code low : ℕ) (cards : List Card) → any_large cards ≡ false
    → fold (λ (l : ℕ) (c : Card). bit_or l (pulls (cells_for c.size) code c)) low cards ≡ low_lines cell_count code low cards
low-small code low [] e = refl
low-small code low (c ∷ cs) e =
    low-small code (bit_or low (pulls (cells_for c.size) code c)) cs (or_right (is_large c) (any_large cs) e)
    ∙ ap (λ (n : ℕ). low_lines cell_count code (bit_or low (pulls n code c)) cs) (small c (or_left (is_large c) (any_large cs) e))

-- each card ticks once
pub ticks_long : (n : ℕ) (full : Bool) (r : RackInput) (low i : ℕ) (cards : List Card) → length (ticks_from n full r low i cards) ≡ length cards
unfolding ticks_from
ticks_long n full r low i [] = refl
ticks_long n full r low i (c ∷ cs) = ap suc (ticks_long n full r low (suc i) cs)

module _ (full : Bool) (r : RackInput) (low : ℕ) where
  abbrev ts : ℕ → List Card → List Ticked
  ts i cards = ticks_from cell_count full r low i cards

  pub record Midway (xs : List Card) (bs : List Answer) (i : ℕ) (ys : List Card) (cs : List Answer) : Type 0 where
    pub none_large : any_large (drop i ys) ≡ false
    pub row : take i ys ++ cards_of (ts i (drop i ys)) ≡ cards_of (ts 0 xs)
    pub answers : sets cs i (answers_of (ts i (drop i ys))) ≡ sets bs 0 (answers_of (ts 0 xs))

  pub midway-next : (xs : List Card) (bs : List Answer) (i : ℕ) (ys : List Card) (cs : List Answer) (d : Card) (x : Input) (t : Ticked)
      → i < length ys → Midway xs bs i ys cs → x ≡ input_for r i → t ≡ shared_tick (cells_for (get_or ys i d).size) full (get_or ys i d) x low
      → Midway xs bs (i + 1) (set ys i t.card) (set cs i t.answer)
  unfolding ticks_from
  midway-next xs bs i ys cs d x t h m read made =
      let c = get_or ys i d in
      let left = drop (i + 1) ys in
      let rest : drop i ys ≡ c ∷ left = drop_more ys i d h in
      let none : any_large (c ∷ left) ≡ false = ap any_large (sym rest) ∙ m.none_large in
      let size = small c (or_left (is_large c) (any_large left) none) in
      let turn : t ∷ ts (i + 1) left ≡ ts i (drop i ys) = ap (λ (t : Ticked). t ∷ ts (i + 1) left) made
      ∙ (λ j. shared_tick (size j) full c (read j) low ∷ ts (add-one i j) left) ∙ ap (ts i) (sym rest) in
      record {
        none_large = rw (drop-set-lt (i + 1) ys i t.card (omega arith)) (or_right (is_large c) (any_large left) none);
        row = rw (take_more_set ys i t.card h, drop-set-lt (i + 1) ys i t.card (omega arith))
            (append_assoc (take i ys) (t.card ∷ []) _ ∙ ap (λ (l : List Ticked). take i ys ++ cards_of l) turn ∙ m.row);
        answers = rw (drop-set-lt (i + 1) ys i t.card (omega arith))
            (ap (λ (k : ℕ). sets (set cs i t.answer) k (answers_of (ts (i + 1) left))) (add-one i)
            ∙ ap (λ (l : List Ticked). sets cs i (answers_of l)) turn ∙ m.answers);
      }

  pub midway_end : (xs : List Card) (bs : List Answer) (i : ℕ) (ys : List Card) (cs : List Answer) → length ys ≤ i → Midway xs bs i ys cs
      → low ≡ low_lines cell_count r.code 0 xs
      → (cs ≡ sets bs 0 (answers_of (row_ticks cell_count full r xs))) × (ys ≡ cards_of (row_ticks cell_count full r xs))
  unfolding ticks_from
  midway_end xs bs i ys cs e m all =
      let none = drop_all i ys e in
      let row = sym (append-nil (take i ys) ∙ take_all i ys e) ∙ ap (λ (l : List Card). take i ys ++ cards_of (ts i l)) (sym none) ∙ m.row in
      let answers = ap (λ (l : List Card). sets cs i (answers_of (ts i l))) (sym none) ∙ m.answers in (
        answers ∙ (λ j. sets bs 0 (answers_of (ticks_from cell_count full r (all j) 0 xs))),
        row ∙ (λ j. cards_of (ticks_from cell_count full r (all j) 0 xs)),
      )
