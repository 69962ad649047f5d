-- A set grown in rounds: what is found lies in every set that holds what depends on the line, and where a round adds nothing it holds all of that.
use Prim.Native.Nat.{ℕ, zero, suc, ◌+◌, ◌-◌, ◌*◌, ◌^◌, ◌≤◌, ◌<◌}
use mathlib.Core.Path.{◌≡◌, refl, sym, ap, ap₂, ◌∙◌}
use mathlib.Core.Bool.{Bool, true, false, ◌&&◌, ◌||◌, cond, true≢false}
use mathlib.Core.List.{List}
use native.Mathlib.Decide.{ℕ_discrete}
use native.Mathlib.Omega.{arith}
use native.Mathlib.Nat.{mod-lt}
use lib.Bits.{bit_or, or_add_and, and_le_r, or_lt}
use lib.Pow.{pow_pos}
use lib.Dec.{eqb, lit<}
use lib.ListN.{get_or}
use Rattle.words.specs.Bits.{bit_at, word_of, with_bit}
use Rattle.words.proofs.Laws.{word-ext, bit-zero, bit-built, bit-or, bit-with-same, bit-with-other, with-zero, with-lt, built-lt, built-same}
use Rattle.cells.specs.declared.cell.Cell.{Cell}
use Rattle.cells.specs.Table.{row_of, masked, any_slot, slots}
use Rattle.card.specs.declared.card.Connector.{Connector}
use Rattle.card.specs.declared.card.Connectors.{Connectors}
use Rattle.card.specs.Address.{cell_room, connector_count, first_cell, first_connector, among, base_of}
use Rattle.card.specs.Connectors.{push_pull_type, is_output, connector_at}
use Rattle.card.specs.Fresh.{no_cell}
use Rattle.card.proofs.Places.{among-bounds}
use Rattle.ticks.specs.Reading.{level_at, view}
use Rattle.ticks.proofs.Views.{mixed_one, level-cell, level-connector}
use Rattle.survey.specs.Survey.{reads_set, driven_from, Holds, set_of, Smallest}
use Rattle.survey.specs.Rounds.{start_of, readers_of, followers_of, grown, rounds}

-- ---- the set as a word of 64 bits, as the code has it

pub set_view : (n x y : ℕ) → view n 0 x x y ≡ set_of n x y
unfolding view
set_view n x y = λ k b. level_at n (λ j. mixed_one 0 x j k) (bit_at y) b

pub reads_word : (f : ℕ → Bool) (cell : Cell) → reads_set (bit_at (word_of f 64)) cell ≡ reads_set f cell
unfolding reads_set
reads_word f cell =
    let at : (a : ℕ) → bit_at (word_of f 64) (base_of a) ≡ f (base_of a) = λ a. bit-built f 64 (base_of a) (mod-lt a (lit< tt)) in
    let s = cell.slots in
    λ k. any_slot (masked (row_of cell.kind).used (slots (at (get_or s 0 0) k) (at (get_or s 1 0) k) (at (get_or s 2 0) k) (at (get_or s 3 0) k)))

pub driven-word : (f : ℕ → Bool) (c : Connector) → driven_from (bit_at (word_of f 64)) c ≡ driven_from f c
unfolding driven_from
driven-word f c = ap (λ (b : Bool). is_output c.kind && b) (bit-built f 64 (base_of c.source) (mod-lt c.source (lit< tt)))

-- what is said of the word is said of the set
pub readers-seen : (n : ℕ) (cs : List Cell) (ds : Connectors) (x y w r : ℕ) → w ≡ word_of (view n 0 x x y) 64
    → r ≡ word_of (λ i. reads_set (bit_at w) (get_or cs i no_cell)) n → r ≡ readers_of n cs ds x y
unfolding readers_of
readers-seen n cs ds x y w r e h =
    h ∙ built-same _ _ n (λ i _.
    ap (λ (v : ℕ). reads_set (bit_at v) (get_or cs i no_cell)) e ∙ reads_word (view n 0 x x y) (get_or cs i no_cell)
    ∙ ap (λ (f : ℕ → Bool). reads_set f (get_or cs i no_cell)) (set_view n x y))

pub followers-seen : (n : ℕ) (cs : List Cell) (ds : Connectors) (x y w r : ℕ) → w ≡ word_of (view n 0 x x y) 64
    → r ≡ word_of (λ j. driven_from (bit_at w) (connector_at ds j)) connector_count → r ≡ followers_of n cs ds x y
unfolding followers_of
followers-seen n cs ds x y w r e h =
    h ∙ built-same _ _ connector_count (λ j _.
    ap (λ (v : ℕ). driven_from (bit_at v) (connector_at ds j)) e ∙ driven-word (view n 0 x x y) (connector_at ds j)
    ∙ ap (λ (f : ℕ → Bool). driven_from f (connector_at ds j)) (set_view n x y))

-- ---- more bases, more readers

and-more : (u a b : Bool) → (a ≡ true → b ≡ true) → (u && a) ≡ true → (u && b) ≡ true
and-more true a b h e = h e
and-more false a b h e = e

or-more : (a b c d : Bool) → (a ≡ true → c ≡ true) → (b ≡ true → d ≡ true) → (a || b) ≡ true → (c || d) ≡ true
or-more true b c d p q e = rw (p refl)
or-more false b true d p q e = refl
or-more false b false d p q e = q e

or_case : (a b s : Bool) → (a ≡ true → s ≡ true) → (b ≡ true → s ≡ true) → (a || b) ≡ true → s ≡ true
or_case true b s p q e = p refl
or_case false b s p q e = q e

or-one : (a b : Bool) → a ≡ true → (a || b) ≡ true
or-one true b e = refl
or-one false b e = absurd (true≢false (sym e))

or-other : (a b : Bool) → b ≡ true → (a || b) ≡ true
or-other true b e = refl
or-other false b e = e

reads_more : (f g : ℕ → Bool) (cell : Cell) → ((b : ℕ) → f b ≡ true → g b ≡ true) → reads_set f cell ≡ true → reads_set g cell ≡ true
unfolding reads_set
reads_more f g cell h e =
    let u = (row_of cell.kind).used in
    let s = cell.slots in
    or-more _ _ _ _
    (or-more _ _ _ _ (and-more u.x _ _ (h (base_of (get_or s 0 0)))) (and-more u.y _ _ (h (base_of (get_or s 1 0)))))
    (or-more _ _ _ _ (and-more u.z _ _ (h (base_of (get_or s 2 0)))) (and-more u.f _ _ (h (base_of (get_or s 3 0))))) e

driven-more : (f g : ℕ → Bool) (c : Connector) → ((b : ℕ) → f b ≡ true → g b ≡ true) → driven_from f c ≡ true → driven_from g c ≡ true
unfolding driven_from
driven-more f g c h e = and-more (is_output c.kind) _ _ (h (base_of c.source)) e

-- a word that is added to grows
pub or-ge : (a b : ℕ) → a ≤ bit_or a b
or-ge a b = omega (arith, or_add_and a b, and_le_r a b)

-- ---- the word of the connector alone

bit-lone : (i : ℕ) → 2 ^ i ≡ with_bit 0 i true
bit-lone i =
    let e : 2 ^ i ≡ 1 * 2 ^ i = omega arith in
    e ∙ sym (with-zero i true)

lone-other : (k j : ℕ) → (j ≡ k → ⊥) → bit_at (2 ^ k) j ≡ false
lone-other k j other = ap (λ (v : ℕ). bit_at v j) (bit-lone k) ∙ bit-with-other 0 k j true other ∙ bit-zero j

start_fits : (c : Connector) (k : ℕ) → k < connector_count → start_of c k < 2 ^ connector_count
unfolding start_of
start_fits c k inside = go (eqb c.kind push_pull_type)
  where
    go : (b : Bool) → cond b 0 (2 ^ k) < 2 ^ connector_count
    go true = pow_pos connector_count
    go false = rw (bit-lone k) (with-lt 0 connector_count k true (pow_pos connector_count) inside)

-- ---- rounds

module _ (n : ℕ) (cs : List Cell) (ds : Connectors) (k : ℕ) where
  -- two words that lie in every set that holds what depends on the line
  record Inside (x y : ℕ) : Type 0 where
    cells : (set : ℕ → Bool) → Holds n cs ds k set → (i : ℕ) → i < n → bit_at x i ≡ true → set (first_cell + i) ≡ true
    lines : (set : ℕ → Bool) → Holds n cs ds k set → (j : ℕ) → j < connector_count → bit_at y j ≡ true → set (first_connector + j) ≡ true

  inside-set : (x y : ℕ) → Inside x y → (set : ℕ → Bool) → Holds n cs ds k set → (b : ℕ) → set_of n x y b ≡ true → set b ≡ true
  unfolding level_at
  inside-set x y inside set holds b = go (among first_cell n b) refl
    where
      line : (q : Bool) → among first_connector connector_count b ≡ q → cond q (bit_at y (b - first_connector)) false ≡ true → set b ≡ true
      line false e h = absurd (true≢false (sym h))
      line true e h =
          let p = among-bounds first_connector connector_count b e in
          let at : first_connector + (b - first_connector) ≡ b = omega (arith, p) in
          ap set (sym at) ∙ inside.lines set holds (b - first_connector) (omega (arith, p)) h

      go : (q : Bool) → among first_cell n b ≡ q
          → cond q (bit_at x (b - first_cell)) (cond (among first_connector connector_count b) (bit_at y (b - first_connector)) false) ≡ true → set b ≡ true
      go false e h = line (among first_connector connector_count b) refl h
      go true e h =
          let p = among-bounds first_cell n b e in
          let at : first_cell + (b - first_cell) ≡ b = omega (arith, p) in
          ap set (sym at) ∙ inside.cells set holds (b - first_cell) (omega (arith, p)) h

  start-inside : Inside 0 (start_of (connector_at ds k) k)
  unfolding start_of
  start-inside = record {
    cells = λ set holds i h q. absurd (true≢false (sym q ∙ bit-zero i));
    lines = λ set holds j h q. go (eqb (connector_at ds k).kind push_pull_type) refl set holds j q;
  }
    where
      go : (b : Bool) → eqb (connector_at ds k).kind push_pull_type ≡ b → (set : ℕ → Bool) → Holds n cs ds k set → (j : ℕ)
          → bit_at (cond b 0 (2 ^ k)) j ≡ true → set (first_connector + j) ≡ true
      go true p set holds j q = absurd (true≢false (sym q ∙ bit-zero j))
      go false p set holds j q = at (ℕ_discrete j k)
        where
          at : Dec (j ≡ k) → set (first_connector + j) ≡ true
          at (yes same) = ap (λ (i : ℕ). set (first_connector + i)) same ∙ holds.itself p
          at (no other) = absurd (true≢false (sym q ∙ lone-other k j other))

  readers-bit : (x y i : ℕ) → i < n → bit_at (readers_of n cs ds x y) i ≡ reads_set (set_of n x y) (get_or cs i no_cell)
  unfolding readers_of
  readers-bit x y i h = bit-built (λ i. reads_set (set_of n x y) (get_or cs i no_cell)) n i h

  followers-bit : (x y j : ℕ) → j < connector_count → bit_at (followers_of n cs ds x y) j ≡ driven_from (set_of n x y) (connector_at ds j)
  unfolding followers_of
  followers-bit x y j h = bit-built (λ j. driven_from (set_of n x y) (connector_at ds j)) connector_count j h

  -- what a round adds belongs to every such set
  round-inside : (x y : ℕ) → Inside x y → Inside (grown n cs ds (x, y)).0 (grown n cs ds (x, y)).1
  round-inside x y inside = record {
    cells = λ set holds i h e. or_case (bit_at x i) _ _ (inside.cells set holds i h)
        (λ q. holds.cells i h (reads_more (set_of n x y) set _ (inside-set x y inside set holds) (sym (readers-bit x y i h) ∙ q)))
        (sym (bit-or x _ i) ∙ e);
    lines = λ set holds j h e. or_case (bit_at y j) _ _ (inside.lines set holds j h)
        (λ q. holds.outputs j h (driven-more (set_of n x y) set _ (inside-set x y inside set holds) (sym (followers-bit x y j h) ∙ q)))
        (sym (bit-or y _ j) ∙ e);
  }

  rounds-inside : (m : ℕ) → Inside (rounds n cs ds k m).0 (rounds n cs ds k m).1
  unfolding rounds
  rounds-inside zero = start-inside
  rounds-inside (suc m) = round-inside (rounds n cs ds k m).0 (rounds n cs ds k m).1 (rounds-inside m)

  -- the connector itself stays in what is found
  rounds-itself : (m : ℕ) → eqb (connector_at ds k).kind push_pull_type ≡ false → bit_at (rounds n cs ds k m).1 k ≡ true
  unfolding rounds start_of
  rounds-itself zero p = ap (λ (b : Bool). bit_at (cond b 0 (2 ^ k)) k) p ∙ ap (λ (v : ℕ). bit_at v k) (bit-lone k) ∙ bit-with-same 0 k true
  rounds-itself (suc m) p = bit-or (rounds n cs ds k m).1 _ k ∙ or-one _ _ (rounds-itself m p)

  pub rounds-fit : (m : ℕ) → k < connector_count → ((rounds n cs ds k m).0 < 2 ^ n) × ((rounds n cs ds k m).1 < 2 ^ connector_count)
  unfolding rounds readers_of followers_of
  rounds-fit zero inside = (pow_pos n, start_fits (connector_at ds k) k inside)
  rounds-fit (suc m) inside =
      let old = rounds-fit m inside in
      (or_lt n _ _ old.0 (built-lt _ n), or_lt connector_count _ _ old.1 (built-lt _ connector_count))

  -- the next round, word by word
  pub round-cells : (m x y r : ℕ) → x ≡ (rounds n cs ds k m).0 → y ≡ (rounds n cs ds k m).1 → r ≡ readers_of n cs ds x y
      → bit_or x r ≡ (rounds n cs ds k (suc m)).0
  unfolding rounds
  round-cells m x y r ex ey er = ap (bit_or x) er ∙ ap₂ (λ (a b : ℕ). bit_or a (readers_of n cs ds a b)) ex ey

  pub round-lines : (m x y r : ℕ) → x ≡ (rounds n cs ds k m).0 → y ≡ (rounds n cs ds k m).1 → r ≡ followers_of n cs ds x y
      → bit_or y r ≡ (rounds n cs ds k (suc m)).1
  unfolding rounds
  round-lines m x y r ex ey er = ap (bit_or y) er ∙ ap₂ (λ (a b : ℕ). bit_or b (followers_of n cs ds a b)) ex ey

  -- a round that adds nothing
  pub settled-smallest : (m x y : ℕ) → n ≤ cell_room → k < connector_count → x ≡ (rounds n cs ds k m).0 → y ≡ (rounds n cs ds k m).1
      → (grown n cs ds (x, y)).0 ≡ x → (grown n cs ds (x, y)).1 ≡ y → Smallest n cs ds k x y
  settled-smallest m x y small inside-k ex ey sx sy =
      let inside : Inside x y = rw (ex, ey) (rounds-inside m) in
      let fit = rounds-fit m inside-k in
      record {
        holds = record {
          itself = λ p. level-connector n (bit_at x) (bit_at y) k small inside-k ∙ ap (λ (v : ℕ). bit_at v k) ey ∙ rounds-itself m p;
          cells = λ i h e. level-cell n (bit_at x) (bit_at y) i h ∙ sym (ap (λ (v : ℕ). bit_at v i) sx) ∙ bit-or x _ i
              ∙ or-other (bit_at x i) _ (readers-bit x y i h ∙ e);
          outputs = λ j h e. level-connector n (bit_at x) (bit_at y) j small h ∙ sym (ap (λ (v : ℕ). bit_at v j) sy) ∙ bit-or y _ j
              ∙ or-other (bit_at y j) _ (followers-bit x y j h ∙ e);
        };
        least = inside-set x y inside;
        cells_fit = rw ex fit.0;
        connectors_fit = rw ey fit.1;
      }

-- ---- there is one such set

both_ways : (a b : Bool) → (a ≡ true → b ≡ true) → (b ≡ true → a ≡ true) → a ≡ b
both_ways true b p q = sym (p refl)
both_ways false true p q = q refl
both_ways false false p q = refl

pub only_one : (n : ℕ) (cs : List Cell) (ds : Connectors) (k x y x' y' : ℕ) → n ≤ cell_room → Smallest n cs ds k x y → Smallest n cs ds k x' y'
    → (x ≡ x') × (y ≡ y')
only_one n cs ds k x y x' y' small s t =
    let same : (b : ℕ) → set_of n x y b ≡ set_of n x' y' b = λ b. both_ways _ _ (s.least _ t.holds b) (t.least _ s.holds b) in (
      word-ext x x' n s.cells_fit t.cells_fit
          (λ i h. sym (level-cell n (bit_at x) (bit_at y) i h) ∙ same (first_cell + i) ∙ level-cell n (bit_at x') (bit_at y') i h),
      word-ext y y' connector_count s.connectors_fit t.connectors_fit
          (λ j h. sym (level-connector n (bit_at x) (bit_at y) j small h) ∙ same (first_connector + j) ∙ level-connector n (bit_at x') (bit_at y') j small h),
    )
