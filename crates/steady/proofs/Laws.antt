-- In steady ticks nothing but counts changes; a card at rest is steady for ever; what is asked for is made.
use Prim.Native.Nat.{ℕ, zero, suc, ◌≤◌, ◌<◌}
use mathlib.Core.Path.{◌≡◌, refl, sym, ap, subst, ◌∙◌}
use mathlib.Core.Bool.{Bool, true, false, not, beq, cond, false≢true}
use mathlib.Core.List.{List}
use native.Mathlib.Omega.{arith}
use lib.Dec.{eqb, ltb}
use lib.ListN.{get_or}
use borrow.Author.Tests.{eq-eqb, le-ltb}
use Rattle.words.proofs.Bools.{and_both}
use Rattle.words.proofs.Listed.{front_at}
use Rattle.cells.specs.declared.cell.Cell.{Cell}
use Rattle.cells.specs.State.{state, with_state}
use Rattle.card.specs.declared.card.Card.{Card}
use Rattle.card.specs.declared.card.Memory.{Memory}
use Rattle.card.specs.Fresh.{no_cell}
use Rattle.card.proofs.TallyLaws.{by_less}
use Rattle.ticks.specs.declared.view.Input.{Input}
use Rattle.ticks.specs.declared.tick.Ticked.{Ticked}
use Rattle.ticks.specs.Tick.{tick}
use Rattle.ticks.specs.Rest.{with_total, rest_total}
use Rattle.ticks.proofs.AtRest.{rest-card}
use Rattle.ticks.proofs.Cases.{by-tick}
use Rattle.steady.specs.Steady.{forever, quick_ticks, count_holds, state_holds, cell_holds, cell_through, least, least_holds, same_but, steady_from}
use Rattle.steady.specs.Steady.{steady_for, card_through, made_of, advanced}
use Rattle.steady.specs.Laws.{KeepsAll, RestsForever, MakesAll, MakesSome}
use Rattle.steady.proofs.Cards.{steady-ticks}
use Rattle.steady.proofs.Made.{made_some}

beq-self : (b : Bool) → not (beq b b) ≡ false
beq-self true = refl
beq-self false = refl

cell-forever : (a : Cell) → cell_holds a a ≡ forever
unfolding state_holds count_holds
cell-forever a = rw (beq-self a.bit, beq-self a.pulse, eq-eqb a.count.0 a.count.0 refl)

least-forever : (n : ℕ) (cells : List Cell) → least_holds n cells cells ≡ forever
unfolding least_holds
least-forever zero cells = refl
least-forever (suc n) cells = rw (least-forever n cells, cell-forever (get_or cells n no_cell))

same_self : (c : Card) (total : ℕ) → same_but c (with_total c total) ≡ true
unfolding same_but
same_self c total =
    let e : (x : ℕ) → eqb x x ≡ true = λ x. eq-eqb x x refl in
    let m = c.memory in
    and_both _ _ (e c.edited)
    (and_both _ _ (and_both _ _ (and_both _ _ (e m.driven) (e m.pulled)) (and_both _ _ (e m.levels) (e m.levels2)))
    (and_both _ _ (and_both _ _ (e m.outputs) (e m.outputs2)) (e m.outputs3)))

-- ---- nothing but counts

-- a tick that runs answers the word that it drives
drives : (n : ℕ) (c : Card) (input : Input) → let t = tick n false c input in t.answer.ran ≡ true → t.answer.driven ≡ t.card.memory.driven
drives n c input = by-tick n false c input (λ t. t.answer.ran ≡ true
    → t.answer.driven ≡ t.card.memory.driven) (λ _ _. refl) (λ _ e. absurd (false≢true e))

through-cells : (n : ℕ) (c : Card) (t : Ticked) (m i : ℕ) → i < n
    → let a = get_or c.cells i no_cell in
    let b = get_or (card_through n c t m).cells i no_cell in
    b ≡ with_state a (state b.count a.bit a.pulse)
unfolding card_through
through-cells n c t m i h =
    let a = get_or c.cells i no_cell in
    let e = front_at (λ j. cell_through (get_or c.cells j no_cell) (get_or t.card.cells j no_cell) m) n c.cells i no_cell h in
    e ∙ ap (λ (b : Cell). with_state a (state b.count a.bit a.pulse)) (sym e)

through-memory : (n : ℕ) (c : Card) (t : Ticked) (m : ℕ) → (card_through n c t m).memory ≡ c.memory
unfolding card_through
through-memory n c t m = refl

through-edited : (n : ℕ) (c : Card) (t : Ticked) (m : ℕ) → (card_through n c t m).edited ≡ c.edited
unfolding card_through
through-edited n c t m = refl

through-connectors : (n : ℕ) (c : Card) (t : Ticked) (m : ℕ) → (card_through n c t m).connectors ≡ c.connectors
unfolding card_through
through-connectors n c t m = refl

pub keeps_all : (n : ℕ) → KeepsAll n
unfolding KeepsAll quick_ticks
keeps_all n c input zero hc ht h =
    record { edited = refl; memory = refl; connectors = refl; cells = λ i _. refl; driven = λ e. absurd (false≢true e) }
keeps_all n c input (suc m) hc ht h =
    let e = ap (λ (t : Ticked). t.card) (steady-ticks n c hc input ht m h) in
    let kept : (quick_ticks n c input (suc m)).card.memory ≡ c.memory = ap (λ (d : Card). d.memory) e ∙ through-memory n c (tick n false c input) (suc m) in
    record {
      edited = ap (λ (d : Card). d.edited) e ∙ through-edited n c (tick n false c input) (suc m);
      memory = kept;
      connectors = ap (λ (d : Card). d.connectors) e ∙ through-connectors n c (tick n false c input) (suc m);
      cells = λ i less. subst
          (λ (d : Card). get_or d.cells i no_cell
          ≡ with_state (get_or c.cells i no_cell) (state (get_or d.cells i no_cell).count (get_or c.cells i no_cell).bit (get_or c.cells i no_cell).pulse))
          (sym e) (through-cells n c (tick n false c input) (suc m) i less);
      driven = λ ran. drives n (quick_ticks n c input m).card input ran ∙ ap (λ (m : Memory). m.driven) kept;
    }

pub rests_forever : (n : ℕ) → RestsForever n
unfolding RestsForever steady_for steady_from
rests_forever n c input rest =
    ap (steady_from n c) (rest-card n c input rest) ∙ rw (same_self c (rest_total c input 1)) (least-forever n c.cells)

all_made : (k s : ℕ) → k ≤ s → made_of k s ≡ k
unfolding made_of
all_made k s h = by_less s 1 (λ b. least k (cond b 1 s) ≡ k)
    (λ g. let under : k ≤ 1 = omega arith in rw (le-ltb 1 k under)) (λ g. rw (le-ltb s k h))

pub makes_all : (n : ℕ) → MakesAll n
unfolding MakesAll advanced
makes_all n c input k h = all_made k (steady_for n c input) h

pub makes_some : (n : ℕ) → MakesSome n
unfolding MakesSome advanced made_of
makes_some n c input k =
    let s = steady_for n c input in
    (made_some k s, by_less (cond (ltb s 1) 1 s) k (λ t. cond t (cond (ltb s 1) 1 s) k ≤ k) (λ h. omega arith) (λ h. omega arith))
