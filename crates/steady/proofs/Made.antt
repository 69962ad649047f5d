-- What the code of `advance` puts together is what the definition says.
use Prim.Native.Nat.{ℕ, zero, suc, ◌≤◌, ◌<◌, zero-le}
use mathlib.Core.Path.{◌≡◌, sym, ap, subst, ◌∙◌}
use mathlib.Core.Bool.{Bool, false, cond}
use mathlib.Core.List.{List}
use native.Mathlib.Nat.{not-suc-le-zero}
use native.Mathlib.Omega.{arith}
use lib.Dec.{ltb}
use lib.ListN.{length}
use borrow.Author.Tests.{le-ltb}
use Rattle.words.specs.Bits.{bit_at}
use Rattle.cells.specs.declared.cell.Cell.{Cell}
use Rattle.card.specs.declared.card.Card.{Card}
use Rattle.card.specs.declared.tallies.Tallies.{Tallies}
use Rattle.card.proofs.TallyLaws.{by_less}
use Rattle.ticks.specs.declared.view.Input.{Input}
use Rattle.ticks.specs.declared.tick.Ticked.{Ticked}
use Rattle.ticks.specs.Tick.{idle, tick}
use Rattle.steady.specs.declared.Advanced.{Advanced}
use Rattle.steady.specs.Steady.{quick_ticks, least, least_holds, steady_from, steady_for, tallied_for, cells_through, card_through, made_of, advanced}
use Rattle.steady.proofs.Cards.{steady-means, steady-ticks}

abbrev with_cells : Card → List Cell → Tallies → Card
with_cells c cells tallies =
    record {
      pointer = c.pointer;
      trigger = c.trigger;
      cells = cells;
      connectors = c.connectors;
      edited = c.edited;
      memory = c.memory;
      size = c.size;
      tallies = tallies;
    }

pub idle-through : (n : ℕ) (c : Card) (t : Ticked) (m : ℕ) (cells : List Cell) → cells ≡ cells_through n c.cells t.card.cells m
    → t.answer.ran ≡ false → with_cells c cells c.tallies ≡ card_through n c t m
unfolding card_through
idle-through n c t m cells e not-ran =
    let same = sym (ap (λ (b : Bool). cond b (tallied_for n (bit_at t.answer.woken) m c.tallies) c.tallies) not-ran) in
    λ k. with_cells c (e k) (same k)

-- ---- how many are made

made-zero : (k s : ℕ) → k ≡ 0 → made_of k s ≡ 0
unfolding made_of
made-zero k s e = rw e (rw (le-ltb (cond (ltb s 1) 1 s) 0 zero-le))

pub made_some : (k s : ℕ) → 0 < k → 0 < made_of k s
unfolding made_of
made_some k s h = by_less s 1 (λ b. 0 < least k (cond b 1 s)) (λ _. some 1 (omega arith)) (λ g. some s (omega arith))
  where
    some : (b : ℕ) → 0 < b → 0 < least k b
    some b p = by_less b k (λ t. 0 < cond t b k) (λ _. p) (λ _. h)

pub made-within : (k s m : ℕ) → m ≡ made_of k s → 1 < m → m ≤ s
unfolding made_of
made-within k s m e h = by_less s 1 (λ b. m ≡ least k (cond b 1 s) → m ≤ s) (λ _ e. absurd (omega (arith, under 1))) (λ _ e. omega (arith, under s)) e
  where
    under : (b : ℕ) → least k b ≤ b
    under b = by_less b k (λ t. cond t b k ≤ b) (λ _. omega arith) (λ l. l)

-- ---- the answers

abbrev at_once : (n : ℕ) → Card → Input → ℕ → Advanced
at_once n c input m = record { card = (quick_ticks n c input m).card; answer = (quick_ticks n c input m).answer; made = m }

-- none is asked for
pub made_none : (n : ℕ) (c : Card) (input : Input) (k : ℕ) (t : Ticked) → t ≡ idle c → k ≡ 0
    → record { card = t.card; answer = t.answer; made = 0 } ≡ advanced n c input k
unfolding advanced quick_ticks
made_none n c input k t e zero-asked =
    (λ i. record { card = (e i).card; answer = (e i).answer; made = 0 }) ∙ ap (at_once n c input) (sym (made-zero k (steady_for n c input) zero-asked))

-- one tick, which is the first
pub made-first : (n : ℕ) (c : Card) (input : Input) (k : ℕ) (t : Ticked) (m : ℕ) → t ≡ tick n false c input → m ≡ made_of k (steady_for n c input)
    → m < 2 → 0 < k → record { card = t.card; answer = t.answer; made = m } ≡ advanced n c input k
unfolding advanced quick_ticks
made-first n c input k t m e made h asked =
    let some : 0 < m = subst (λ (x : ℕ). 0 < x) (sym made) (made_some k (steady_for n c input) asked) in
    let one : m ≡ 1 = omega arith in
    (λ i. record { card = (e i).card; answer = (e i).answer; made = one i }) ∙ ap (at_once n c input) (sym one ∙ made)

-- many: the card is steady for so long
pub holds-all : (n : ℕ) (c d : Card) (m : ℕ) → 0 < m → m ≤ steady_from n c d → m ≤ least_holds n c.cells d.cells
holds-all n c d zero pos h = absurd (not-suc-le-zero pos)
holds-all n c d (suc m) pos h = (steady-means n m c d h).1

through-many : (n : ℕ) (c : Card) (input : Input) (m : ℕ) → 0 < m → m ≤ steady_for n c input → n ≤ length c.cells → n ≤ length c.tallies.cells
    → quick_ticks n c input m ≡ record { card = card_through n c (tick n false c input) m; answer = (tick n false c input).answer }
through-many n c input zero pos h hc ht = absurd (not-suc-le-zero pos)
through-many n c input (suc m) pos h hc ht = steady-ticks n c hc input ht m h

pub made-many : (n : ℕ) (c : Card) (input : Input) (k : ℕ) (t : Ticked) (m : ℕ) (d : Card) → t ≡ tick n false c input
    → m ≡ made_of k (steady_for n c input) → 1 < m → d ≡ card_through n c t m → n ≤ length c.cells → n ≤ length c.tallies.cells
    → record { card = d; answer = t.answer; made = m } ≡ advanced n c input k
unfolding advanced
made-many n c input k t m d e made h through hc ht =
    let within = made-within k (steady_for n c input) m made h in
    let all = through-many n c input m (omega arith) within hc ht in
    (λ i. record { card = (through ∙ ap (λ (x : Ticked). card_through n c x m) e) i; answer = (e i).answer; made = m })
    ∙ (λ i. record { card = (sym all i).card; answer = (sym all i).answer; made = m })
    ∙ ap (at_once n c input) made
