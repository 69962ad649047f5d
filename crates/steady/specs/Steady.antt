-- Many ticks at once. Where a quick tick changes nothing but counts, and no count comes to its end,
-- the ticks after it do the same again: the definition of such a stretch, and the card after any
-- number of its ticks. No rule of document 01 is defined here; the law is that this card is the one
-- that so many quick ticks leave, one after the other.
use Rattle.std.specs.Prelude.{ℕ, zero, suc, ◌+◌, ◌-◌, Bool, false, not, ◌&&◌, ◌||◌, cond, List, ◌++◌, eqb, ltb, get_or, drop}
use Rattle.std.specs.Bool.{beq}
use Rattle.words.specs.Bits.{bit_at}
use Rattle.words.specs.Listed.{listed}
use Rattle.cells.specs.declared.cell.Cell.{Cell}
use Rattle.cells.specs.declared.cell.State.{State}
use Rattle.cells.specs.declared.cell.Ticks.{Ticks}
use Rattle.cells.specs.State.{state, state_of, with_state}
use Rattle.cells.specs.Work.{pulses, largest_count}
use Rattle.card.specs.declared.card.Card.{Card}
use Rattle.card.specs.declared.card.Memory.{Memory}
use Rattle.card.specs.declared.tallies.Tallies.{Tallies}
use Rattle.card.specs.Fresh.{no_cell}
use Rattle.card.specs.Tally.{ticks}
use Rattle.ticks.specs.declared.view.Input.{Input}
use Rattle.ticks.specs.declared.tick.Ticked.{Ticked}
use Rattle.ticks.specs.Tick.{idle, tick}
use Rattle.ticks.specs.Rest.{total_after}
use Rattle.steady.specs.declared.Advanced.{Advanced}

-- ---- ticks one after the other

-- m quick ticks with one input: the card after them, and the answer of the last. With none the card
-- is as it was, and the answer an idle one's
unfoldable pub quick_ticks : (n : ℕ) → Card → Input → ℕ → Ticked
quick_ticks n c input zero = idle c
quick_ticks n c input (suc m) = tick n false (quick_ticks n c input m).card input

-- ---- one cell

-- no more ticks can be asked for
abbrev pub forever : ℕ
forever = 4294967295

-- a tick left the count y where it was x. The same count stays. One that fell by 1 does so again
-- down to 1, and one that rose by 1 goes on to the largest count of a counter; but not a count that
-- the cell's configuration may have set
unfoldable pub count_holds : (config x y : ℕ) → ℕ
count_holds config x y =
    cond (eqb x y) forever (cond (eqb y config) 0 (cond (eqb x (y + 1)) y (cond (eqb y (x + 1)) (largest_count - x) 0)))

-- a state that a tick left where it was s: for how many ticks, that one among them, it goes on so.
-- A bit or a pulse that changed does not
unfoldable pub state_holds : (config : ℕ) (s t : State) → ℕ
state_holds config s t =
    cond (not (beq s.bit t.bit) || not (beq s.pulse t.pulse)) 0 (count_holds config s.count.0 t.count.0)

abbrev pub cell_holds : (before after : Cell) → ℕ
cell_holds a b = state_holds a.config (state_of a) (state_of b)

-- the count after m ticks, of which the first leaves y where it was x
unfoldable pub count_through : (x y m : ℕ) → ℕ
count_through x y m = cond (ltb y x) (x - m) (cond (ltb x y) (x + m) x)

abbrev pub state_through : (s t : State) → ℕ → State
state_through s t m = state (pulses (count_through s.count.0 t.count.0 m)) s.bit s.pulse

abbrev pub cell_through : (before after : Cell) → ℕ → Cell
cell_through a b m = with_state a (state_through (state_of a) (state_of b) m)

-- ---- the card

abbrev pub least : (a b : ℕ) → ℕ
least a b = cond (ltb b a) b a

-- for how many ticks all of the first n cells go on
unfoldable pub least_holds : ℕ → (before after : List Cell) → ℕ
least_holds zero before after = forever
least_holds (suc i) before after = least (least_holds i before after) (cell_holds (get_or before i no_cell) (get_or after i no_cell))

abbrev pub same_words : Memory → Memory → Bool
same_words a b = (eqb a.driven b.driven && eqb a.pulled b.pulled) && (eqb a.levels b.levels && eqb a.levels2 b.levels2)

abbrev pub same_outputs : Memory → Memory → Bool
same_outputs a b = (eqb a.outputs b.outputs && eqb a.outputs2 b.outputs2) && eqb a.outputs3 b.outputs3

-- the tick left the edits and the memory as they were
unfoldable pub same_but : (before after : Card) → Bool
same_but c d = eqb c.edited d.edited && (same_words c.memory d.memory && same_outputs c.memory d.memory)

-- of a card and the card after one tick: for how many ticks, that one among them, nothing but
-- counts changes
unfoldable pub steady_from : (n : ℕ) (before after : Card) → ℕ
steady_from n c d = cond (same_but c d) (least_holds n c.cells d.cells) 0

unfoldable pub steady_for : (n : ℕ) → Card → Input → ℕ
steady_for n c input = steady_from n c (tick n false c input).card

-- the tallies after m ticks that ran, each of which named these cells
unfoldable pub counted_for : (named : Bool) → (d : ℕ) → Ticks → Ticks
counted_for named d v = cond named (ticks (total_after v.0 d)) v

abbrev pub tallies_on : (n : ℕ) → (named : ℕ → Bool) → (total : ℕ) → Tallies → Tallies
tallies_on n named total t =
    record {
      cells = listed (λ i. counted_for (named i) (total - t.total.0) (get_or t.cells i (ticks 0))) n ++ drop n t.cells;
      total = ticks total;
    }

unfoldable pub tallied_for : (n : ℕ) → (named : ℕ → Bool) → (m : ℕ) → Tallies → Tallies
tallied_for n named m t = tallies_on n named (total_after t.total.0 m) t

-- the card after m ticks, of which the first is t
abbrev pub cells_through : (n : ℕ) → (before after : List Cell) → ℕ → List Cell
cells_through n before after m = listed (λ i. cell_through (get_or before i no_cell) (get_or after i no_cell) m) n ++ drop n before

unfoldable pub card_through : (n : ℕ) → Card → Ticked → ℕ → Card
card_through n c t m =
    record {
      pointer = c.pointer;
      trigger = c.trigger;
      cells = cells_through n c.cells t.card.cells m;
      connectors = c.connectors;
      edited = c.edited;
      memory = c.memory;
      size = c.size;
      tallies = cond t.answer.ran (tallied_for n (bit_at t.answer.woken) m c.tallies) c.tallies;
    }

-- how many ticks are made where k are asked for: one, and more while the card is steady
unfoldable pub made_of : (k steady : ℕ) → ℕ
made_of k steady = least k (cond (ltb steady 1) 1 steady)

-- ticks at once: how many, the card after so many quick ticks one after the other, and the answer
-- of the last
unfoldable pub advanced : (n : ℕ) → Card → Input → (k : ℕ) → Advanced
advanced n c input k =
    let made = made_of k (steady_for n c input) in
    let t = quick_ticks n c input made in
    record { card = t.card; answer = t.answer; made = made }
