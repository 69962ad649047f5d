-- The two case distinctions of a tick, made once: a cell was worked out or slept, and a tick ran or
-- was idle.
use Prim.Native.Nat.{ℕ}
use mathlib.Core.Path.{◌≡◌, refl, sym, ap, subst, ◌∙◌}
use mathlib.Core.Bool.{Bool, true, false, ◌||◌, cond}
use lib.Dec.{eqb}
use borrow.Author.Tests.{eq-eqb, ne_eqb}
use Rattle.words.proofs.Bools.{or_right}
use Rattle.cells.specs.declared.table.Slots.{Slots}
use Rattle.cells.specs.declared.cell.Cell.{Cell}
use Rattle.cells.specs.State.{state_of, with_state}
use Rattle.cells.specs.Work.{work_out}
use Rattle.card.specs.declared.card.Card.{Card}
use Rattle.ticks.specs.declared.connectors.Lines.{Lines}
use Rattle.ticks.specs.declared.view.Input.{Input}
use Rattle.ticks.specs.declared.tick.Ticked.{Ticked}
use Rattle.ticks.specs.Tick.{Turn, worked_turn, slept_turn, rules_name, turn_by, lines, ticked_on, ticked, idle, tick_on, tick}

-- ---- one cell: worked out or slept

module _ (full : Bool) (cell : Cell) (edited out : Bool) (now last : Slots) where
  abbrev rule : Bool
  rule = rules_name cell edited now last

  -- what holds of the cell worked out where it is due, and of the cell asleep where it is not,
  -- holds of its turn
  pub by_turn : (P : Turn → Type 0)
      → ((full || rules_name cell edited now last) ≡ true → P (worked_turn cell (rules_name cell edited now last) now))
      → ((full || rules_name cell edited now last) ≡ false → P (slept_turn cell out))
      → P (turn_by full cell edited out now last)
  by_turn P worked slept = go (full || rule) refl
    where
      go : (b : Bool) → (full || rule) ≡ b → P (cond b (worked_turn cell rule now) (slept_turn cell out))
      go true e = worked e
      go false e = slept e

  -- its turn says whether the rules name it, whatever the tick
  pub turn-named : (turn_by full cell edited out now last).named ≡ rules_name cell edited now last
  turn-named = by_turn (λ t. t.named ≡ rule) (λ _. refl) (λ e. sym (or_right full rule e))

  pub turn-due : (turn_by full cell edited out now last).woke ≡ (full || rules_name cell edited now last)
  turn-due = by_turn (λ t. t.woke ≡ (full || rule)) sym sym

  -- woken is all, in a full tick, or named
  pub all-or-named : (turn_by full cell edited out now last).woke ≡ (full || (turn_by full cell edited out now last).named)
  all-or-named = turn-due ∙ ap (λ (b : Bool). full || b) (sym turn-named)

  -- the cell, and its output
  pub turn-cell : (turn_by full cell edited out now last).cell
      ≡ cond (full || rules_name cell edited now last) (with_state cell (work_out cell.kind cell.config (state_of cell) now).state) cell
  turn-cell = by_turn (λ t. t.cell ≡ cond (full || rule) (worked_turn cell rule now).cell cell) (λ e. rw e) (λ e. rw e)

  pub turn-out : (turn_by full cell edited out now last).out
      ≡ cond (full || rules_name cell edited now last) (work_out cell.kind cell.config (state_of cell) now).out out
  turn-out = by_turn (λ t. t.out ≡ cond (full || rule) (worked_turn cell rule now).out out) (λ e. rw e) (λ e. rw e)

-- ---- a tick: it ran or was idle

module _ (n : ℕ) (full : Bool) (c : Card) where
  -- what holds of the tick that runs on the card's own clock, and of the idle one on another, holds
  -- of a tick
  pub by-tick-on : (code : ℕ) (l : Lines) (P : Ticked → Type 0) → (eqb code c.trigger ≡ true → P (ticked_on n full c l))
      → (eqb code c.trigger ≡ false → P (idle c)) → P (tick_on n full c code l)
  by-tick-on code l P own other = go (eqb code c.trigger) refl
    where
      go : (b : Bool) → eqb code c.trigger ≡ b → P (cond b (ticked_on n full c l) (idle c))
      go true e = own e
      go false e = other e

  pub by-tick : (input : Input) (P : Ticked → Type 0) → (eqb input.code c.trigger ≡ true → P (ticked n full c input))
      → (eqb input.code c.trigger ≡ false → P (idle c)) → P (tick n full c input)
  unfolding tick
  by-tick input = by-tick-on input.code (lines n c input)

  -- which of the two, by the clock
  pub tick-own : (input : Input) → input.code ≡ c.trigger → tick n full c input ≡ ticked n full c input
  unfolding tick
  tick-own input own = rw (eq-eqb input.code c.trigger own)

  pub tick-other : (input : Input) → (input.code ≡ c.trigger → ⊥) → tick n full c input ≡ idle c
  unfolding tick
  tick-other input other = rw (ne_eqb input.code c.trigger other)

-- two ticks that run together, or are idle together
module _ (n : ℕ) (full whole : Bool) (c d : Card) where
  pub by-ticks-on : (code other : ℕ) (l k : Lines) → eqb code c.trigger ≡ eqb other d.trigger → (P : Ticked → Ticked → Type 0)
      → P (ticked_on n full c l) (ticked_on n whole d k) → P (idle c) (idle d) → P (tick_on n full c code l) (tick_on n whole d other k)
  by-ticks-on code other l k same P both none =
      subst (λ (b : Bool). P (tick_on n full c code l) (cond b (ticked_on n whole d k) (idle d))) same (go (eqb code c.trigger))
    where
      go : (b : Bool) → P (cond b (ticked_on n full c l) (idle c)) (cond b (ticked_on n whole d k) (idle d))
      go true = both
      go false = none

  pub by-ticks : (x y : Input) → eqb x.code c.trigger ≡ eqb y.code d.trigger → (P : Ticked → Ticked → Type 0)
      → P (ticked n full c x) (ticked n whole d y) → P (idle c) (idle d) → P (tick n full c x) (tick n whole d y)
  unfolding tick
  by-ticks x y = by-ticks-on x.code y.code (lines n c x) (lines n d y)
