-- Every tick keeps a card valid: it changes nothing that validity looks at.
use Prim.Native.Nat.{ℕ, ◌≤◌}
use mathlib.Core.Path.{◌≡◌, refl, ap, ◌∙◌}
use mathlib.Core.Bool.{Bool, true}
use mathlib.Core.List.{◌++◌}
use lib.ListN.{drop, get_or, length}
use Rattle.words.specs.Listed.{listed}
use Rattle.words.proofs.Listed.{front_at, front_length}
use Rattle.cells.specs.declared.table.Slots.{Slots}
use Rattle.cells.specs.declared.cell.Cell.{Cell}
use Rattle.card.specs.declared.card.Card.{Card}
use Rattle.card.specs.Fresh.{no_cell}
use Rattle.card.specs.Valid.{valid_cell, valid_card}
use Rattle.card.proofs.Settings.{taken-room}
use Rattle.card.proofs.ValidLaws.{sound, first-cells, cell_at}
use Rattle.ticks.specs.declared.connectors.Lines.{Lines}
use Rattle.ticks.specs.declared.view.Input.{Input}
use Rattle.ticks.specs.Tick.{turn_by, turn_at, turned, wires_of, lines, ticked_on, tick_on, tick}
use Rattle.ticks.specs.Tick
use Rattle.ticks.proofs.Cases.{by_turn, by-tick-on}

-- a turn leaves all that validity looks at
turn-valid : (n : ℕ) (full : Bool) (cell : Cell) (edited out : Bool) (now last : Slots)
    → valid_cell n (turn_by full cell edited out now last).cell ≡ valid_cell n cell
unfolding valid_cell
turn-valid n full cell edited out now last =
    by_turn full cell edited out now last (λ t. valid_cell n t.cell ≡ valid_cell n cell) (λ _. refl) (λ _. refl)

module _ (n : ℕ) (c : Card) (ok : valid_card n c ≡ true) where
  ran-valid : (full : Bool) (l : Lines) → valid_card n (ticked_on n full c l).card ≡ true
  unfolding valid_card turned turn_at
  ran-valid full l =
      let w = wires_of c.memory l.levels in
      let next = Tick.cell_after n full c.cells c.edited w in
      let room = taken-room n c.cells (sound n c ok).cell-count in
      let long : n ≤ length (listed next n ++ drop n c.cells) = rw (front_length next n c.cells room) room in
      first-cells n c ok (listed next n ++ drop n c.cells) long
      (λ i h. let old = get_or c.cells i no_cell in
      ap (valid_cell n) (front_at next n c.cells i no_cell h)
      ∙ turn-valid n full old _ _ _ _ ∙ cell_at n c ok i h)

  pub valid-tick-on : (full : Bool) (code : ℕ) (l : Lines) → valid_card n (tick_on n full c code l).card ≡ true
  valid-tick-on full code l = by-tick-on n full c code l (λ t. valid_card n t.card ≡ true) (λ _. ran-valid full l) (λ _. ok)

  pub valid-tick : (full : Bool) (input : Input) → valid_card n (tick n full c input).card ≡ true
  unfolding tick
  valid-tick full input = valid-tick-on full input.code (lines n c input)
