-- `reasons::reasons` meets its contract: idle ticks have none; of one that runs the words are those of the tick, cut to the card's cells.
use Prim.Native.Nat.{ℕ}
use mathlib.Core.Path.{◌≡◌, refl, sym, ap, ap₂, subst, ◌∙◌}
use mathlib.Core.Bool.{Bool, true, false, cond}
use mathlib.Core.List.{List, ◌++◌}
use lib.Dec.{eqb}
use lib.ListN.{drop, replicate}
use Rattle.reasons.specs.declared.cell.Reasons.{Reasons}
use Rattle.card.specs.declared.card.Memory.{Memory}
use Rattle.card.specs.Address.{cell_count, cell_room, cells_for}
use Rattle.ticks.specs.declared.view.Wires.{Wires}
use Rattle.ticks.specs.Tick.{tick}
use Rattle.ticks.specs.Words.{Fits, FitsMemory}
use Rattle.ticks.proofs.Trim.{trim-fits}
use Rattle.reasons.specs.Reasons.{no_reasons, tick_reasons}
use Rattle.reasons.proofs.Laws.{idle-none, ran-trimmed, ran-fits}
use Rattle.reasons.proofs.reasons.Goals as goal

-- the room is filled, whichever size
filled : (size : ℕ) (x : Reasons) → replicate cell_room x ≡ replicate (cells_for size) x ++ drop (cells_for size) (replicate cell_room x)
unfolding cells_for
filled size x = go (eqb size cell_room)
  where
    go : (b : Bool) → let n = cond b cell_room cell_count in replicate cell_room x ≡ replicate n x ++ drop n (replicate cell_room x)
    go true = refl
    go false = refl

pub returns-then-input-card : goal.returns-then-input-card
returns-then-input-card c =
    let a = c.args in
    let size = a.card.size in
    c.none-blank.ensures ∙ filled size no_reasons
    ∙ ap (λ (l : List Reasons). l ++ drop (cells_for size) (replicate cell_room no_reasons))
    (idle-none (cells_for size) a.full a.card a.input c.if-input-card.true)

pub each-requires : goal.each-requires
each-requires c =
    let a = c.args in
    let n = c.cells_for-n.result in
    let sized = c.cells_for-n.ensures.value in
    let fits = subst (λ (v : Memory). FitsMemory n v) (sym c.seen_memory-before.ensures) (trim-fits n a.card.memory) in
    let tick_is = c.ticked-t.ensures ∙ ap (λ (m : ℕ). tick m a.full a.card a.input) (sym sized) in record {
      n_le_cell_room = c.cells_for-n.ensures.upper_bound;
      below_bound = ran-fits n a.full a.card a.input c.ticked-t.result c.if-input-card.false tick_is;
      fits = subst (λ (v : Wires). Fits n v) (sym c.wires_of-w.ensures) fits;
    }

pub returns : goal.returns
returns c =
    let a = c.args in
    let n = c.cells_for-n.result in
    let sized = c.cells_for-n.ensures.value in
    let tick_is = c.ticked-t.ensures ∙ ap (λ (m : ℕ). tick m a.full a.card a.input) (sym sized) in
    let found = ran-trimmed n a.full a.card a.input c.ticked-t.result c.seen_memory-before.result c.wires_of-w.result c.if-input-card.false tick_is
    c.seen_memory-before.ensures c.wires_of-w.ensures in
    c.each.ensures
    ∙ ap₂ (λ (l : List Reasons) (blank : List Reasons). l ++ drop n blank) found c.none-blank.ensures
    ∙ ap (λ (m : ℕ). tick_reasons m a.full a.card a.input ++ drop m (replicate cell_room no_reasons)) sized
