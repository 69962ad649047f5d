-- No call changes the size of a card.
use Prim.Native.Nat.{ℕ}
use mathlib.Core.Path.{◌≡◌, refl, ap, ◌∙◌}
use mathlib.Core.Bool.{Bool, true, false, cond}
use mathlib.Core.List.{List}
use lib.Dec.{eqb}
use Rattle.card.specs.declared.card.Card.{Card}
use Rattle.card.specs.Address.{cell_count, cell_room, cells_for}
use Rattle.card.specs.Fresh.{fresh_of}
use Rattle.card.proofs.ChangeLaws.{changed-size}
use Rattle.ticks.proofs.Cases.{by-tick-on}
use Rattle.saved.specs.Record.{load_number}
use Rattle.saved.proofs.Records.{loaded-by}
use Rattle.lines.specs.Line.{line_outcome}
use Rattle.calls.specs.Calls.{Call, after_call, end}
use Rattle.calls.specs.Calls.Call.{line, load, tick}
use Rattle.calls.specs.Sizes.{SizeKept}
use Rattle.calls.proofs.Runs.{invariant}

call-size : (n : ℕ) (c : Card) (call : Call) → (after_call n c call).size ≡ c.size
unfolding after_call line_outcome
call-size n c (line text reply store) = changed-size n c _
call-size n c (load bytes) = rw (loaded-by n c bytes) (go (eqb (load_number n bytes) 0) _ refl)
  where
    go : (b : Bool) (d : Card) → d.size ≡ c.size → (cond b d c).size ≡ c.size
    go true d e = e
    go false d e = refl
call-size n c (tick full code on) = by-tick-on n full c code (on c) (λ t. t.card.size ≡ c.size) (λ _. refl) (λ _. refl)

pub end-size : (n : ℕ) (c : Card) (calls : List Call) → (end n c calls).size ≡ c.size
end-size n c calls = invariant (after_call n) (λ d. d.size ≡ c.size) (λ d call e. call-size n d call ∙ e) c calls refl

pub size-kept : (n : ℕ) → SizeKept n
unfolding SizeKept
size-kept n calls = end-size n (fresh_of n) calls

-- so what the contracts say of such a card is what the theorems say of n cells, for either number
pub small_size : (calls : List Call) → cells_for (end cell_count (fresh_of cell_count) calls).size ≡ cell_count
unfolding cells_for
small_size calls = ap (λ (s : ℕ). cells_for s) (end-size cell_count (fresh_of cell_count) calls)

pub large-size : (calls : List Call) → cells_for (end cell_room (fresh_of cell_room) calls).size ≡ cell_room
unfolding cells_for
large-size calls = ap (λ (s : ℕ). cells_for s) (end-size cell_room (fresh_of cell_room) calls)
