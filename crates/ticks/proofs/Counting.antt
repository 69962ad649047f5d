-- A counter counts what its readings say, on any card: where the rules name it, it is worked out, and
-- where they do not it would count nothing.
use Prim.Native.Nat.{ℕ}
use mathlib.Core.Path.{◌≡◌, refl, ap, ap₂, ◌∙◌}
use mathlib.Core.Bool.{Bool, not, ◌&&◌, cond}
use mathlib.Core.List.{List, ◌∷◌}
use lib.Dec.{eqb}
use Rattle.cells.specs.declared.table.Slots.{Slots}
use Rattle.cells.specs.declared.table.CounterKind.{CounterKind}
use Rattle.cells.specs.declared.cell.Cell.{Cell}
use Rattle.cells.specs.State.{state_of}
use Rattle.cells.specs.Work.{raised}
use Rattle.cells.specs.Counting.{counter_type, counts_in, kept_in, counted_in, grown}
use Rattle.cells.proofs.Counters.{Follows, counter-follows, counter-rests, grown-none, grown-more, still-zero}
use Rattle.ticks.specs.declared.view.Input.{Input}
use Rattle.ticks.specs.Runs.{cell_at, after_ticks, readings, ResetLow, own}
use Rattle.ticks.specs.Counting.{CountsOn}
use Rattle.ticks.proofs.Runs.{output_at, worked_cell, Lasts, lasts, always}

-- what a counter counts of the readings from a cell on
abbrev counted_from : CounterKind → Cell → List Slots → ℕ
counted_from k cell rs = grown cell.count.0 (counted_in k cell.bit (eqb cell.count.0 0) rs)

-- one reading more
next-counted : (k : CounterKind) (cell next : Cell) (r : Slots) (rs : List Slots) → Follows k (state_of cell) (state_of next) r
    → counted_from k next rs ≡ counted_from k cell (r ∷ rs)
unfolding counted_in
next-counted k cell next r rs g =
    let v = cell.count.0 in
    let one = counts_in k cell.bit (eqb v 0) r in
    let kept = kept_in k cell.bit (eqb v 0) r in
    ap₂ (λ (w : ℕ) (b : Bool). grown w (counted_in k b (eqb w 0) rs)) g.count g.bit
    ∙ ap (λ (z : Bool). grown (cond one (raised v) v) (counted_in k kept z rs)) (still-zero one v)
    ∙ grown-more one v (counted_in k kept (eqb v 0 && not one) rs)

-- a counter that will count up to `total` by the readings to come, which find its reset low
record WillCount (k : CounterKind) (total : ℕ) (rs : List Slots) (cell : Cell) (out : Bool) : Type 0 where
  kind : cell.kind ≡ counter_type k
  low : ResetLow rs
  counted : counted_from k cell rs ≡ total

-- nothing is asked of the single tick
abbrev Anything : Cell → Slots → Type 0
Anything cell r = Unit {0}

will-count : (k : CounterKind) (total : ℕ) → Lasts (WillCount k total) Anything
unfolding ResetLow
will-count k total =
    record {
      asleep = λ r rs cell out w any still.
          let g = counter-rests k cell.kind (state_of cell) r w.kind still in
          record { kind = w.kind; low = w.low.1; counted = next-counted k cell cell r rs g ∙ w.counted };
      worked = λ r rs cell out w any.
          let next = worked_cell cell r in
          let f = counter-follows k cell.config (state_of cell) r w.low.0 in
          let g : Follows k (state_of cell) (state_of next) r = record { count = rw w.kind f.count; bit = rw w.kind f.bit } in
          record { kind = w.kind; low = w.low.1; counted = next-counted k cell next r rs g ∙ w.counted };
    }

pub counts-on : (n : ℕ) → CountsOn n
unfolding CountsOn counted_in
counts-on n k c ts i inside is low =
    let T = Bool × Input in
    let total = counted_from k (cell_at c i) (readings n c ts i) in
    let start : WillCount k total (readings n c ts i) (cell_at c i) (output_at c i) = record { kind = is; low = low; counted = refl } in
    let kept = will-count k total in
    let any = always (WillCount k total) Anything n T (own n) i inside kept (λ r rs cell out w. tt) ts c start in
    let end = lasts (WillCount k total) Anything n T (own n) i inside kept ts c any start in
    grown-none (cell_at (after_ticks n c ts) i).count.0 ∙ end.counted
