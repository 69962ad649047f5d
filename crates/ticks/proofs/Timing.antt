-- A timer keeps its word, on any card: the tick that takes the trigger works it out, and from then
-- on its count and its output go by the number of pulses, whether a tick works it out or lets it
-- sleep.
use Prim.Native.Nat.{ℕ, ◌+◌, ◌<◌}
use mathlib.Core.Path.{◌≡◌, refl, sym, ap, ◌∙◌}
use mathlib.Core.Bool.{Bool, true, false, true≢false}
use mathlib.Core.List.{List, [], ◌∷◌}
use native.Mathlib.Nat.{add-zero, zero-add}
use native.Mathlib.Omega.{arith}
use Rattle.words.specs.Bits.{bit_at, bit_number}
use Rattle.cells.specs.declared.table.Slots.{Slots}
use Rattle.cells.specs.declared.cell.Cell.{Cell}
use Rattle.cells.specs.State.{state_of}
use Rattle.cells.specs.Table.{row_of}
use Rattle.cells.specs.Wake.{stirred}
use Rattle.cells.specs.Timing.{is_timer, pulses_in, pulses_before, ignoring}
use Rattle.cells.proofs.Timers.{Word, taken-stirs, word-taken, word-worked, word-slept, word-ignored, ignoring-fewer}
use Rattle.card.specs.declared.card.Card.{Card}
use Rattle.ticks.specs.declared.view.Input.{Input}
use Rattle.ticks.specs.Runs.{Step, cell_at, step_reads, stepped, tick_by, last_of, after_all, readings_in, ResetLow, own}
use Rattle.ticks.specs.Timing.{TakesTrigger, TakesNone, TimerPromiseOn, IgnoresAllOn, TimerPromise, IgnoresAll}
use Rattle.ticks.proofs.Cases.{by-tick-on}
use Rattle.ticks.proofs.Runs.{output_at, worked_cell, worked_out, after-step, Lasts, lasts, always}

-- a timer's cell with its output, p pulses after it took a trigger
record Kept (k d p : ℕ) (cell : Cell) (out : Bool) : Type 0 where
  kind : cell.kind ≡ k
  config : cell.config ≡ d
  word : Word (row_of k).class d p (state_of cell) out

module _ (k d : ℕ) (is : is_timer (row_of k).class ≡ true) where
  -- after another reading, asleep and worked out
  kept-slept : (p : ℕ) (cell : Cell) (out : Bool) (r : Slots) → Kept k d p cell out → stirred cell.kind (state_of cell) r ≡ false
      → Kept k d (bit_number r.y + p) cell out
  kept-slept p cell out r kept still =
      record {
        kind = kept.kind;
        config = kept.config;
        word = word-slept k d p (state_of cell) out r kept.word is (rw kept.kind at still);
      }

  kept-worked : (p : ℕ) (cell : Cell) (out : Bool) (r : Slots) → Kept k d p cell out → r.z ≡ false → TakesNone cell r
      → Kept k d (bit_number r.y + p) (worked_cell cell r) (worked_out cell r)
  kept-worked p cell out r kept low none =
      record {
        kind = kept.kind;
        config = kept.config;
        word = rw (kept.kind, kept.config) (word-worked k d p (state_of cell) out r kept.word is low (rw kept.kind at none));
      }

  -- with the readings to come, which find the reset low and make `total` pulses
  record WillKeep (total : ℕ) (rs : List Slots) (cell : Cell) (out : Bool) : Type 0 where
    p : ℕ
    kept : Kept k d p cell out
    low : ResetLow rs
    sum : pulses_in rs + p ≡ total

  will-keep : (total : ℕ) → Lasts (WillKeep total) TakesNone
  unfolding ResetLow pulses_in
  will-keep total =
      record {
        asleep = λ r rs cell out w none still.
            let e = w.sum in
            record { p = bit_number r.y + w.p; kept = kept-slept w.p cell out r w.kept still; low = w.low.1; sum = omega arith };
        worked = λ r rs cell out w none.
            let e = w.sum in
            record { p = bit_number r.y + w.p; kept = kept-worked w.p cell out r w.kept w.low.0 none; low = w.low.1; sum = omega arith };
      }

  -- with the readings to come, before the last of which the pulses leave it ignoring triggers
  abbrev IgnoresOver : (p : ℕ) → List Slots → Type 0
  IgnoresOver p [] = Unit {0}
  IgnoresOver p (r ∷ rs) = ignoring (row_of k).class d (pulses_before (r ∷ rs) + p) ≡ true

  ignores-next : (p : ℕ) (r : Slots) (rs : List Slots) → IgnoresOver p (r ∷ rs) → IgnoresOver (bit_number r.y + p) rs
  unfolding pulses_before
  ignores-next p r [] b = tt
  ignores-next p r (s ∷ rs) b =
      let sum : bit_number r.y + pulses_before (s ∷ rs) + p ≡ pulses_before (s ∷ rs) + (bit_number r.y + p) = omega arith in
      rw sum at b

  start-over : (rs : List Slots) → ignoring (row_of k).class d (pulses_before rs) ≡ true → IgnoresOver 0 rs
  start-over [] b = tt
  start-over (r ∷ rs) b = rw (add-zero (pulses_before (r ∷ rs))) b

  record WillIgnore (rs : List Slots) (cell : Cell) (out : Bool) : Type 0 where
    p : ℕ
    kept : Kept k d p cell out
    low : ResetLow rs
    ignores : IgnoresOver p rs

  ignores-now : (r : Slots) (rs : List Slots) (cell : Cell) (out : Bool) → WillIgnore (r ∷ rs) cell out → TakesNone cell r
  ignores-now r rs cell out w =
      let more = pulses_before (r ∷ rs) in
      let now = ignoring-fewer (row_of k).class d w.p (more + w.p) (omega arith) w.ignores in
      rw w.kept.kind (word-ignored k d w.p (state_of cell) out r w.kept.word now)

  will-ignore : Lasts WillIgnore TakesNone
  unfolding ResetLow
  will-ignore =
      record {
        asleep = λ r rs cell out w none still.
            record {
              p = bit_number r.y + w.p;
              kept = kept-slept w.p cell out r w.kept still;
              low = w.low.1;
              ignores = ignores-next w.p r rs w.ignores;
            };
        worked = λ r rs cell out w none.
            record {
              p = bit_number r.y + w.p;
              kept = kept-worked w.p cell out r w.kept w.low.0 none;
              low = w.low.1;
              ignores = ignores-next w.p r rs w.ignores;
            };
      }

-- the tick that takes the trigger
triggered : (n : ℕ) (c : Card) (s : Step) (i : ℕ) → i < n → TakesTrigger n c s i
    → Kept (cell_at c i).kind (cell_at c i).config 0 (cell_at (stepped n c s).card i) (output_at (stepped n c s).card i)
triggered n c s i inside t =
    let cell = cell_at c i in
    let r = step_reads n c s i in
    after-step n c s i inside (Kept cell.kind cell.config 0)
    (λ idles. absurd (true≢false (sym t.ran ∙ idles)))
    (λ ran still. absurd (true≢false (sym (taken-stirs cell.kind (state_of cell) r t.took) ∙ still)))
    (λ ran. record { kind = refl; config = refl; word = word-taken cell.kind cell.config (state_of cell) r t.timer t.duration t.took })

-- a tick that ran answers with the cell word that the card then holds
answer-holds : (n : ℕ) (c : Card) (s : Step) → (stepped n c s).answer.ran ≡ true → (stepped n c s).answer.cells ≡ (stepped n c s).card.memory.outputs
answer-holds n c s =
    by-tick-on n s.full c s.code s.lines (λ t. t.answer.ran ≡ true → t.answer.cells ≡ t.card.memory.outputs) (λ _ _. refl)
    (λ _ e. absurd (true≢false (sym e)))

module _ (n : ℕ) (T : Type 0) (on : Card → T → Step) where
  -- the last of some ticks leaves the card after all of them, and so answers
  last-card : (ts : List T) (c : Card) (t : T) → (last_of n T on c t ts).card ≡ after_all n T on (tick_by n T on c t).card ts
  unfolding last_of after_all
  last-card [] c t = refl
  last-card (u ∷ ts) c t = last-card ts (tick_by n T on c t).card u

  last-answer : (ts : List T) (c : Card) (t : T) → let z = last_of n T on c t ts in z.answer.ran ≡ true → z.answer.cells ≡ z.card.memory.outputs
  unfolding last_of
  last-answer [] c t = answer-holds n c (on c t)
  last-answer (u ∷ ts) c t = last-answer ts (tick_by n T on c t).card u

  pub timer-promise-on : TimerPromiseOn n T on
  unfolding TimerPromiseOn pulses_in
  timer-promise-on c t ts i inside took low none =
      let k = (cell_at c i).kind in
      let d = (cell_at c i).config in
      let next = (tick_by n T on c t).card in
      let rs = readings_in n T on next ts i in
      let total = pulses_in rs in
      let start : WillKeep k d took.timer total rs (cell_at next i) (output_at next i) =
      record { p = 0; kept = triggered n c (on c t) i inside took; low = low; sum = add-zero total } in
      let end = lasts (WillKeep k d took.timer total) TakesNone n T on i inside (will-keep k d took.timer total) ts next none start in
      let same = last-card ts c t in
      let pulses : end.p ≡ total = sym (zero-add end.p) ∙ end.sum in
      let word = rw pulses at end.kept.word in
      let output = ap (λ (x : Card). output_at x i) same ∙ word.output in
      record {
        count = ap (λ (x : Card). (cell_at x i).count.0) same ∙ word.count;
        output = output;
        answer = λ ran. ap (λ (x : ℕ). bit_at x i) (last-answer ts c t ran) ∙ output;
      }

  pub ignores-all-on : IgnoresAllOn n T on
  unfolding TimerPromiseOn IgnoresAllOn
  ignores-all-on c t ts i inside took low busy =
      let k = (cell_at c i).kind in
      let d = (cell_at c i).config in
      let next = (tick_by n T on c t).card in
      let rs = readings_in n T on next ts i in
      let start : WillIgnore k d took.timer rs (cell_at next i) (output_at next i) =
      record { p = 0; kept = triggered n c (on c t) i inside took; low = low; ignores = start-over k d took.timer rs busy } in
      let none = always (WillIgnore k d took.timer) TakesNone n T on i inside (will-ignore k d took.timer) (ignores-now k d
      took.timer) ts next start in
      (none, timer-promise-on c t ts i inside took low none)

pub timer-promise : (n : ℕ) → TimerPromise n
timer-promise n = timer-promise-on n (Bool × Input) (own n)

pub ignores-all : (n : ℕ) → IgnoresAll n
ignores-all n = ignores-all-on n (Bool × Input) (own n)
