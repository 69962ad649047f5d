-- The tallies of the card that a list of calls reaches are what the list says.
use Prim.Native.Nat.{ℕ, zero, suc, ◌+◌, ◌≤◌, ◌<◌, zero-le}
use mathlib.Core.Path.{◌≡◌, refl, sym, ap, ap₂, subst, ◌∙◌}
use mathlib.Core.Bool.{Bool, true, false, ◌&&◌, cond}
use mathlib.Core.List.{List}
use native.Mathlib.Nat.{le_refl, le_of_lt}
use native.Mathlib.Omega.{arith}
use lib.Dec.{eqb, ltb}
use lib.ListN.{length, get_or, replicate}
use borrow.Author.Tests.{eqb-true, ltb-true, lt-ltb}
use Rattle.words.specs.Bits.{bit_number, count_of}
use Rattle.cells.specs.declared.table.Slots.{Slots}
use Rattle.cells.specs.State.{state_of}
use Rattle.cells.specs.Wake.{wakes}
use Rattle.card.specs.declared.card.Card.{Card}
use Rattle.card.specs.declared.tallies.Tallies.{Tallies}
use Rattle.card.specs.Address.{cell_room}
use Rattle.card.specs.Fresh.{fresh_of, no_cell}
use Rattle.card.specs.Tally.{ticks, standstill, no_tallies, tally_of, tallied_by}
use Rattle.card.proofs.TallyLaws.{tallied-total, tallied-at, tallied-off, counted-below}
use Rattle.ticks.specs.declared.connectors.Lines.{Lines}
use Rattle.ticks.specs.Tick
use Rattle.ticks.specs.Exact.{cell_named}
use Rattle.ticks.specs.Rest.{total_of}
use Rattle.ticks.proofs.Cases.{by-tick-on}
use Rattle.ticks.proofs.Exact.{works-exactly}
use Rattle.saved.specs.Record.{load_number}
use Rattle.saved.proofs.Records.{loaded-by}
use Rattle.calls.specs.Runs.{since}
use Rattle.calls.specs.Calls.{Call, after_call, end}
use Rattle.calls.specs.Calls.Call.{line, load, tick}
use Rattle.calls.specs.History.{Readings}
use Rattle.calls.specs.Tallies.{sum_of, Summed, nothing, PerTick, sum_next, summed, EveryListTallied, WhoIsNamed, GrowsAsAnswered}
use Rattle.calls.proofs.MemoryIsHistory.{edited-from-fresh, read-from-fresh}
use Rattle.calls.proofs.Lists.{line-edit}
use Rattle.calls.proofs.Runs.{invariant, tracked-under}

-- ---- sums

sum_same : (f g : ℕ → ℕ) (m : ℕ) → ((i : ℕ) → i < m → f i ≡ g i) → sum_of f m ≡ sum_of g m
unfolding sum_of
sum_same f g zero same = refl
sum_same f g (suc m) same = ap₂ ◌+◌ (sum_same f g m (λ i h. same i (omega arith))) (same m (omega arith))

sum-zero : (m : ℕ) → sum_of (λ i. 0) m ≡ 0
unfolding sum_of
sum-zero zero = refl
sum-zero (suc m) = rw (sum-zero m)

-- adding a bit to each entry adds the number of bits
sum-adds : (f : ℕ → ℕ) (b : ℕ → Bool) (m : ℕ) → sum_of (λ i. f i + bit_number (b i)) m ≡ sum_of f m + count_of b m
unfolding sum_of count_of
sum-adds f b zero = refl
sum-adds f b (suc m) =
    let ih = sum-adds f b m in
    omega (arith, ih)

-- ---- one tick that runs

-- no tally exceeds the total, which does not pass the limit
abbrev Good : ℕ → Tallies → Type 0
Good n t = (t.total.0 ≤ standstill) × ((i : ℕ) → i < n → tally_of t i ≤ t.total.0)

bit-most : (b : Bool) → bit_number b ≤ 1
bit-most true = le_refl 1
bit-most false = zero-le

module _ (n : ℕ) (f : ℕ → Bool) (t : Tallies) (good : Good n t) where
  grows : ltb t.total.0 standstill ≡ true → (i : ℕ) → i < n → tally_of (tallied_by n f t) i ≡ tally_of t i + bit_number (f i)
  grows e i h =
      let below = ltb-true t.total.0 standstill e in
      let most = good.1 i h in
      tallied-at n f t i h e ∙ counted-below (f i) (get_or t.cells i (ticks 0)) (omega (arith, below, most))

  total-on : ltb t.total.0 standstill ≡ true → (tallied_by n f t).total.0 ≡ t.total.0 + 1
  total-on e = tallied-total n f t ∙ rw e

  good-next : Good n (tallied_by n f t)
  good-next = go (ltb t.total.0 standstill) refl
    where
      go : (q : Bool) → ltb t.total.0 standstill ≡ q → Good n (tallied_by n f t)
      go true e =
          let below = ltb-true t.total.0 standstill e in
          let tot = total-on e in (
            omega (arith, below, tot),
            λ i h. omega (arith, tot, grows e i h, good.1 i h, bit-most (f i)),
          )
      go false e = rw (tallied-off n f t e) good

zeros : (m i : ℕ) → get_or (replicate m (ticks 0)) i (ticks 0) ≡ ticks 0
zeros zero i = refl
zeros (suc m) zero = refl
zeros (suc m) (suc i) = zeros m i

none-at : (i : ℕ) → tally_of no_tallies i ≡ 0
none-at i = ap (λ v. v.0) (zeros cell_room i)

none-good : (n : ℕ) → Good n no_tallies
none-good n = (zero-le, λ i h. let e = none-at i in omega (arith, e))

-- ---- one call

module _ (n : ℕ) where
  -- what a call makes of the tallies
  tally_next : Card → Call → Tallies → Tallies
  tally_next c (line text reply store) t = t
  tally_next c (load bytes) t = cond (eqb (load_number n bytes) 0) no_tallies t
  tally_next c (tick full code on) t = cond (Tick.tick_on n full c code (on c)).answer.ran (tallied_by n (cell_named n full c (on c).levels) t) t

  call-tallies : (c : Card) (call : Call) → (after_call n c call).tallies ≡ tally_next c call c.tallies
  unfolding after_call tally_next
  call-tallies c (line text reply store) = (line-edit n c text (length reply) (length store)).tallies
  call-tallies c (load bytes) = rw (loaded-by n c bytes) (go (eqb (load_number n bytes) 0) _ refl)
    where
      go : (b : Bool) (d : Card) → d.tallies ≡ no_tallies → (cond b d c).tallies ≡ cond b no_tallies c.tallies
      go true d e = e
      go false d e = refl
  call-tallies c (tick full code on) =
      by-tick-on n full c code (on c) (λ t. t.card.tallies ≡ cond t.answer.ran (tallied_by n (cell_named n full c (on c).levels) c.tallies) c.tallies)
      (λ e.
      let own = eqb-true code c.trigger e in
      ap (λ (b : Bool). (cond b (Tick.ticked_on n full c (on c)) (Tick.idle c)).card.tallies) (sym e)
      ∙ ((works-exactly n).own_on full c code (on c) own).tallies) (λ _. refl)

  call-good : (c : Card) (call : Call) → Good n c.tallies → Good n (after_call n c call).tallies
  unfolding tally_next
  call-good c call good = subst (Good n) (sym (call-tallies c call)) (go call)
    where
      either : (q : Bool) (t : Tallies) → Good n t → Good n (cond q t c.tallies)
      either true t h = h
      either false t h = good

      go : (call : Call) → Good n (tally_next c call c.tallies)
      go (line text reply store) = good
      go (load bytes) = either (eqb (load_number n bytes) 0) no_tallies (none-good n)
      go (tick full code on) = either (Tick.tick_on n full c code (on c)).answer.ran _ (good-next n (cell_named n full c (on c).levels) c.tallies good)

  -- something that is read off the tallies: nothing without a tick, and each tick below the standstill adds to it
  module _ (f : Tallies → ℕ) (more : PerTick) (none : f no_tallies ≡ 0)
      (adds : (full : Bool) (c : Card) (l : Lines) → Good n c.tallies → ltb (total_of c) standstill ≡ true
      → f (tallied_by n (cell_named n full c l.levels) c.tallies) ≡ f c.tallies + more full c l) where
    told : Tallies → Summed
    told t = record { ran = t.total.0; sum = f t }

    call-summed : (c : Card) (call : Call) → Good n c.tallies → told (after_call n c call).tallies ≡ sum_next n more c call (told c.tallies)
    unfolding told tally_next sum_next
    call-summed c call good = ap told (call-tallies c call) ∙ go call
      where
        loads : (b : Bool) → told (cond b no_tallies c.tallies) ≡ cond b nothing (told c.tallies)
        loads true = λ k. record { ran = 0; sum = none k }
        loads false = refl

        runs : (full : Bool) (l : Lines) (q b : Bool) → ltb (total_of c) standstill ≡ b
            → told (cond q (tallied_by n (cell_named n full c l.levels) c.tallies) c.tallies)
            ≡ cond (q && ltb (total_of c) standstill) (record { ran = total_of c + 1; sum = f c.tallies + more full c l }) (told c.tallies)
        runs full l true true e =
            (λ k. record { ran = total-on n (cell_named n full c l.levels) c.tallies good e k; sum = adds full c l good e k }) ∙ rw e
        runs full l true false e = ap told (tallied-off n (cell_named n full c l.levels) c.tallies e) ∙ rw e
        runs full l false b e = refl

        go : (call : Call) → told (tally_next c call c.tallies) ≡ sum_next n more c call (told c.tallies)
        go (line text reply store) = refl
        go (load bytes) = loads (eqb (load_number n bytes) 0)
        go (tick full code on) = runs full (on c) (Tick.tick_on n full c code (on c)).answer.ran (ltb (total_of c) standstill) refl

    list-summed : (calls : List Call) → f (end n (fresh_of n) calls).tallies ≡ summed n more calls
    unfolding told
    list-summed calls =
        let all = tracked-under (after_call n) (λ c. Good n c.tallies) call-good (λ c. told c.tallies) (sum_next n more) call-summed
        (fresh_of n) calls (none-good n) in
        let from : Summed → ℕ = λ s. (since (after_call n) (sum_next n more) (fresh_of n) calls s).sum in
        ap (λ (s : Summed). s.sum) all ∙ ap from (λ k. record { ran = 0; sum = none k })

  -- ---- lists

  pub every-list-tallied : EveryListTallied n
  unfolding EveryListTallied
  every-list-tallied calls =
      record {
        ran = list-summed (λ t. t.total.0) _ refl (λ full c l good e. total-on n (cell_named n full c l.levels) c.tallies good e) calls;
        times = λ i h. list-summed (λ t. tally_of t i) _ (none-at i)
            (λ full c l good e. grows n (cell_named n full c l.levels) c.tallies good e i h) calls;
        sums = list-summed (λ t. sum_of (tally_of t) n) _ (sum_same (tally_of no_tallies) (λ i. 0) n (λ i h. none-at i) ∙ sum-zero n)
            (λ full c l good e. sum_same _ _ n (λ i h. grows n (cell_named n full c l.levels) c.tallies good e i h)
            ∙ sum-adds (tally_of c.tallies) (cell_named n full c l.levels) n) calls;
        most = (invariant (after_call n) (λ c. Good n c.tallies) call-good (fresh_of n) calls (none-good n)).1;
      }

  pub who-is-named : WhoIsNamed n
  unfolding WhoIsNamed
  who-is-named calls full l i h =
      let c = end n (fresh_of n) calls in
      let cell = get_or c.cells i no_cell in
      let now = Tick.read_on n full c l.levels i cell.slots in
      let last = ap (λ (r : Readings). r cell.slots) (read-from-fresh n calls i (le_of_lt h)) in
      ap₂ (λ (e : Bool) (r : Slots). wakes cell.kind (state_of cell) e now r) (edited-from-fresh n calls i h) last

  pub grows-as-answered : GrowsAsAnswered n
  unfolding GrowsAsAnswered
  grows-as-answered c code l i h own below room =
      let exact = (works-exactly n).own_on false c code l own in
      let named = cell_named n false c l.levels in
      ap (λ (t : Tallies). tally_of t i) exact.tallies
      ∙ tallied-at n named c.tallies i h (lt-ltb (total_of c) standstill below)
      ∙ counted-below (named i) (get_or c.tallies.cells i (ticks 0)) room
      ∙ ap (λ (b : Bool). tally_of c.tallies i + bit_number b) (sym (exact.woken i h))
