-- `ticks::tick::turn_each` meets its contract: after i turns the first i cells are those of the
-- definition, the words of outputs and of named cells hold their bits up to there, and the words
-- that addresses are read from are those of reader i.
use Prim.Native.Nat.{ℕ, ◌+◌, ◌^◌, ◌≤◌, ◌<◌, zero-le}
use mathlib.Core.Path.{◌≡◌, refl, sym, ap, subst, ◌∙◌}
use mathlib.Core.Bool.{Bool, false, not, ◌||◌, beq, true≢false}
use mathlib.Core.List.{List}
use native.Mathlib.Nat.{le_refl, lt_of_lt_of_le}
use native.Mathlib.Omega.{arith}
use lib.ListN
use lib.ListN.{get_or, length}
use lib.Pow.{pow_mono}
use borrow.Author.Rules.{rules}
use Rattle.words.specs.Bits.{bit_at, word_of}
use Rattle.words.specs.Listed.{listed}
use Rattle.words.proofs.Laws.{bit-built, built-same, built-of-bits, built-next, built-fits}
use Rattle.words.proofs.Listed.{behind-at, listed_kept, listed_next}
use Rattle.cells.specs.declared.cell.Cell.{Cell}
use Rattle.cells.specs.declared.reading.Seen.{Seen}
use Rattle.cells.specs.declared.work.Effect.{Effect}
use Rattle.cells.specs.State.{state_of, with_state}
use Rattle.cells.specs.Work.{looked_at, work_out}
use Rattle.cells.specs.Effect.{worked_by, StepsTo}
use Rattle.card.specs.Address.{cell_room}
use Rattle.card.specs.Fresh.{no_cell}
use Rattle.card.specs.declared.card.Card.{Card}
use Rattle.ticks.specs.declared.view.Wires.{Wires}
use Rattle.ticks.specs.Rest.{turned_to}
use Rattle.ticks.specs.Tick.{Turn, rules_name, outputs_below, turn_at, turn_of, turned, ran_with, sees_now, saw_last, saw_earlier, read_now, read_last}
use Rattle.ticks.specs.Words.{ReadsAs, MovesAs, shifted_at, Fits, FitsMemory}
use Rattle.ticks.proofs.Ticks.{outputs-built}
use Rattle.ticks.proofs.Turns.{after_of, outs_of, names_of, wokes_of, seated, up_to, as_long}
use Rattle.ticks.proofs.Turns.{step-named, step-cell, step-out, turn-woke, turn-same, words-kept}
use Rattle.ticks.proofs.Turns.{Halfway, halfway-start, halfway-kept, halfway-put, halfway-end, same_bit, flips-to, steady-at}
use Rattle.ticks.proofs.Sleep.{output-bit}
use Rattle.ticks.proofs.tick.turn_each.Goals as goal
use Rattle.ticks.proofs.tick.turn_each.Goals.{in-Slept, in-Same, in-Bit, in-Count, in-Timed, in-Counted, then-out-last, else-out-last, then-moved, else-moved, After-stepped-step, After-wires_of-w, At-loop-i, Joined-effect, Joined-moved, Joined-out-last, Start}

-- the number of cells is at most the room, and every cell word has that many bits
room : (c : Start) → c.args.n ≤ cell_room
room c = search rules

fits-memory : (c : Start) → FitsMemory c.args.n c.args.m
fits-memory c = search rules

fits-wires : (set : After-wires_of-w) → Fits set.args.n set.wires_of-w.result
fits-wires set = subst (λ (v : Wires). Fits set.args.n v) (sym set.wires_of-w.ensures) (fits-memory set.before)

within_word : (n w : ℕ) → n ≤ cell_room → w < 2 ^ n → w < 2 ^ 64
within_word n w h k = let l : n ≤ 64 = omega arith in lt_of_lt_of_le k (pow_mono l)

pub loop-i-init : goal.loop-i-init
unfolding listed word_of
loop-i-init c =
    let a = c.args in
    let wires = c.wires_of-w.result in
    let outs = outs_of a.n a.full a.card wires in
    let fits = fits-wires (goal.at.loop-i-init c).After-wires_of-w in (
      zero-le,
      refl,
      halfway-start outs (bit_at wires.outputs) a.n wires.outputs fits.0 (λ k h. refl),
      refl,
      c.seen_by-seen.ensures.reads a.n (room (goal.at.loop-i-init c).Start) fits.0 fits,
      c.seen_by-seen.ensures.moved a.n (room (goal.at.loop-i-init c).Start) fits.0 fits,
    )

pub overflow_cast-outputs : goal.overflow_cast-outputs
overflow_cast-outputs c =
    record { fits = within_word c.args.n _ (room (goal.at.overflow_cast-outputs c).Start) c.loop-i.invariant.2.0 }

pub noted-named-requires : goal.noted-named-requires
noted-named-requires c = record {
  i_bound = search rules;
  named_bound = built-fits _ c.loop-i.i _ c.loop-i.invariant.3;
}

-- the number of cells
abbrev count : At-loop-i → ℕ
count at = at.args.n

-- there is room for cells as the array in the card has entries
sixteen : (c : Start) → length c.args.card.cells ≡ cell_room
sixteen c = search (as_long, c.well_formed)

-- cell i is one of the cells
within : (at : At-loop-i) → at.loop-i.i < count at → at.loop-i.i < length at.args.card.cells
within at inside =
    omega (arith, sixteen at.before.before.before.before, room at.before.before.before.before, inside)

-- the cells so far
cells-so : (at : At-loop-i) → let a = at.args in
    at.loop-i.next.cells ≡ up_to a.n a.full a.card at.wires_of-w.result at.loop-i.i
cells-so at = ap (λ (c : Card). c.cells) at.loop-i.invariant.1

-- the turn of cell i in the definition is that of the cell and the outputs so far
turn-here : (at : At-loop-i) → at.loop-i.i < count at → let l = at.loop-i in
    let a = at.args in
    let wires = at.wires_of-w.result in
    turn_of a.n a.full a.card.cells a.card.edited wires l.i
    ≡ turn_at a.n a.full (get_or l.next.cells l.i no_cell) l.i a.card.edited wires l.outputs
turn-here at inside =
    let l = at.loop-i in
    let a = at.args in
    let wires = at.wires_of-w.result in
    let here = within at inside in
    let same = behind-at (after_of a.n a.full a.card wires) l.i a.card.cells l.next.cells no_cell (cells-so at) here in
    let below = outputs_below a.n a.full a.card.cells a.card.edited wires l.i in
    ap (λ (c : Cell). turn_at a.n a.full c l.i a.card.edited wires below) (sym same)
    ∙ turn-same a.n a.full (get_or l.next.cells l.i no_cell) l.i a.card.edited wires below l.outputs
    (λ k h. output-bit a.n a.full a.card.cells a.card.edited wires l.i k h ∙ sym (l.invariant.2.1 k h))

-- the step that the code took: whether the rules name cell i, and the cell and the output of its
-- effect, are those of the definition
pub record Taken (s : After-stepped-step) : Type 0 where
  pub names : (let a = s.args in
      s.stepped-step.result.named ≡ names_of a.n a.full a.card s.wires_of-w.result s.loop-i.i)
  pub cell : (let l = s.loop-i in
      let a = s.args in
      let wires = s.wires_of-w.result in
      let old : Cell = get_or l.next.cells l.i no_cell in
      (e : Effect) → s.stepped-step.result.effect ≡ e
      → with_state old (worked_by (state_of old) (bit_at wires.outputs l.i) e).state ≡ after_of a.n a.full a.card wires l.i)
  pub out : (let l = s.loop-i in
      let a = s.args in
      let wires = s.wires_of-w.result in
      let old : Cell = get_or l.next.cells l.i no_cell in
      (e : Effect) → s.stepped-step.result.effect ≡ e
      → (worked_by (state_of old) (bit_at wires.outputs l.i) e).out ≡ outs_of a.n a.full a.card wires l.i)

taken : (s : After-stepped-step) → Taken s
unfolding turn_at read_now read_last
taken s =
    let l = s.loop-i in
    let a = s.args in
    let wires = s.wires_of-w.result in
    let old : Cell = get_or l.next.cells l.i no_cell in
    let r = s.stepped-step.result in
    let now = read_now a.n l.i wires l.outputs old.slots in
    let last = read_last a.n l.i wires old.slots in
    let out = bit_at wires.outputs l.i in
    let was = bit_at a.card.edited l.i in
    let turn = turn-here s.before.before.before.before.before s.loop-i-test.true in
    let is = subst
    (λ (b : Bool). StepsTo r a.full (rules_name old b now last) (state_of old)
    (work_out old.kind old.config (state_of old) now) (looked_at old.kind now))
    s.bit-edited.ensures (s.stepped-step.ensures _ _ _ l.invariant.4 l.invariant.5) in
    record {
      names = sym (ap (λ (t : Turn). t.named) turn ∙ step-named a.full old was out now last r is);
      cell = λ e eq. sym (ap (λ (t : Turn). t.cell) turn ∙ step-cell a.full old was out now last r is
          ∙ ap (λ (x : Effect). with_state old (worked_by (state_of old) out x).state) eq);
      out = λ e eq. sym (ap (λ (t : Turn). t.out) turn ∙ step-out a.full old was out now last r is
          ∙ ap (λ (x : Effect). (worked_by (state_of old) out x).out) eq);
    }

-- the card with its cells one further: as it was, or with cell i put anew
kept-card : (at : At-loop-i) → let a = at.args in
    let all = up_to a.n a.full a.card at.wires_of-w.result (at.loop-i.i + 1) in
    at.loop-i.next.cells ≡ all → at.loop-i.next ≡ seated a.card all
kept-card at e =
    let card = at.args.card in
    at.loop-i.invariant.1 ∙ ap (seated card) (sym (cells-so at) ∙ e)

put-card : (at : At-loop-i) {cells : List Cell} → let a = at.args in
    let all = up_to a.n a.full a.card at.wires_of-w.result (at.loop-i.i + 1) in
    cells ≡ all → seated at.loop-i.next cells ≡ seated a.card all
put-card at {cells} e =
    let card = at.args.card in
    ap (λ (c : Card). seated c cells) at.loop-i.invariant.1 ∙ ap (seated card) e

-- after the match the cells and the output are those of the definition
Met : Joined-effect → Type 0
Met m =
    let l = m.loop-i in
    let a = m.args in
    let wires = m.wires_of-w.result in
    (m.match-effect.next ≡ seated a.card (up_to a.n a.full a.card wires (l.i + 1)))
    × (m.match-effect.out ≡ outs_of a.n a.full a.card wires l.i)

met : (m : Joined-effect) → Met m
unfolding Met
met m =
    let l = m.loop-i in
    let a = m.args in
    let wires = m.wires_of-w.result in
    let inside = m.loop-i-test.true in
    let after = after_of a.n a.full a.card wires in
    let at = m.before.before.before.before.before.before.before in
    let here = within at inside in
    let old : Cell = get_or l.next.cells l.i no_cell in
    let same = behind-at after l.i a.card.cells l.next.cells no_cell (cells-so at) here in
    let took = taken m.before.before in
    let made : (e : Effect) → Cell = λ e. with_state old (worked_by (state_of old) (bit_at wires.outputs l.i) e).state in
    let keep : old ≡ after l.i → l.next ≡ seated a.card (up_to a.n a.full a.card wires (l.i + 1)) = λ is.
    kept-card at (listed_kept after l.i a.card.cells l.next.cells no_cell (cells-so at) (sym same ∙ is) here) in
    let put : (e : Effect) → m.stepped-step.result.effect ≡ e
    → seated l.next (ListN.set l.next.cells l.i (made e)) ≡ seated a.card (up_to a.n a.full a.card wires (l.i + 1)) = λ e is.
    put-card at (listed_next after l.i a.card.cells l.next.cells (made e) no_cell (cells-so at) (took.cell e is) here) in
    let last = m.bit-last.ensures ∙ l.invariant.2.2 l.i (le_refl l.i) inside in
    elim m.match-effect.branch [
      | in-Slept w ↦ (w.next-is ∙ keep (took.cell _ w.in-Slept.is), w.out-is ∙ last ∙ took.out _ w.in-Slept.is)
      | in-Same w ↦ (w.next-is ∙ keep (took.cell _ w.in-Same.is), w.out-is ∙ took.out _ w.in-Same.is)
      | in-Bit w ↦ (w.next-is ∙ put _ w.in-Bit.is, w.out-is ∙ took.out _ w.in-Bit.is)
      | in-Count w ↦ (w.next-is ∙ put _ w.in-Count.is, w.out-is ∙ took.out _ w.in-Count.is)
      | in-Timed w ↦ (w.next-is ∙ put _ w.in-Timed.is, w.out-is ∙ took.out _ w.in-Timed.is)
      | in-Counted w ↦ (w.next-is ∙ put _ w.in-Counted.is, w.out-is ∙ took.out _ w.in-Counted.is)
    ]

-- what the turn of cell i made: the outputs are those of the definition, and readers above see of
-- it what readers up to it do unless it moved
Turned-on : Joined-out-last → Type 0
Turned-on j =
    let l = j.loop-i in
    let a = j.args in
    let wires = j.wires_of-w.result in
    let outs = outs_of a.n a.full a.card wires in
    Halfway outs (bit_at wires.outputs) a.n (l.i + 1) j.if-out-last.outputs
    × (j.if-out-last.moved ≡ false → (not (beq (outs l.i) (bit_at wires.outputs l.i)) || shifted_at l.i wires) ≡ false)

turned_on : (j : Joined-out-last) → Turned-on j
unfolding Turned-on Met
turned_on j =
    let l = j.loop-i in
    let a = j.args in
    let wires = j.wires_of-w.result in
    let inside = j.loop-i-test.true in
    let outs = outs_of a.n a.full a.card wires in
    let bit = j.bit-last.ensures in
    let last = l.invariant.2.2 l.i (le_refl l.i) inside in
    let shift = j.bit-moved.ensures ∙ j.shifted-shifted.ensures l.i in
    let out = (met j.before.before.before).1 in
    elim j.if-out-last.branch [
      | then-out-last w ↦
          let flip = flips-to j.match-effect.out j.bit-last.result w.if-out-last.true in (
            halfway-put outs _ a.n l.i l.outputs _ _ l.invariant.2 inside (ap not (sym bit) ∙ flip ∙ out) (w.outputs-is ∙ w.flipped-outputs.ensures),
            λ still. absurd (true≢false (sym w.moved-is ∙ still)),
          )
      | else-out-last w ↦
          let same = sym bit ∙ sym (same_bit j.match-effect.out j.bit-last.result w.if-out-last.false) ∙ out in (
            rw w.outputs-is (halfway-kept outs _ a.n l.i l.outputs l.invariant.2 same),
            λ still. steady-at _ _ _ (sym same ∙ last) (sym shift ∙ sym w.moved-is ∙ still),
          )
    ]

-- the words of the next reader: made anew, or still those
next-words : (c : Joined-moved) → let l = c.loop-i in
    let w = c.wires_of-w.result in
    ReadsAs c.if-moved.seen.reads (sees_now c.args.n (l.i + 1) w c.if-out-last.outputs) (saw_last c.args.n (l.i + 1) w)
    × MovesAs c.if-moved.seen.moved (sees_now c.args.n (l.i + 1) w c.if-out-last.outputs) (saw_last c.args.n (l.i + 1) w) (saw_earlier c.args.n (l.i + 1) w)
unfolding Turned-on
next-words c =
    let l = c.loop-i in
    let a = c.args in
    let wires = c.wires_of-w.result in
    let step = turned_on c.before in
    let set : After-wires_of-w = c.before.before.before.before.before.before.before.before.before.before.before.before.before.before in
    let start = set.before in
    let fits = fits-wires set in
    let outputs = c.if-out-last.outputs in
    let now = sees_now a.n (l.i + 1) wires outputs in
    let last = saw_last a.n (l.i + 1) wires in
    let earlier = saw_earlier a.n (l.i + 1) wires in
    elim c.if-moved.branch [
      | then-moved w ↦ (
        subst (λ (s : Seen). ReadsAs s.reads now last) (sym w.seen-is) (w.seen_by-seen-then-moved.ensures.reads a.n (room start) step.0.0 fits),
        subst (λ (s : Seen). MovesAs s.moved now last earlier) (sym w.seen-is) (w.seen_by-seen-then-moved.ensures.moved a.n (room start) step.0.0 fits),
      )
      | else-moved w ↦
          let kept = words-kept a.n l.i _ wires l.outputs outputs (step.1 w.if-moved.false)
          (λ k h. l.invariant.2.1 k h ∙ sym (step.0.1 k (omega arith))) (step.0.1 l.i (omega arith))
          l.seen.reads l.seen.moved l.invariant.4 l.invariant.5 in
          (subst (λ (s : Seen). ReadsAs s.reads now last) (sym w.seen-is) kept.0, subst (λ (s : Seen). MovesAs s.moved now last earlier) (sym w.seen-is) kept.1)
    ]

pub loop-i-preserved : goal.loop-i-preserved
unfolding Turned-on Met
loop-i-preserved c =
    let l = c.loop-i in
    let words = next-words (goal.at.loop-i-preserved c).Joined-moved in
    let more : l.i + 1 ≤ c.args.n = omega (arith, c.loop-i-test.true) in
    let names = built-next _ l.i l.named _ _ l.invariant.3 (taken (goal.at.loop-i-preserved c).After-stepped-step).names c.noted-named.ensures in
    (more, (met (goal.at.loop-i-preserved c).Joined-effect).0, (turned_on (goal.at.loop-i-preserved c).Joined-out-last).0, names, words.0, words.1)

pub woken_by-woken-requires : goal.woken_by-woken-requires
woken_by-woken-requires c = room (goal.at.woken_by-woken-requires c).Start

-- the word of the named cells has a bit for each cell
names-fit : (at : At-loop-i) → at.loop-i.i ≡ count at → at.loop-i.named < 2 ^ count at
names-fit at end = built-fits _ (count at) _ (rw end at at.loop-i.invariant.3)

pub overflow_cast-named : goal.overflow_cast-named
overflow_cast-named c =
    let end : c.loop-i.i ≡ c.args.n = omega arith in
    record { fits = lt_of_lt_of_le (names-fit (goal.at.overflow_cast-named c).At-loop-i end) (pow_mono (room (goal.at.overflow_cast-named c).Start)) }

pub returns : goal.returns
unfolding turned
returns c =
    let l = c.loop-i in
    let a = c.args in
    let wires = c.wires_of-w.result in
    let end : l.i ≡ a.n = omega arith in
    let outs = outs_of a.n a.full a.card wires in
    let names = names_of a.n a.full a.card wires in
    let wokes = wokes_of a.n a.full a.card wires in
    let next = rw end at l.invariant.1 in
    let outputs = halfway-end outs _ a.n l.outputs (rw end at l.invariant.2)
    ∙ sym (outputs-built a.n a.full a.card.cells a.card.edited wires a.n) in
    let named : l.named ≡ word_of names a.n = rw end at l.invariant.3 in
    let set-of = c.woken_by-woken.ensures in
    let bits = built-same (bit_at c.woken_by-woken.result) wokes a.n (λ k h.
    set-of.by_index k h ∙ ap (λ (b : Bool). a.full || b) (ap (λ (x : ℕ). bit_at x k) named ∙ bit-built names a.n k h)
    ∙ sym (turn-woke a.n a.full (get_or a.card.cells k no_cell) k a.card.edited wires
    (outputs_below a.n a.full a.card.cells a.card.edited wires k))) in
    let woken = sym (built-of-bits c.woken_by-woken.result a.n set-of.upper_bound) ∙ bits in
    c.ran_with.ensures a.n (room (goal.at.returns c).Start) (names-fit (goal.at.returns c).At-loop-i end)
    ∙ (λ k. ran_with a.n a.m (next k) a.l (turned_to (next k).cells (outputs k) (named k) (woken k)))
    ∙ ap (λ (v : Wires). ran_with a.n a.m a.card a.l (turned a.n a.full a.card.cells a.card.edited v)) c.wires_of-w.ensures
