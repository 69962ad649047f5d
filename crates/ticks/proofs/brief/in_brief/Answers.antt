-- `ticks::brief::in_brief` meets its contract: the lines are the card's own, and where the tests of
-- the fast path hold its law says what the tick comes to.
use Prim.Native.Nat.{ℕ, ◌^◌, ◌≤◌, ◌<◌}
use mathlib.Core.Path.{◌≡◌, sym, ap, subst, ◌∙◌}
use mathlib.Core.Bool.{false, true, false≢true}
use native.Mathlib.Omega.{arith}
use lib.ListN.{length}
use borrow.Author.Tests.{eqb-true, not-false}
use Rattle.words.proofs.Bools.{or_left}
use Rattle.card.specs.declared.card.Memory.{Memory}
use Rattle.card.specs.Address.{cell_room}
use Rattle.ticks.specs.declared.brief.Brief.{Brief}
use Rattle.ticks.specs.declared.view.Wires.{Wires}
use Rattle.ticks.specs.Levels.{effective_sample}
use Rattle.ticks.specs.Rest.{slept_all}
use Rattle.ticks.specs.Tick.{lines_in, lines, turned}
use Rattle.ticks.specs.Words.{FitsMemory}
use Rattle.ticks.specs.Brief.{BriefOf}
use Rattle.ticks.proofs.Asleep.{brief-tick}
use Rattle.ticks.proofs.Trim.{trim-fits, lines-trim}
use Rattle.ticks.proofs.Turns.{as_long}
use Rattle.ticks.proofs.brief.in_brief.Goals as goal
use Rattle.ticks.proofs.brief.in_brief.Goals.{After-lines_in-l, After-seen_memory-m, Start}

fits : (s : After-seen_memory-m) → FitsMemory s.cells_for-n.result s.seen_memory-m.result
fits s =
    let n = s.cells_for-n.result in
    subst (λ (v : Memory). FitsMemory n v) (sym s.seen_memory-m.ensures) (trim-fits n s.args.card.memory)

own-lines : (l : After-lines_in-l)
    → l.lines_in-l.result ≡ lines l.cells_for-n.result l.args.card l.args.input
own-lines l =
    let a = l.args in
    let n = l.cells_for-n.result in
    let sample = effective_sample a.input.sample a.input.attached in
    l.lines_in-l.ensures n l.cells_for-n.ensures.upper_bound (fits l.before.before)
    ∙ ap (λ (v : Memory). lines_in n v a.card.connectors sample) l.seen_memory-m.ensures
    ∙ lines-trim n a.card.memory a.card.connectors sample

tallies-long : (c : Start) → length c.args.card.tallies.cells ≡ cell_room
tallies-long c = search as_long

pub returns-then-card-unchanged : goal.returns-then-card-unchanged
returns-then-card-unchanged c =
    let a = c.args in
    subst (λ (n : ℕ). BriefOf n a.card a.input c.slept.result) c.cells_for-n.ensures.value
    (subst (λ (b : Brief). BriefOf c.cells_for-n.result a.card a.input b) (sym c.slept.ensures)
    (record { lines = own-lines (goal.at.returns-then-card-unchanged c).After-lines_in-l; quiet = λ e. absurd (false≢true e) }))

pub is_quiet-quiet-requires : goal.is_quiet-quiet-requires
is_quiet-quiet-requires c =
    let n = c.cells_for-n.result in record {
      n_le_cell_room = c.cells_for-n.ensures.upper_bound;
      outputs_bound = subst (λ (v : Wires). v.outputs < 2 ^ n) (sym c.wires_of-w.ensures) (fits (goal.at.is_quiet-quiet-requires c).After-seen_memory-m).0;
    }

pub returns : goal.returns
returns c =
    let a = c.args in
    let n = c.cells_for-n.result in
    let edited : a.card.edited ≡ 0 = eqb-true _ _ (not-false _ (or_left _ _ c.if-card-unchanged.false)) in
    let room : n ≤ length a.card.tallies.cells = omega (arith, c.cells_for-n.ensures.upper_bound, tallies-long (goal.at.returns c).Start) in
    let slept : c.is_quiet-quiet.result ≡ true → _ = λ h.
    sym (ap (λ (v : Wires). turned n false a.card.cells a.card.edited v) c.wires_of-w.ensures)
    ∙ c.is_quiet-quiet.ensures.w_value h
    ∙ ap (λ (v : Wires). slept_all a.card.cells v.outputs) c.wires_of-w.ensures in
    subst (λ (k : ℕ). BriefOf k a.card a.input c.slept-2.result) c.cells_for-n.ensures.value
    (subst (λ (b : Brief). BriefOf n a.card a.input b) (sym c.slept-2.ensures)
    (record {
      lines = own-lines (goal.at.returns c).After-lines_in-l;
      quiet = λ h. brief-tick n a.card c.seen_memory-m.result c.lines_in-l.result c.seen_memory-m.ensures edited room (slept h);
    }))
