-- `cells::step::step` meets its contract: in each arm the type is known, and antt computes the row;
-- the rest are past the table.
use Prim.Native.Nat.{ℕ, ◌≤◌}
use mathlib.Core.Path.{◌≡◌, refl, sym, ap, subst}
use mathlib.Core.Bool.{Bool, true, false, ◌||◌}
use native.Mathlib.Omega.{arith}
use borrow.Author.Tests.{ne_eqb}
use Rattle.cells.specs.declared.table.Row.{Row}
use Rattle.cells.specs.declared.table.Slots.{Slots}
use Rattle.cells.specs.declared.cell.State.{State}
use Rattle.cells.specs.declared.cell.Worked.{Worked}
use Rattle.cells.specs.declared.step.Stepped.{Stepped}
use Rattle.cells.specs.Table.{row_of, masked, level_slots, any_slot, type_count}
use Rattle.cells.specs.State.{state_of}
use Rattle.cells.specs.Reading.{slots_at}
use Rattle.cells.specs.Wake
use Rattle.cells.specs.Wake.{stirred_as, moved}
use Rattle.cells.specs.Work.{keeping, looked_at, work_as, work_out}
use Rattle.cells.specs.Effect.{StepsTo}
use Rattle.cells.proofs.Gates.{looked-and, looked-or}
use Rattle.cells.proofs.Rows.{past-table, missed}
use Rattle.cells.proofs.step.step.Goals as goal

-- a number that is known, and one past the table
at : (n k config : ℕ) (s : State) (r m : Slots) (full edited : Bool) (t : Stepped) → n ≡ k
    → StepsTo t full (edited || (Wake.stirred k s r || moved k m)) s (work_out k config s r) (looked_at k r)
    → StepsTo t full (edited || (Wake.stirred n s r || moved n m)) s (work_out n config s r) (looked_at n r)
at n k config s r m full edited t e h =
    subst (λ (j : ℕ). StepsTo t full (edited || (Wake.stirred j s r || moved j m)) s (work_out j config s r) (looked_at j r)) (sym e) h

or-none : (b : Bool) → b ≡ (b || false)
or-none true = refl
or-none false = refl

unless : {t : Stepped} {full edited : Bool} {s : State} {w : Worked} {k : ℕ} → StepsTo t full edited s w k → StepsTo t full (edited || false) s w k
unless {t} {full} {edited} {s} {w} {k} h = subst (λ (b : Bool). StepsTo t full b s w k) (or-none edited) h

at-past : (n config : ℕ) (s : State) (r m : Slots) (full edited : Bool) (t : Stepped) → type_count ≤ n → StepsTo t full edited s (keeping s false) 0
    → StepsTo t full (edited || (Wake.stirred n s r || moved n m)) s (work_out n config s r) (looked_at n r)
unfolding Wake.stirred stirred_as moved work_out work_as
at-past n config s r m full edited t past h =
    rw (ne_eqb n 10 (omega arith), ne_eqb n 11 (omega arith))
    (subst
    (λ (w : Row). StepsTo t full (edited || (stirred_as w.class s (masked w.used r) || any_slot (masked (level_slots w) m))) s
    (work_as w.class config s (masked w.used r)) 0) (sym (past-table n past)) (unless h))

-- what the work gives, by another name
as-worked : {full named : Bool} {s : State} {w v : Worked} {t : Stepped} {k : ℕ} → w ≡ v → StepsTo t full named s w k → StepsTo t full named s v k
as-worked {full} {named} {s} {w} {v} {t} {k} e h = subst (λ (u : Worked). StepsTo t full named s u k) e h

pub returns-in-0 : goal.returns-in-0
unfolding row_of Wake.stirred stirred_as moved work_out work_as
returns-in-0 c =
    let a = c.args in
    at _ 0 _ _ _ (slots_at a.seen.now.moved a.cell.slots) _ a.edited _ c.in-0.is (unless (c.fixed_step.ensures (state_of a.cell)))

pub returns-in-1 : goal.returns-in-1
unfolding row_of Wake.stirred stirred_as moved work_out work_as
returns-in-1 c =
    let a = c.args in
    at _ 1 _ _ _ (slots_at a.seen.now.moved a.cell.slots) _ a.edited _ c.in-1.is c.flop_step.ensures

pub returns-in-2 : goal.returns-in-2
unfolding row_of Wake.stirred stirred_as moved work_out work_as
returns-in-2 c =
    let a = c.args in
    at _ 2 _ _ _ (slots_at a.seen.now.moved a.cell.slots) _ a.edited _ c.in-2.is (c.gate_step.ensures (state_of a.cell))

pub returns-in-3 : goal.returns-in-3
unfolding row_of Wake.stirred stirred_as moved work_out work_as
returns-in-3 c =
    let a = c.args in
    at _ 3 _ _ _ (slots_at a.seen.now.moved a.cell.slots) _ a.edited _ c.in-3.is (c.gate_step-in-3.ensures (state_of a.cell))

pub returns-in-4 : goal.returns-in-4
unfolding row_of Wake.stirred stirred_as moved work_out work_as
returns-in-4 c =
    let a = c.args in
    at _ 4 _ _ _ (slots_at a.seen.now.moved a.cell.slots) _ a.edited _ c.in-4.is (c.gate_step-in-4.ensures (state_of a.cell))

pub returns-in-5 : goal.returns-in-5
unfolding row_of Wake.stirred stirred_as moved work_out work_as
returns-in-5 c =
    let a = c.args in
    at _ 5 _ _ _ (slots_at a.seen.now.moved a.cell.slots) _ a.edited _ c.in-5.is (c.gate_step-in-5.ensures (state_of a.cell))

pub returns-in-6 : goal.returns-in-6
unfolding row_of Wake.stirred stirred_as moved work_out work_as
returns-in-6 c =
    let a = c.args in
    at _ 6 _ _ _ (slots_at a.seen.now.moved a.cell.slots) _ a.edited _ c.in-6.is (c.gate_step-in-6.ensures (state_of a.cell))

pub returns-in-7 : goal.returns-in-7
unfolding row_of Wake.stirred stirred_as moved work_out work_as
returns-in-7 c =
    let a = c.args in
    at _ 7 _ _ _ (slots_at a.seen.now.moved a.cell.slots) _ a.edited _ c.in-7.is (c.gate_step-in-7.ensures (state_of a.cell))

pub returns-in-8 : goal.returns-in-8
unfolding row_of Wake.stirred stirred_as moved work_out work_as
returns-in-8 c =
    let a = c.args in
    at _ 8 _ _ _ (slots_at a.seen.now.moved a.cell.slots) _ a.edited _ c.in-8.is c.shot_step.ensures

pub returns-in-9 : goal.returns-in-9
unfolding row_of Wake.stirred stirred_as moved work_out work_as
returns-in-9 c =
    let a = c.args in
    at _ 9 _ _ _ (slots_at a.seen.now.moved a.cell.slots) _ a.edited _ c.in-9.is c.delay_step.ensures

pub returns-in-10 : goal.returns-in-10
unfolding row_of Wake.stirred stirred_as moved work_out work_as
returns-in-10 c =
    let a = c.args in
    let s = state_of a.cell in
    at _ 10 _ _ _ (slots_at a.seen.now.moved a.cell.slots) _ a.edited _ c.in-10.is (as-worked (ap (keeping s) (looked-and a.cell.config (slots_at a.seen.now.reads a.cell.slots))) (c.look_step.ensures s))

pub returns-in-11 : goal.returns-in-11
unfolding row_of Wake.stirred stirred_as moved work_out work_as
returns-in-11 c =
    let a = c.args in
    let s = state_of a.cell in
    at _ 11 _ _ _ (slots_at a.seen.now.moved a.cell.slots) _ a.edited _ c.in-11.is (as-worked (ap (keeping s) (looked-or a.cell.config (slots_at a.seen.now.reads a.cell.slots))) (c.look_step-in-11.ensures s))

pub returns-in-12 : goal.returns-in-12
unfolding row_of Wake.stirred stirred_as moved work_out work_as
returns-in-12 c =
    let a = c.args in
    at _ 12 _ _ _ (slots_at a.seen.now.moved a.cell.slots) _ a.edited _ c.in-12.is c.flop_step-in-12.ensures

pub returns-in-13 : goal.returns-in-13
unfolding row_of Wake.stirred stirred_as moved work_out work_as
returns-in-13 c =
    let a = c.args in
    at _ 13 _ _ _ (slots_at a.seen.now.moved a.cell.slots) _ a.edited _ c.in-13.is c.flop_step-in-13.ensures

pub returns-in-14 : goal.returns-in-14
unfolding row_of Wake.stirred stirred_as moved work_out work_as
returns-in-14 c =
    let a = c.args in
    at _ 14 _ _ _ (slots_at a.seen.now.moved a.cell.slots) _ a.edited _ c.in-14.is c.shot_step-in-14.ensures

pub returns-in-15 : goal.returns-in-15
unfolding row_of Wake.stirred stirred_as moved work_out work_as
returns-in-15 c =
    let a = c.args in
    at _ 15 _ _ _ (slots_at a.seen.now.moved a.cell.slots) _ a.edited _ c.in-15.is c.delay_step-in-15.ensures

pub returns-in-16 : goal.returns-in-16
unfolding row_of Wake.stirred stirred_as moved work_out work_as
returns-in-16 c =
    let a = c.args in
    at _ 16 _ _ _ (slots_at a.seen.now.moved a.cell.slots) _ a.edited _ c.in-16.is c.shot_step-in-16.ensures

pub returns-in-17 : goal.returns-in-17
unfolding row_of Wake.stirred stirred_as moved work_out work_as
returns-in-17 c =
    let a = c.args in
    at _ 17 _ _ _ (slots_at a.seen.now.moved a.cell.slots) _ a.edited _ c.in-17.is c.delay_step-in-17.ensures

pub returns-in-18 : goal.returns-in-18
unfolding row_of Wake.stirred stirred_as moved work_out work_as
returns-in-18 c =
    let a = c.args in
    at _ 18 _ _ _ (slots_at a.seen.now.moved a.cell.slots) _ a.edited _ c.in-18.is c.flop_step-in-18.ensures

pub returns-in-19 : goal.returns-in-19
unfolding row_of Wake.stirred stirred_as moved work_out work_as
returns-in-19 c =
    let a = c.args in
    at _ 19 _ _ _ (slots_at a.seen.now.moved a.cell.slots) _ a.edited _ c.in-19.is c.counter_step.ensures

pub returns-in-20 : goal.returns-in-20
unfolding row_of Wake.stirred stirred_as moved work_out work_as
returns-in-20 c =
    let a = c.args in
    at _ 20 _ _ _ (slots_at a.seen.now.moved a.cell.slots) _ a.edited _ c.in-20.is c.counter_step-in-20.ensures

pub returns-in-21 : goal.returns-in-21
unfolding row_of Wake.stirred stirred_as moved work_out work_as
returns-in-21 c =
    let a = c.args in
    at _ 21 _ _ _ (slots_at a.seen.now.moved a.cell.slots) _ a.edited _ c.in-21.is c.counter_step-in-21.ensures

pub returns-in-22 : goal.returns-in-22
unfolding row_of Wake.stirred stirred_as moved work_out work_as
returns-in-22 c =
    let a = c.args in
    at _ 22 _ _ _ (slots_at a.seen.now.moved a.cell.slots) _ a.edited _ c.in-22.is c.counter_step-in-22.ensures

pub returns-in_default : goal.returns-in_default
returns-in_default c =
    let a = c.args in
    let s = state_of a.cell in
    at-past a.cell.kind a.cell.config s (slots_at a.seen.now.reads a.cell.slots) (slots_at a.seen.now.moved a.cell.slots) a.full a.edited _
    (missed _ type_count c.in_default.in_default-own.rest) (c.fixed_step-in_default.ensures s)
