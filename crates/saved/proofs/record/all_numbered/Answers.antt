-- `saved::record::all_numbered` meets its contract: after i turns the first i fields are tested.
use Prim.Native.Nat.{ℕ, ◌+◌, ◌*◌, ◌≤◌, ◌<◌, zero-le}
use mathlib.Core.Path.{◌≡◌, refl, sym, ap, ap₂, ◌∙◌}
use mathlib.Core.Bool.{◌&&◌}
use native.Mathlib.Nat.{mul-le-mul_right, suc-mul}
use native.Mathlib.Omega.{arith}
use lib.ListN.{length}
use Rattle.words.specs.Listed.{listed}
use Rattle.text.specs.Digits.{every}
use Rattle.saved.specs.Headers.{every_below}
use Rattle.saved.proofs.Headers.{every-next}
use Rattle.saved.proofs.record.all_numbered.Goals as goal
use Rattle.saved.proofs.record.all_numbered.Invariants.{test}

-- its head and its number lie within the bytes
room : (i count step start n : ℕ) → i < count → start + count * step ≤ n → 4 ≤ step → start + i * step + 4 ≤ n
room i count step start n h fits long = omega (arith, mul-le-mul_right step h, suc-mul i step)

pub loop-i-init : goal.loop-i-init
unfolding every listed
loop-i-init c = (zero-le, refl)

pub overflow_mul-at : goal.overflow_mul-at
overflow_mul-at c =
    let l = c.loop-i in
    let a = c.args in
    let p = c.requires in
    let inside = room l.i a.count a.step a.start (length a.bytes.now) (omega arith) p.0 p.1 in
    omega (arith, inside)

pub overflow_add-at : goal.overflow_add-at
overflow_add-at c =
    let l = c.loop-i in
    let a = c.args in
    let p = c.requires in
    let inside = room l.i a.count a.step a.start (length a.bytes.now) (omega arith) p.0 p.1 in
    omega (arith, inside)

pub numbered_at-v-requires : goal.numbered_at-v-requires
numbered_at-v-requires c =
    let l = c.loop-i in
    let a = c.args in
    let p = c.requires in
    room l.i a.count a.step a.start (length a.bytes.now) (omega arith) p.0 p.1

pub loop-i-preserved : goal.loop-i-preserved
loop-i-preserved c =
    let l = c.loop-i in
    let a = c.args in
    let f = test a.bytes.now a.start a.step a.tag a.size a.first in
    (omega arith, ap₂ ◌&&◌ l.invariant.1 c.numbered_at-v.ensures ∙ sym (every-next f l.i))

pub returns : goal.returns
returns c =
    let l = c.loop-i in
    let a = c.args in
    let end : l.i ≡ a.count = omega arith in
    l.invariant.1 ∙ ap (every_below (test a.bytes.now a.start a.step a.tag a.size a.first)) end
