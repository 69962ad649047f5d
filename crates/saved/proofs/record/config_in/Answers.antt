-- `saved::record::config_in` meets its contract: after i turns the first i bytes are read.
use Prim.Native.Nat.{ℕ, ◌+◌, ◌*◌, ◌<◌, zero-le}
use mathlib.Core.Path.{◌≡◌, refl, ap, ◌∙◌}
use native.Mathlib.Omega.{arith}
use lib.ListN.{get_or, take, drop}
use borrow.Author.Rules.{rules}
use Rattle.saved.specs.Record.{big_value}
use Rattle.saved.proofs.Fields.{value-next, value-fits, value_room}
use Rattle.saved.proofs.record.config_in.Goals as goal

pub loop-i-init : goal.loop-i-init
unfolding big_value
loop-i-init c = (zero-le, refl, omega arith)

pub overflow_mul-v : goal.overflow_mul-v
overflow_mul-v c = omega (arith, value_room c.loop-i.v c.loop-i.i (search rules) c.loop-i.invariant.2)

pub overflow_cast-v : goal.overflow_cast-v
overflow_cast-v c = omega (arith, c.shared_slice_known-1.given (c.args.at + c.loop-i.i))

pub overflow_add-v-in-loop-i : goal.overflow_add-v-in-loop-i
overflow_add-v-in-loop-i c =
    let l = c.loop-i in
    let a = c.args in
    omega (arith, value_room l.v l.i (search rules) l.invariant.2, c.shared_slice_known-1.given (a.at + l.i))

pub loop-i-preserved : goal.loop-i-preserved
loop-i-preserved c =
    let l = c.loop-i in
    let a = c.args in
    let bytes = a.bytes.now in
    let byte : get_or bytes (a.at + l.i) 0 < 256 = omega (arith, c.shared_slice_known-1.given (a.at + l.i)) in (
      omega arith,
      ap (λ (v : ℕ). v * 256 + get_or bytes (a.at + l.i) 0) l.invariant.1 ∙ value-next bytes a.at l.i (search rules),
      value-fits l.v (get_or bytes (a.at + l.i) 0) l.i l.invariant.2 byte,
    )

pub returns : goal.returns
returns c =
    let l = c.loop-i in
    let a = c.args in
    let end : l.i ≡ a.width = omega arith in
    l.invariant.1 ∙ ap (λ (k : ℕ). big_value 0 (take k (drop a.at a.bytes.now))) end
