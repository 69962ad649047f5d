-- `text::put_decimal` meets its contract, by recursion on the digits: the call writes all but the last.
use mathlib.Core.Path.{◌≡◌, sym, ap, ◌∙◌}
use mathlib.Core.List.{List, [], ◌∷◌}
use native.Mathlib.Nat.{add-zero}
use native.Mathlib.Omega.{arith}
use lib.ListN.{length, length-append}
use lib.Seq.{sets}
use Rattle.text.proofs.Stores.{sets-append}
use Rattle.text.proofs.DecimalLaws.{upper, upper-none, upper-more, upper-length, decimal-last}
use Prim.Native.Nat.{ℕ, ◌+◌, ◌%◌, ◌<◌}
use Rattle.text.proofs.+put_decimal.Goals as goal
use Rattle.text.proofs.+put_decimal.Goals.{Joined-n-ge10, then-n-ge10, else-n-ge10}

-- where the branches meet all digits but the last are written
so_far : (t : ℕ) (c : Joined-n-ge10 t)
    → (c.if-n-ge10.out ≡ sets c.args.out.now c.args.at (upper c.args.n)) × (c.if-n-ge10.place ≡ c.args.at + length (upper c.args.n))
so_far t c =
    let a = c.args in
    elim c.if-n-ge10.branch [
      | then-n-ge10 w ↦
          let u = sym (upper-more a.n w.if-n-ge10.true) in (
            w.out-is ∙ w.put_decimal-place.ensures.out_after ∙ ap (sets a.out.now a.at) u,
            w.place-is ∙ w.put_decimal-place.ensures.value ∙ ap (λ (ds : List ℕ). a.at + length ds) u,
          )
      | else-n-ge10 w ↦
          let u = sym (upper-none a.n w.if-n-ge10.false) in
          (w.out-is ∙ ap (sets a.out.now a.at) u, w.place-is ∙ sym (add-zero a.at) ∙ ap (λ (ds : List ℕ). a.at + length ds) u)
    ]

-- and the last has its place
place_within : (t : ℕ) (c : Joined-n-ge10 t) → c.if-n-ge10.place < length c.args.out.now
place_within t c = omega (arith, (so_far t c).1, upper-length c.args.n (omega arith))

pub bounds-out-place : goal.bounds-out-place
bounds-out-place t c =
    let within = place_within t (goal.at.bounds-out-place t c).Joined-n-ge10 in
    omega (arith, within, c.if-n-ge10.auto.out)

pub overflow_add-result : goal.overflow_add-result
overflow_add-result t c = omega (arith, place_within t (goal.at.overflow_add-result t c).Joined-n-ge10)

pub returns-clause-out_after : goal.returns-clause-out_after
returns-clause-out_after t c =
    let a = c.args in
    let last = 48 + a.n % 10 in
    let f = so_far t (goal.at.returns-clause-out_after t c).Joined-n-ge10 in
    rw (f.0, f.1) (sets-append a.out.now a.at (upper a.n) (last ∷ []) ∙ ap (sets a.out.now a.at) (sym (decimal-last a.n)))

pub returns-clause-value : goal.returns-clause-value
returns-clause-value t c =
    let a = c.args in
    let f = so_far t (goal.at.returns-clause-value t c).Joined-n-ge10 in
    omega (arith, f.1, ap length (decimal-last a.n) ∙ length-append (upper a.n) ((48 + a.n % 10) ∷ []))
