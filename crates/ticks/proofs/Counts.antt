-- The count of an answer is at most the number of cells: what a caller needs to print it.
use Prim.Native.Nat.{ℕ, zero, suc, ◌+◌, ◌≤◌, zero-le}
use mathlib.Core.Bool.{Bool, true, false}
use native.Mathlib.Omega.{arith}
use Rattle.words.specs.Bits.{bit_number, count_of}
use Rattle.card.specs.declared.card.Card.{Card}
use Rattle.ticks.specs.declared.view.Input.{Input}
use Rattle.ticks.specs.Tick.{woke_at, wires_of, lines, tick}
use Rattle.ticks.proofs.Cases.{by-tick}
use Rattle.ticks.proofs.Sleep.{count-is}

count-le : (f : ℕ → Bool) (n : ℕ) → count_of f n ≤ n
unfolding count_of
count-le f zero = zero-le
count-le f (suc n) = go (f n) (count-le f n)
  where
    go : (b : Bool) → count_of f n ≤ n → count_of f n + bit_number b ≤ suc n
    go true h = omega arith
    go false h = omega arith

pub tick-count : (n : ℕ) (full : Bool) (c : Card) (input : Input) → (tick n full c input).answer.count ≤ n
tick-count n full c input =
    let w = wires_of c.memory (lines n c input).levels in
    by-tick n full c input (λ t. t.answer.count ≤ n)
    (λ _. rw (count-is n full c.cells c.edited w) (count-le (woke_at n full c.cells c.edited w) n)) (λ _. zero-le)
