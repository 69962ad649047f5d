-- `survey::readers` meets its contract: after i turns the word has the first i cells.
use Prim.Native.Nat.{ℕ, ◌-◌, ◌^◌, ◌≤◌, ◌<◌, zero-le}
use mathlib.Core.Path.{◌≡◌, refl}
use mathlib.Core.Bool.{Bool}
use native.Mathlib.Nat.{lt_of_lt_of_le}
use native.Mathlib.Omega.{arith}
use lib.ListN.{get_or}
use lib.Pow.{pow_mono}
use borrow.Author.Rules.{rules}
use Rattle.words.specs.Bits.{bit_at, word_of}
use Rattle.words.proofs.Laws.{built-next, built-fits}
use Rattle.card.specs.Address.{cell_room}
use Rattle.card.specs.Fresh.{no_cell}
use Rattle.survey.specs.Survey.{reads_set}
use Rattle.survey.proofs.readers.Statement.{statement}
use Rattle.survey.proofs.readers.Tie as tie

abbrev invariant-loop : tie.invariant-loop-i
invariant-loop set n cells w₀ i₀ end w i = (i ≤ n) × (w ≡ word_of (λ i. reads_set (bit_at set) (get_or cells i no_cell)) i)

abbrev decreases-loop : tie.decreases-loop-i
decreases-loop set n cells w₀ i₀ end w i = n - i

-- no word of n bits is longer than 32
in-32 : (f : ℕ → Bool) (i n w : ℕ) → i ≤ n → n ≤ cell_room → w ≡ word_of f i → w < 2 ^ 32
in-32 f i n w h small e =
    let short : i ≤ cell_room = omega arith in
    lt_of_lt_of_le (built-fits f i w e) (pow_mono short)

loop-holds : tie.Need-loop-i-init invariant-loop decreases-loop
unfolding word_of
loop-holds c = (zero-le, refl)

pushed-requires : tie.Need-pushed-w-requires invariant-loop decreases-loop
pushed-requires c κs = (search rules, built-fits _ _ _ c.loop-i.invariant.1)

loop-again : tie.Need-loop-i-preserved invariant-loop decreases-loop
loop-again c =
    let l = c.loop-i in
    let a = c.args in
    let f : ℕ → Bool = λ i. reads_set (bit_at a.set) (get_or a.cells i no_cell) in
    (omega arith, built-next f l.i l.w _ _ l.invariant.1 c.reads_set-b.ensures c.pushed-w.ensures)

cast-result : tie.Need-overflow_cast-result invariant-loop decreases-loop
cast-result c =
    let l = c.loop-i in
    record { fits = in-32 _ l.i c.args.n l.w l.invariant.0 (search rules) l.invariant.1 }

returns : tie.Need-returns invariant-loop decreases-loop
returns c =
    let l = c.loop-i in
    let end : l.i ≡ c.args.n = omega arith in
    rw end at l.invariant.1

pub readers_spec : {M : Type 1} → statement M
readers_spec =
    tie.close
    (tie.spec
    invariant-loop
    decreases-loop
    loop-holds
    (λ c. search rules)
    (λ c. search rules)
    (λ c. search rules)
    (λ c κs. search rules)
    pushed-requires
    (λ c. search rules)
    (λ c. search rules)
    loop-again
    cast-result
    returns)
