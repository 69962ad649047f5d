-- `ticks::connectors::driven_by` meets its contract: of the outputs that are not left the driven
-- word has the bits, and each turn takes the lowest.
use Prim.Native.Nat.{ℕ, ◌-◌, ◌<◌}
use mathlib.Core.Path.{◌≡◌, refl, sym, ap, ◌∙◌}
use mathlib.Core.Bool.{Bool, true, false, ◌&&◌, cond}
use mathlib.Core.List.{List}
use native.Mathlib.Omega.{arith}
use native.Mathlib.Nat.{lt_of_le_of_lt}
use lib.Bits.{bit_and, bit_or, and_le_l, and_le_r, or_lt}
use lib.Count.{count_trailing_zeros}
use lib.ListN.{get_or}
use borrow.Author.Rules.{rules}
use Rattle.words.specs.Bits.{bit_at, word_of, with_bit}
use Rattle.words.proofs.Laws.{bit-and, bit-or, built-lt, built-same}
use Rattle.words.proofs.Bools.{and_left}
use Rattle.card.specs.declared.card.Connectors.{Connectors}
use Rattle.card.specs.Address.{connector_count}
use Rattle.card.specs.Connectors.{is_output, kind_at, source_at}
use Rattle.card.proofs.ConnectorLaws.{kind-output}
use Rattle.ticks.specs.Reading.{reads}
use Rattle.ticks.specs.Levels.{driven_at, driven_word}
use Rattle.ticks.proofs.Drives.{taken_bit, taken_next, taken_none, taken-all}
use Rattle.ticks.proofs.Lowest.{Lowest, lowest, lowest_set, lowest-clear, lowest-other}
use Rattle.ticks.proofs.connectors.driven_by.Goals as goal
use Rattle.ticks.proofs.connectors.driven_by.Invariants.{driving}
use Rattle.ticks.proofs.connectors.driven_by.Goals.{After-is_high, In-loop-left}

-- what is no output drives nothing
idle : (now before : ℕ) (sources : List ℕ) (outputs k : ℕ) → bit_at outputs k ≡ false → driving now before sources outputs k ≡ false
idle now before sources outputs k e = ap (λ (b : Bool). b && reads (bit_at now) (bit_at before) (get_or sources k 0)) e

pub loop-left-init : goal.loop-left-init
loop-left-init c =
    let a = c.args in
    let outputs = bit_or a.connectors.push_pull a.connectors.open_drain in (
      search rules,
      taken_none connector_count (driving a.now a.before a.connectors.sources outputs) outputs
          (λ k h e. idle a.now a.before a.connectors.sources outputs k e),
      λ k e. e,
      or_lt connector_count a.connectors.push_pull a.connectors.open_drain (search rules) (search rules),
    )

-- the lowest of those that are left
lowest-left : (c : In-loop-left) → let w = c.loop-left.left in Lowest connector_count w (count_trailing_zeros connector_count w)
lowest-left c = lowest connector_count c.loop-left.left (omega (arith, c.loop-left-test.true)) c.loop-left.invariant.3

pub overflow_cast-k : goal.overflow_cast-k
overflow_cast-k c = record { fits = omega (arith, (lowest-left (goal.at.overflow_cast-k c).In-loop-left).within) }

pub bounds-sources-k : goal.bounds-sources-k
bounds-sources-k c = (lowest-left (goal.at.bounds-sources-k c).In-loop-left).within

pub with_set-driven-requires : goal.with_set-driven-requires
with_set-driven-requires c = omega (arith, (lowest-left (goal.at.with_set-driven-requires c).In-loop-left).within)

-- one is less left
less-left : (w : ℕ) → (w ≡ 0 → ⊥) → bit_and w (w - 1) < w
less-left w some = omega (arith, some, and_le_r w (w - 1))

pub loop-left-smaller-then-is_high : goal.loop-left-smaller-then-is_high
loop-left-smaller-then-is_high c = less-left _ c.loop-left-test.true

pub loop-left-smaller : goal.loop-left-smaller
loop-left-smaller c = less-left _ c.loop-left-test.true

-- what is still left was left
left-before : (w k : ℕ) → bit_at (bit_and w (w - 1)) k ≡ true → bit_at w k ≡ true
left-before w k e = and_left (bit_at w k) (bit_at (w - 1) k) (sym (bit-and w (w - 1) k) ∙ e)

-- the driven word after a turn, by whether the source is high
turn-of : (c : After-is_high) → (b : Bool) → c.is_high.result ≡ b
    → let l = c.loop-left in let a = c.args in
    let outputs = bit_or a.connectors.push_pull a.connectors.open_drain in let k = count_trailing_zeros connector_count l.left in
    cond b (with_bit l.driven k true) l.driven
    ≡ word_of (taken_bit connector_count (driving a.now a.before a.connectors.sources outputs) (bit_and l.left (l.left - 1))) connector_count
turn-of c b e =
    let l = c.loop-left in
    let a = c.args in
    let outputs = bit_or a.connectors.push_pull a.connectors.open_drain in
    let k = count_trailing_zeros connector_count l.left in
    let low : Lowest connector_count l.left k = lowest connector_count l.left (omega (arith, c.loop-left-test.true)) l.invariant.3 in
    let was = lowest_set connector_count l.left k low in
    let source = reads (bit_at a.now) (bit_at a.before) (get_or a.connectors.sources k 0) in
    let high : c.is_high.result ≡ driving a.now a.before a.connectors.sources outputs k =
    c.is_high.ensures (bit_at a.now) (bit_at a.before) c.quarters-q.ensures l.invariant.0
    ∙ sym (ap (λ (x : Bool). x && source) (l.invariant.2 k was)) in
    taken_next connector_count (driving a.now a.before a.connectors.sources outputs) l.left (bit_and l.left (l.left - 1)) k l.driven b
    low.within was (lowest-clear connector_count l.left k low) (lowest-other connector_count l.left k low) l.invariant.1 (sym e ∙ high)

pub loop-left-preserved-then-is_high : goal.loop-left-preserved-then-is_high
loop-left-preserved-then-is_high c =
    let l = c.loop-left in (
      l.invariant.0,
      c.with_set-driven.ensures ∙ turn-of (goal.at.loop-left-preserved-then-is_high c).After-is_high true c.if-is_high.true,
      λ k e. l.invariant.2 k (left-before l.left k e),
      lt_of_le_of_lt (and_le_l l.left (l.left - 1)) l.invariant.3,
    )

pub loop-left-preserved : goal.loop-left-preserved
loop-left-preserved c =
    let l = c.loop-left in (
      l.invariant.0,
      turn-of (goal.at.loop-left-preserved c).After-is_high false c.if-is_high.false,
      λ k e. l.invariant.2 k (left-before l.left k e),
      lt_of_le_of_lt (and_le_l l.left (l.left - 1)) l.invariant.3,
    )

pub overflow_cast-result : goal.overflow_cast-result
overflow_cast-result c = record { fits = rw c.loop-left.invariant.1 (built-lt _ connector_count) }

-- an output with a high source is driven high
drives : (now before : ℕ) (d : Connectors) (k : ℕ)
    → driving now before d.sources (bit_or d.push_pull d.open_drain) k ≡ driven_at (bit_at now) (bit_at before) d k
unfolding source_at
drives now before d k =
    ap (λ (b : Bool). b && reads (bit_at now) (bit_at before) (source_at d k)) (bit-or d.push_pull d.open_drain k ∙ sym (kind-output d k))
    ∙ go (is_output (kind_at d k))
  where
    go : (b : Bool) → (b && reads (bit_at now) (bit_at before) (source_at d k)) ≡ cond b (reads (bit_at now) (bit_at before) (source_at d k)) false
    go true = refl
    go false = refl

pub returns : goal.returns
unfolding driven_word
returns c =
    let l = c.loop-left in
    let a = c.args in
    let d = a.connectors in
    let f = driving a.now a.before d.sources (bit_or d.push_pull d.open_drain) in
    l.invariant.1 ∙ ap (λ (w : ℕ). word_of (taken_bit connector_count f w) connector_count) c.loop-left-test.false ∙ taken-all connector_count f
    ∙ built-same f (driven_at (bit_at a.now) (bit_at a.before) d) connector_count (λ k h. drives a.now a.before d k)
