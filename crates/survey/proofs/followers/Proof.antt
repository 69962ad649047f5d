-- `survey::followers` meets its contract: after j turns the word has the first j connectors.
use Prim.Native.Nat.{ℕ, ◌-◌, ◌≤◌, zero-le}
use mathlib.Core.Path.{◌≡◌, refl, ap, ◌∙◌}
use mathlib.Core.Bool.{Bool}
use native.Mathlib.Omega.{arith}
use borrow.Author.Rules.{rules}
use Rattle.words.specs.Bits.{bit_at, word_of}
use Rattle.words.proofs.Laws.{built-next, built-fits}
use Rattle.card.specs.Address.{connector_count}
use Rattle.card.specs.Connectors.{connector_at}
use Rattle.survey.specs.Survey.{driven_from}
use Rattle.survey.proofs.followers.Statement.{statement}
use Rattle.survey.proofs.followers.Tie as tie

abbrev invariant-loop : tie.invariant-loop-j
invariant-loop connectors set w₀ j₀ w j = (j ≤ connector_count) × (w ≡ word_of (λ j. driven_from (bit_at set) (connector_at connectors j)) j)

abbrev decreases-loop : tie.decreases-loop-j
decreases-loop connectors set w₀ j₀ w j = connector_count - j

loop-holds : tie.Need-loop-j-init invariant-loop decreases-loop
unfolding word_of
loop-holds c = (zero-le, refl)

pushed-requires : tie.Need-pushed-w-requires invariant-loop decreases-loop
pushed-requires c κs = (search rules, built-fits _ _ _ c.loop-j.invariant.1)

loop-again : tie.Need-loop-j-preserved invariant-loop decreases-loop
loop-again c =
    let l = c.loop-j in
    let a = c.args in
    let f : ℕ → Bool = λ j. driven_from (bit_at a.set) (connector_at a.connectors j) in (
      omega arith,
      built-next f l.j l.w _ _ l.invariant.1 (c.driven_from-b.ensures ∙ ap (driven_from (bit_at a.set))
          c.connector_at.ensures) c.pushed-w.ensures,
    )

cast-result : tie.Need-overflow_cast-result invariant-loop decreases-loop
cast-result c =
    let l = c.loop-j in
    let end : l.j ≡ connector_count = omega arith in
    record { fits = built-fits _ connector_count _ (rw end at l.invariant.1) }

returns : tie.Need-returns invariant-loop decreases-loop
returns c =
    let l = c.loop-j in
    let end : l.j ≡ connector_count = omega arith in
    rw end at l.invariant.1

pub followers_spec : {M : Type 1} → statement M
followers_spec =
    tie.close
    (tie.spec
    invariant-loop
    decreases-loop
    loop-holds
    (λ c κs. search rules)
    (λ c κs. search rules)
    pushed-requires
    (λ c. search rules)
    (λ c. search rules)
    loop-again
    cast-result
    returns)
