-- `survey::start` meets its contract.
use Prim.Native.Nat.{◌*◌, ◌^◌}
use mathlib.Core.Path.{◌≡◌, ◌∙◌}
use mathlib.Core.Bool.{true}
use native.Mathlib.Omega.{arith}
use borrow.Author.Rules.{rules}
use borrow.Author.Tests.{eq-eqb, ne_eqb}
use Rattle.survey.specs.Rounds.{start_of}
use Rattle.words.proofs.Laws.{shifted}
use Rattle.survey.proofs.start.Goals as goal

pub returns-then-c-eq-PUSH_PULL : goal.returns-then-c-eq-PUSH_PULL
unfolding start_of
returns-then-c-eq-PUSH_PULL c = rw (eq-eqb _ _ c.if-c-eq-PUSH_PULL.true)

pub returns : goal.returns
unfolding start_of
returns c =
    let k = c.args.k in
    let one : 1 * 2 ^ k ≡ 2 ^ k = omega arith in
    rw (ne_eqb _ _ c.if-c-eq-PUSH_PULL.false) (shifted 16 k true (search rules) ∙ one)
