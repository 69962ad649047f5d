-- `steady::steady_from` meets its contract.
use mathlib.Core.Path.{◌≡◌, sym, ap, ◌∙◌}
use mathlib.Core.Bool.{Bool, true, false, ◌&&◌}
use lib.Dec.{eqb}
use Rattle.steady.specs.Steady.{same_but}
use Rattle.steady.proofs.Cases.{steady_then, steady-else}
use Rattle.steady.proofs.steady_from.Goals as goal
use Rattle.steady.proofs.steady_from.Goals.{After-same_memory}

-- the test is that of the definition
test : (s : After-same_memory) (b : Bool) → let a = s.args in
    (eqb a.c.edited a.d.edited && s.same_memory.result) ≡ b → same_but a.c a.d ≡ b
unfolding same_but
test s b e =
    let a = s.args in
    ap (λ (q : Bool). eqb a.c.edited a.d.edited && q) (sym s.same_memory.ensures) ∙ e

pub returns-then-c-d : goal.returns-then-c-d
returns-then-c-d c =
    c.least_holds.ensures ∙ steady_then _ _ _ (test (goal.at.returns-then-c-d c).After-same_memory true c.if-c-d.true)

pub returns-else-c-d : goal.returns-else-c-d
returns-else-c-d c = steady-else _ _ _ (test (goal.at.returns-else-c-d c).After-same_memory false c.if-c-d.false)
