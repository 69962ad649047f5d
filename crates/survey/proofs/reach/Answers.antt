-- `survey::reach` meets its contract: after each turn the two words are those of some number of rounds, and the loop ends where a round adds nothing.
use Prim.Native.Nat.{ℕ, zero, suc, ◌^◌, ◌≤◌, ◌<◌}
use mathlib.Core.Path.{◌≡◌, refl, sym, ap, ◌∙◌}
use mathlib.Core.Bool.{Bool, true, false, ◌&&◌}
use mathlib.Core.List.{List}
use native.Mathlib.Nat.{lt_of_lt_of_le}
use native.Mathlib.Omega.{arith}
use lib.Bits.{bit_or}
use lib.Dec.{eqb}
use lib.Pow.{pow_mono}
use borrow.Author.Rules.{rules}
use borrow.Author.Tests.{eqb-true, eqb-false}
use Rattle.cells.specs.declared.cell.Cell.{Cell}
use Rattle.words.proofs.Bools.{and_left, and_right}
use Rattle.card.specs.declared.card.Connectors.{Connectors}
use Rattle.card.specs.Address.{cell_room, connector_count}
use Rattle.survey.specs.Rounds.{rounds}
use Rattle.survey.proofs.Smallest.{or-ge, rounds-fit, round-cells, round-lines, settled-smallest, readers-seen, followers-seen}
use Rattle.survey.proofs.reach.Goals as goal
use Rattle.survey.proofs.reach.Invariants.{After, left}

fit-cells : (n : ℕ) (cs : List Cell) (ds : Connectors) (k m x y : ℕ) → n ≤ cell_room → k < connector_count → After n cs ds k m x y → x < 2 ^ n
fit-cells n cs ds k m x y small inside at = rw at.0 (rounds-fit n cs ds k m inside).0

fit-lines : (n : ℕ) (cs : List Cell) (ds : Connectors) (k m x y : ℕ) → k < connector_count → After n cs ds k m x y → y < 65536
fit-lines n cs ds k m x y inside at = rw at.1 (rounds-fit n cs ds k m inside).1

less : (x y x' y' : ℕ) → x ≤ x' → y ≤ y' → x < 4294967296 → y < 65536 → (eqb x' x && eqb y' y) ≡ false → left x' y' < left x y
less x y x' y' hx hy fx fy e = go (eqb x' x) refl e
  where
    go : (b : Bool) → eqb x' x ≡ b → (b && eqb y' y) ≡ false → left x' y' < left x y
    go true p q =
        let ne = eqb-false y' y q in
        let lt : y < y' = omega arith in
        omega arith
    go false p q =
        let ne = eqb-false x' x p in
        let lt : x < x' = omega arith in
        omega arith

pub loop-found-init : goal.loop-found-init
unfolding rounds
loop-found-init c = (zero, (refl, rw c.connector_at.ensures at c.start-lines.ensures))

pub returns-then-more-found : goal.returns-then-more-found
returns-then-more-found c =
    let l = c.loop-found in
    let a = c.args in
    let at = l.invariant.1 in
    let short = fit-cells a.n a.cells a.connectors a.k l.invariant.0 l.found l.lines (search rules) (search rules) at in
    let set = c.sees-set.ensures a.n (search rules) short short in
    let r = readers-seen a.n a.cells a.connectors l.found l.lines _ _ set c.readers.ensures in
    let f = followers-seen a.n a.cells a.connectors l.found l.lines _ _ set c.followers.ensures in
    let more = bit_or l.found c.readers.result in
    let further = bit_or l.lines c.followers.result in
    settled-smallest a.n a.cells a.connectors a.k l.invariant.0 l.found l.lines (search rules) (search rules) at.0 at.1
    (ap (bit_or l.found) (sym r) ∙ eqb-true more l.found (and_left (eqb more l.found) (eqb further l.lines) c.if-more-found.true))
    (ap (bit_or l.lines) (sym f) ∙ eqb-true further l.lines (and_right (eqb more l.found) (eqb further l.lines) c.if-more-found.true))

pub loop-found-smaller : goal.loop-found-smaller
loop-found-smaller c =
    let l = c.loop-found in
    let a = c.args in
    let at = l.invariant.1 in
    let small : a.n ≤ cell_room = search rules in
    let short = fit-cells a.n a.cells a.connectors a.k l.invariant.0 l.found l.lines small (search rules) at in
    less l.found l.lines _ _ (or-ge l.found _) (or-ge l.lines _) (lt_of_lt_of_le short (pow_mono small))
    (fit-lines a.n a.cells a.connectors a.k l.invariant.0 l.found l.lines (search rules) at) c.if-more-found.false

pub loop-found-preserved : goal.loop-found-preserved
loop-found-preserved c =
    let l = c.loop-found in
    let a = c.args in
    let at = l.invariant.1 in
    let short = fit-cells a.n a.cells a.connectors a.k l.invariant.0 l.found l.lines (search rules) (search rules) at in
    let set = c.sees-set.ensures a.n (search rules) short short in
    let r = readers-seen a.n a.cells a.connectors l.found l.lines _ _ set c.readers.ensures in
    let f = followers-seen a.n a.cells a.connectors l.found l.lines _ _ set c.followers.ensures in (
      suc l.invariant.0,
      (
        round-cells a.n a.cells a.connectors a.k l.invariant.0 l.found l.lines _ at.0 at.1 r,
        round-lines a.n a.cells a.connectors a.k l.invariant.0 l.found l.lines _ at.0 at.1 f,
      ),
    )
