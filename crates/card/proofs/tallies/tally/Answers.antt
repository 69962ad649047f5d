-- `card::tallies::tally` meets its contract: before each turn the cells below i are counted, and `left` is what is left of the word of those that may.
use Rattle.std.proofs.Common.{◌≡◌, ℕ, ◌+◌, ◌^◌, ◌<◌, List, map, length, sym, refl, ◌∙◌, subst, zero-le, div-one, rules}
use lib.ListN.{length-map}
use Rattle.words.specs.Listed.{listed}
use Rattle.card.specs.Address.{cell_room}
use Rattle.card.proofs.TallyLaws.{CountedTo, next-within, next-counted, all-tallied}
use Rattle.card.proofs.tallies.tally.Goals as goal
use Rattle.card.proofs.tallies.tally.Goals.{After-lowest-k, At-loop-left}

as_long : (X Y : Type 0) (g : X → Y) (l : List X) (n : ℕ) → length (map g l) ≡ n → length l ≡ n
as_long X Y g l n e = sym (length-map l g) ∙ e

-- the word has a bit for each cell, and there are as many tallies
fits : (at : At-loop-left) → at.counting-c.result.named < 2 ^ cell_room
fits at = at.counting-c.ensures.named_value.1

room : (at : At-loop-left) → length at.args.t.cells ≡ cell_room
room at = search (as_long, at.well_formed)

-- the next named cell is one of the card's
here : (c : After-lowest-k) → c.loop-left.i + c.lowest-k.result < cell_room
here c =
    next-within _ _ (fits c.before.before) (room c.before.before) _ _ _ _ c.loop-left.invariant.0 c.lowest-k.ensures.0

pub loop-left-init : goal.loop-left-init
unfolding listed
loop-left-init c = (record { within = zero-le; rest = sym (div-one _); so_far = refl }, refl)

pub bounds-next-at : goal.bounds-next-at
bounds-next-at c = search (rules, here (goal.at.bounds-next-at c).After-lowest-k)

pub bounds-next-at-in-loop-left : goal.bounds-next-at-in-loop-left
bounds-next-at-in-loop-left c = search (rules, here (goal.at.bounds-next-at-in-loop-left c).After-lowest-k)

pub overflow_shr-left : goal.overflow_shr-left
overflow_shr-left c = search (rules, here (goal.at.overflow_shr-left c).After-lowest-k)

pub loop-left-smaller : goal.loop-left-smaller
loop-left-smaller c = search (rules, here (goal.at.loop-left-smaller c).After-lowest-k)

pub loop-left-preserved : goal.loop-left-preserved
loop-left-preserved c =
    let l = c.loop-left in
    (next-counted _ _ (fits (goal.at.loop-left-preserved c).At-loop-left) (room (goal.at.loop-left-preserved c).At-loop-left) _ _ _ _ _ l.invariant.0 c.lowest-k.ensures.0 c.counted.ensures, l.invariant.1)

pub returns : goal.returns
returns c n h small =
    let l = c.loop-left in
    let counts = c.counting-c in
    let a = c.args in
    let word = counts.result.named in
    let none : l.left ≡ 0 = search rules in
    let so = subst (λ (w : ℕ). CountedTo word a.t.cells l.i w l.next.cells) none l.invariant.0 in
    all-tallied a.named a.t (room (goal.at.returns c).At-loop-left) word l.i n l.next counts.ensures.named_value.0 (fits (goal.at.returns c).At-loop-left) so (l.invariant.1 ∙ counts.ensures.total_value) h small
