-- `card::chart::entry_of` meets its contract: the rule at each entry, from the test over the whole table.
use Rattle.std.proofs.Common.{ℕ, ◌&&◌, ◌||◌, eqb, ltb, leb, ap, ◌∙◌, ap₂, rules}
use Rattle.card.specs.declared.chart.Entry.{Entry}
use Rattle.card.specs.Address.{cell_count, cell_room, base_of}
use Rattle.card.proofs.ChartLaws.{entry_at, bases-for}
use Rattle.card.proofs.chart.entry_of.Goals as goal

pub returns : goal.returns
returns c =
    let a = c.args in
    let first = c.entry_in-e.ensures ∙ entry_at c.chart.result.now c.chart.ensures a.a (search rules) in
    let small = ap (λ (v : Entry). v.permitted) first in
    let more = c.is_upper.ensures
    ∙ ap (λ (b : ℕ). eqb a.size cell_room && (ltb cell_count b && leb b cell_room)) (ap (λ (v : Entry). v.base) first) in
    let all = ap₂ ◌||◌ small more ∙ bases-for a.size (base_of a.a) (search rules) in
    λ k. record { base = (first k).base; inverted = (first k).inverted; edge = (first k).edge; permitted = all k }
