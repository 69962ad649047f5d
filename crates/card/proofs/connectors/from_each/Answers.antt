-- `card::connectors::from_each` meets its contract: after k turns the sources and both words have the first k.
use Rattle.std.proofs.Common.{◌≡◌, ◌<◌, replicate, refl, zero-le, le_refl, arith, rules}
use Rattle.words.specs.Bits.{word_of}
use Rattle.words.specs.Listed.{listed}
use Rattle.words.proofs.Laws.{built-next, built-fits, built-lt}
use Rattle.words.proofs.Listed.{listed_next, listed-done}
use Rattle.card.specs.Address.{connector_count}
use Rattle.card.specs.Connectors.{open_drain_type, push_pull_type, from_each}
use Rattle.card.proofs.connectors.from_each.Goals as goal
use Rattle.card.proofs.connectors.from_each.Invariants.{source_in, is_kind}

pub loop-k-init : goal.loop-k-init
unfolding listed word_of
loop-k-init c = (zero-le, refl, refl, refl)

pub pushed-push-requires : goal.pushed-push-requires
pushed-push-requires c = record {
  i_bound = search rules;
  w_bound = built-fits _ _ _ c.loop-k.invariant.2;
}

pub pushed-drain-requires : goal.pushed-drain-requires
pushed-drain-requires c = record {
  i_bound = search rules;
  w_bound = built-fits _ _ _ c.loop-k.invariant.3;
}

pub loop-k-preserved : goal.loop-k-preserved
loop-k-preserved c =
    let l = c.loop-k in
    let a = c.args in
    let h : l.k < connector_count = search rules in (
      omega arith,
      listed_next (source_in a.all) l.k (replicate connector_count 0) l.sources _ 0 l.invariant.1 refl h,
      built-next (is_kind push_pull_type a.all) l.k l.push _ _ l.invariant.2 refl c.pushed-push.ensures,
      built-next (is_kind open_drain_type a.all) l.k l.drain _ _ l.invariant.3 refl c.pushed-drain.ensures,
    )

pub overflow_cast-result : goal.overflow_cast-result
overflow_cast-result c =
    let l = c.loop-k in
    let end : l.k ≡ connector_count = omega arith in
    record { fits = rw (rw end at l.invariant.2) (built-lt _ connector_count) }

pub overflow_cast-result-2 : goal.overflow_cast-result-2
overflow_cast-result-2 c =
    let l = c.loop-k in
    let end : l.k ≡ connector_count = omega arith in
    record { fits = rw (rw end at l.invariant.3) (built-lt _ connector_count) }

pub returns : goal.returns
unfolding from_each
returns c =
    let l = c.loop-k in
    let a = c.args in
    let end : l.k ≡ connector_count = omega arith in
    let first = listed-done (source_in a.all) connector_count (replicate connector_count 0) l.sources (rw end at l.invariant.1) (le_refl connector_count) in
    let second : l.push ≡ word_of (is_kind push_pull_type a.all) connector_count = rw end at l.invariant.2 in
    let third : l.drain ≡ word_of (is_kind open_drain_type a.all) connector_count = rw end at l.invariant.3 in
    λ j. record { sources = first j; push_pull = second j; open_drain = third j }
