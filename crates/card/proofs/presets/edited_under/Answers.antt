-- `card::presets::edited_under` meets its contract: after i turns the word holds the first i bits.
use Rattle.std.proofs.Common.{◌≡◌, ◌||◌, refl, ap₂, zero-le, arith, rules}
use Rattle.words.specs.Bits.{bit_at, word_of}
use Rattle.words.proofs.Laws.{built-next, built-fits}
use Rattle.card.specs.PresetRows.{covers}
use Rattle.card.proofs.presets.edited_under.Goals as goal

pub loop-i-init : goal.loop-i-init
unfolding word_of
loop-i-init c = (zero-le, refl)

pub pushed-next-requires : goal.pushed-next-requires
pushed-next-requires c = record {
  i_bound = search rules;
  w_bound = built-fits _ _ _ c.loop-i.invariant.1;
}

pub loop-i-preserved : goal.loop-i-preserved
loop-i-preserved c =
    let a = c.args in
    let l = c.loop-i in (
      omega arith,
      built-next (λ j. bit_at a.edited j || covers a.row j) l.i l.next _ _ l.invariant.1
          (ap₂ ◌||◌ c.bit-old.ensures c.covers.ensures) c.pushed-next.ensures,
    )

pub returns : goal.returns
returns c =
    let l = c.loop-i in
    let end : l.i ≡ c.args.n = omega arith in
    rw (l.invariant.1, end)
