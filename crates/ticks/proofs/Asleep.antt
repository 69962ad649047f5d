-- A quick tick in which every cell sleeps, in brief: the law of the fast path, taken apart.
use Prim.Native.Nat.{ℕ, ◌≤◌}
use mathlib.Core.Path.{◌≡◌, sym, ap, ◌∙◌}
use mathlib.Core.Bool.{false, true}
use lib.Count.{ones, ones_in}
use lib.ListN.{length}
use Rattle.words.specs.Bits.{bit_at}
use Rattle.words.proofs.Laws.{bit-zero}
use Rattle.card.specs.declared.card.Card.{Card}
use Rattle.card.specs.declared.card.Memory.{Memory}
use Rattle.card.proofs.TallyLaws.{tallied-none}
use Rattle.ticks.specs.declared.connectors.Lines.{Lines}
use Rattle.ticks.specs.Rest.{slept_all}
use Rattle.ticks.specs.Tick.{ran_with, turned, trimmed, wires_of, ticked_on}
use Rattle.ticks.specs.Brief.{slept_brief, with_brief}
use Rattle.ticks.proofs.Trim.{whole-tick-on}

pub brief-tick : (n : ℕ) (c : Card) (m : Memory) (l : Lines) → m ≡ trimmed n c.memory → c.edited ≡ 0 → n ≤ length c.tallies.cells
    → turned n false c.cells c.edited (wires_of m l.levels) ≡ slept_all c.cells m.outputs
    → let b = slept_brief m l c.tallies.total true in ticked_on n false c l ≡ record { card = with_brief c b; answer = b.answer }
unfolding ones ones_in
brief-tick n c m l e edited ht slept =
    let b = slept_brief m l c.tallies.total true in
    let tallies = tallied-none n (bit_at 0) c.tallies ht (λ i _. bit-zero i) in
    sym (whole-tick-on n false c m l e) ∙ ap (ran_with n m c l) slept
    ∙ (λ k.
    record {
      card = record {
        pointer = c.pointer;
        trigger = c.trigger;
        cells = c.cells;
        connectors = c.connectors;
        edited = sym edited k;
        memory = b.memory;
        size = c.size;
        tallies = tallies k;
      };
      answer = b.answer;
    })
