-- `trigger::trigger_quick_tick_in` meets its contract: where the tick is quiet, the memory and the tick total are all that it changes.
use Rattle.std.proofs.Common.{◌≡◌, false, sym, ap, ◌∙◌}
use Rattle.card.specs.Address.{cells_for}
use Rattle.ticks.specs.declared.tick.Ticked.{Ticked}
use Rattle.ticks.specs.Tick.{ticked_on, tick}
use Rattle.ticks.specs.Brief.{with_brief}
use Rattle.ticks.proofs.Cases.{tick-own, tick-other}
use Rattle.trigger.proofs.trigger_quick_tick_in.Goals as goal

pub returns-then-input-card : goal.returns-then-input-card
returns-then-input-card c =
    let h = c.args.card.now in
    let e = tick-other (cells_for h.size) false h c.args.input c.if-input-card.true in
    (c.no_answer.ensures ∙ sym (ap (λ (t : Ticked). t.answer) e), sym (ap (λ (t : Ticked). t.card) e))

pub returns-then-b : goal.returns-then-b
returns-then-b c =
    let h = c.args.card.now in
    let b = c.in_brief-b.result in
    let e : record { card = with_brief h b; answer = b.answer } ≡ tick (cells_for h.size) false h c.args.input =
    sym (c.in_brief-b.ensures.quiet c.if-b.true) ∙ ap (ticked_on (cells_for h.size) false h) c.in_brief-b.ensures.lines
    ∙ sym (tick-own (cells_for h.size) false h c.args.input c.if-input-card.false) in
    (ap (λ (t : Ticked). t.answer) e, ap (λ (t : Ticked). t.card) e)

pub returns : goal.returns
returns c =
    let h = c.args.card.now in
    let e : c.turned_on-t.result ≡ tick (cells_for h.size) false h c.args.input =
    c.turned_on-t.ensures ∙ ap (ticked_on (cells_for h.size) false h) c.in_brief-b.ensures.lines
    ∙ sym (tick-own (cells_for h.size) false h c.args.input c.if-input-card.false) in
    (ap (λ (t : Ticked). t.answer) e, ap (λ (t : Ticked). t.card) e)
