-- `trigger::trigger_full_tick_in` meets its contract: the tick is run on a copy of the card, and what it leaves is stored.
use Rattle.std.proofs.Common.{◌≡◌, true, sym, ap, ◌∙◌}
use Rattle.card.specs.Address.{cells_for}
use Rattle.ticks.specs.declared.tick.Ticked.{Ticked}
use Rattle.ticks.specs.Tick.{ticked_on, tick}
use Rattle.ticks.proofs.Cases.{tick-own, tick-other}
use Rattle.trigger.proofs.trigger_full_tick_in.Goals as goal

pub returns-then-input-card : goal.returns-then-input-card
returns-then-input-card c =
    let h = c.args.card.now in
    let e = tick-other (cells_for h.size) true h c.args.input c.if-input-card.true in
    (c.no_answer.ensures ∙ sym (ap (λ (t : Ticked). t.answer) e), sym (ap (λ (t : Ticked). t.card) e))

pub returns : goal.returns
returns c =
    let h = c.args.card.now in
    let e : c.turned_on-t.result ≡ tick (cells_for h.size) true h c.args.input =
    c.turned_on-t.ensures ∙ ap (ticked_on (cells_for h.size) true h) c.lines_by-l.ensures ∙ sym (tick-own (cells_for h.size) true h c.args.input c.if-input-card.false) in
    (ap (λ (t : Ticked). t.answer) e, ap (λ (t : Ticked). t.card) e)
