-- `session::enter` meets its contract: a tick, a load or a card line, each by its own function.
use Prim.Native.Nat.{ℕ}
use mathlib.Core.Path.{refl, ap, ◌∙◌}
use lib.ListN.{length}
use lib.Seq.{sets}
use Rattle.card.specs.Address.{cells_for}
use Rattle.ticks.specs.declared.tick.Ticked.{Ticked}
use Rattle.session.specs.Session.{tick_text, load_text, entered, event_of}
use Rattle.session.specs.declared.Event.TheVariants.{Tick, Load}
use Rattle.session.proofs.enter.Goals as goal

pub returns-in-Some : goal.returns-in-Some
unfolding entered event_of
returns-in-Some c =
    let t = c.in-Some.t in
    let out = c.args.out.now in
    let n = cells_for c.args.card.size in
    let done = c.do_tick-done.ensures.0 in
    rw (← c.tick_line.ensures, c.in-Some.is)
    (record {
      card = ap (λ (r : Ticked). r.card) done;
      event = ap (λ (r : Ticked). Tick (record { full = t.full; input = t.input; answer = r.answer })) done;
      store = refl;
      output = c.put_tick.ensures.out_after ∙ ap (λ (r : Ticked). sets out 0 (tick_text n r.answer)) done;
      len = c.put_tick.ensures.value ∙ ap (λ (r : Ticked). length (tick_text n r.answer)) done;
      fits = c.put_tick.ensures.upper_bound;
    })

pub returns-then-is_load : goal.returns-then-is_load
unfolding entered event_of
returns-then-is_load c =
    let out = c.args.out.now in
    let k = c.load-loaded.ensures.k_value in
    rw (← c.tick_line.ensures, c.in_default.is, ← c.is_load.ensures, c.if-is_load.true)
    (record {
      card = c.load-loaded.ensures.card_value;
      event = ap Load k;
      store = refl;
      output = c.put_load.ensures.out_after ∙ ap (λ (n : ℕ). sets out 0 (load_text n)) k;
      len = c.put_load.ensures.value ∙ ap (λ (n : ℕ). length (load_text n)) k;
      fits = c.put_load.ensures.upper_bound;
    })

pub returns : goal.returns
unfolding entered event_of
returns c = rw (← c.tick_line.ensures, c.in_default.is, ← c.is_load.ensures, c.if-is_load.false) c.enter_line.ensures
