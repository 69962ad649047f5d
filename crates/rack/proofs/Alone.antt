-- A card in a rack wakes whom the rules name, and its timers keep their word; and a row of one card without push-pull lines on the backplane ticks as that
-- card alone: what it pulls low are its open-drain lines that are driven low, and those are low already.
use Prim.Native.Nat.{ℕ, ◌<◌}
use mathlib.Core.Path.{◌≡◌, refl, sym, ap, ap₂, ◌∙◌}
use mathlib.Core.Bool.{Bool, true, false, not, ◌&&◌, ◌||◌, cond}
use mathlib.Core.List.{[], ◌∷◌}
use native.Mathlib.Omega.{arith}
use lib.Dec.{eqb}
use lib.ListN.{replicate}
use lib.Seq.{sets}
use borrow.Author.Tests.{eq-eqb, eqb-true}
use Rattle.words.specs.Bits.{bit_at, word_of}
use Rattle.words.proofs.Laws.{bit-zero, bit-or, bit-built, built-same}
use Rattle.card.specs.declared.card.Card.{Card}
use Rattle.card.specs.declared.card.Connectors.{Connectors}
use Rattle.card.specs.Address.{connector_count, on_backplane}
use Rattle.card.proofs.ConnectorLaws.{kind-output}
use Rattle.ticks.specs.declared.view.Input.{Input}
use Rattle.ticks.specs.declared.tick.Ticked.{Ticked}
use Rattle.ticks.specs.Levels.{effective_sample, pulled_at, pulled_word, level_bit, level_in, levels_from, lines_of}
use Rattle.ticks.specs.Tick.{wires_of, lines_in, lines, ticked_on, idle, tick}
use Rattle.ticks.specs.Runs.{stepped}
use Rattle.ticks.proofs.Sleep.{quick-set}
use Rattle.ticks.proofs.Timing.{timer-promise-on, ignores-all-on}
use Rattle.rack.specs.Shared.{pulls, shared_at, shared_levels, shared_lines, shared_tick}
use Rattle.rack.specs.Supply.{most_cards}
use Rattle.rack.specs.Rack.{bad_fronts, input_for, low_lines, ticks_from, ticked_row, idle_answer, row_answers}
use Rattle.rack.specs.Alone.{SharedWoken, SharedTicks, shared_step, SharedTimerPromise, NoPush, AloneInRow}

module _ (n : ℕ) where
  pub shared-woken : SharedWoken n
  unfolding SharedWoken shared_tick
  shared-woken c input low i own h =
      let l = shared_lines n c input low in
      ap (λ (b : Bool). bit_at (cond b (ticked_on n false c l) (idle c)).answer.woken i) (eq-eqb _ _ own)
      ∙ quick-set n c.cells c.edited (wires_of c.memory l.levels) i h

  -- a step on shared lines is a rack tick of the card
  pub shared_step_lem : (c : Card) (t : SharedTicks) → stepped n c (shared_step n c t) ≡ shared_tick n t.0 c t.1.0 t.1.1
  unfolding shared_tick
  shared_step_lem c t = refl

  pub shared-timer-promise : SharedTimerPromise n
  unfolding SharedTimerPromise
  shared-timer-promise = (timer-promise-on n SharedTicks (shared_step n), ignores-all-on n SharedTicks (shared_step n))

  -- ---- the levels of one card

  -- on the backplane, where the connector is not push-pull
  back-rule : (o s d : Bool) → (s && not (true && ((false || o) && not d))) ≡ level_bit false o s d
  back-rule o s d = grind arith

  level-alone : (c : Card) (d : Connectors) (driven sample low k : ℕ) → k < connector_count
      → bit_at low k ≡ pulled_at d driven k
      → (on_backplane k ≡ true → bit_at d.push_pull k ≡ false)
      → shared_at (levels_from d.push_pull d.open_drain driven sample) sample low k ≡ level_in d.push_pull d.open_drain driven sample k
  unfolding levels_from
  level-alone c d driven sample low k h pulled none = go (on_backplane k) refl
    where
      own : bit_at (word_of (level_in d.push_pull d.open_drain driven sample) connector_count) k ≡ level_in d.push_pull
          d.open_drain driven sample k
      own = bit-built (level_in d.push_pull d.open_drain driven sample) connector_count k h

      go : (b : Bool) → on_backplane k ≡ b
          → cond b (bit_at sample k && not (bit_at low k)) (bit_at (word_of (level_in d.push_pull d.open_drain driven sample) connector_count) k)
          ≡ level_in d.push_pull d.open_drain driven sample k
      go false e = own
      go true e =
          let p = none e in
          let out = kind-output d k ∙ ap (λ (x : Bool). x || bit_at d.open_drain k) p in
          ap (λ (x : Bool). bit_at sample k && not x) (pulled ∙ ap₂ (λ (x y : Bool). x && (y && not (bit_at driven k))) e out)
          ∙ back-rule (bit_at d.open_drain k) (bit_at sample k) (bit_at driven k)
          ∙ ap (λ (x : Bool). level_bit x (bit_at d.open_drain k) (bit_at sample k) (bit_at driven k)) (sym p)

  pulls-own : (c : Card) (code : ℕ) → code ≡ c.trigger → pulls n code c ≡ (lines_in n c.memory c.connectors 0).pulled
  unfolding pulls
  pulls-own c code own = rw (eq-eqb _ _ own)

  lines-alone : (c : Card) (input : Input) → NoPush c → input.code ≡ c.trigger
      → shared_lines n c input (low_lines n input.code 0 (c ∷ [])) ≡ lines n c input
  unfolding shared_levels lines_of pulled_word levels_from
  lines-alone c input none own =
      let d = c.connectors in
      let l = lines n c input in
      let sample = effective_sample input.sample input.attached in
      let low : (k : ℕ) → k < connector_count → bit_at (low_lines n input.code 0 (c ∷ [])) k ≡ pulled_at d l.driven k = λ k h.
      bit-or 0 (pulls n input.code c) k ∙ ap (λ (x : Bool). x || bit_at (pulls n input.code c) k) (bit-zero k)
      ∙ ap (λ (w : ℕ). bit_at w k) (pulls-own c input.code own)
      ∙ bit-built (pulled_at d l.driven) connector_count k h in
      let levels = built-same _ (level_in d.push_pull d.open_drain l.driven sample) connector_count
      (λ k h. level-alone c d l.driven sample (low_lines n input.code 0 (c ∷ [])) k h (low k h) (none k h)) in
      λ i. record { driven = l.driven; pulled = l.pulled; levels = shown levels i }
    where
      shown : {x : ℕ} → x ≡ word_of (level_in c.connectors.push_pull c.connectors.open_drain (lines n c input).driven
          (effective_sample input.sample input.attached)) connector_count → x ≡ (lines n c input).levels
      shown e = e

  tick-alone : (full : Bool) (c : Card) (input : Input) → NoPush c → shared_tick n full c input (low_lines n input.code 0 (c ∷ [])) ≡ tick n full c input
  unfolding shared_tick tick
  tick-alone full c input none = go (eqb input.code c.trigger) refl
    where
      go : (b : Bool) → eqb input.code c.trigger ≡ b
          → cond b (ticked_on n full c (shared_lines n c input (low_lines n input.code 0 (c ∷ [])))) (idle c) ≡ cond b (ticked_on n full c
          (lines n c input)) (idle c)
      go true e = ap (ticked_on n full c) (lines-alone c input none (eqb-true _ _ e))
      go false e = refl

  pub alone-in-row : AloneInRow n
  unfolding AloneInRow ticked_row row_answers ticks_from
  alone-in-row full input c small one none =
      let t = tick-alone full c (input_for input 0) none in
      let good : bad_fronts (c ∷ []) input ≡ false = ap₂ (λ (x : Bool) (m : ℕ). (false || (x || false)) || not (eqb m 1)) small one in
      rw good (ap (λ (x : Ticked). x.card ∷ []) t, ap (λ (x : Ticked). sets (replicate most_cards idle_answer) 0 (x.answer ∷ [])) t)
