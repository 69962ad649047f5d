-- Every card that a list of calls reaches from a valid one is valid: accepted edits, loads and ticks keep validity, and refused
-- calls the card.
use Prim.Native.Nat.{ℕ, ◌≤◌}
use mathlib.Core.Path.{◌≡◌, refl, ◌∙◌}
use mathlib.Core.Bool.{Bool, true, false, not, ◌&&◌, ◌||◌, cond}
use mathlib.Core.List.{List}
use lib.Dec.{eqb, ltb}
use Rattle.std.specs.Prelude.{Option, Some, None, Result, Ok, Err, is_some}
use lib.ListN.{length}
use borrow.Author.Tests.{eqb-true}
use Rattle.card.specs.declared.card.Card.{Card}
use Rattle.card.specs.declared.change.Change.{Change}
use Rattle.card.specs.declared.context.Context.{Context}
use Rattle.card.specs.Address.{cell_count}
use Rattle.card.specs.Change.{changed}
use Rattle.card.specs.Context.{context_of, drives_front, preset_drives}
use Rattle.card.specs.Edits.{is_at_cell, current_cell}
use Rattle.card.specs.Fresh.{fresh_of}
use Rattle.card.specs.Presets.{offered}
use Rattle.card.specs.Valid.{bad_cell_type, bad_connector_type, bad_clock, bad_config, unused_slot, bad_address, valid_card}
use Rattle.card.proofs.ValidLaws.{fresh-valid, valid-source}
use Rattle.card.proofs.ValidLaws.{valid-move, valid-trigger, valid-home, valid-type, valid-config, valid-state, valid-slots, valid-connector-type}
use Rattle.card.proofs.PresetValid.{valid-preset}
use Rattle.ticks.proofs.ValidTicks.{valid-tick-on}
use Rattle.saved.specs.Record.{load_number, loaded}
use Rattle.saved.proofs.Records.{load-refused, loaded-valid}
use Rattle.grammar.specs.declared.grammar.Pairs.{Pairs}
use Rattle.grammar.specs.declared.grammar.Command.{Command}
use Rattle.grammar.specs.declared.grammar.Command.TheVariants.{Move, Where, Trigger, Home, Preset, SetKind, SetConfig, SetState, GetKind, GetConfig}
use Rattle.grammar.specs.declared.grammar.Command.TheVariants.{GetState, SetSlots, GetSlot, Front, Back, Cells, Upper, Save}
use Rattle.grammar.specs.declared.grammar.NoCommand.{NoCommand}
use Rattle.grammar.specs.Grammar.{given, parse}
use Rattle.lines.specs.declared.refused.Refused.{Refused}
use Rattle.lines.specs.declared.refused.Refused.TheVariants.{NoRoom, TooLarge, AtConnector, BadType, BadPreset, UnusedSlot, BadAddress, FrontDriven}
use Rattle.lines.specs.Refusal.{when, or_else, judged, given_and, any_too_large, any_bad_address, refusal}
use Rattle.lines.specs.Line.{wire_of, wires_of, change_for, decided, decision, decision_for, response_to, change_in, shortest_reply, line_decision, line_outcome}
use Rattle.calls.specs.Calls.{Call, after_call, end}
use Rattle.calls.specs.Calls.Call.{line, load, tick}
use Rattle.lines.proofs.Decisions.{none_of, when-none, judged-none, last_none}
use Rattle.calls.proofs.Runs.{invariant}

-- ---- one line

-- of the slots that are given the addresses are those of the line
given-same : (n : ℕ) (o : Option ℕ) → (is_some o && bad_address n (wire_of o)) ≡ given_and (bad_address n) o
given-same n None = refl
given-same n (Some v) = refl

any_same : (n : ℕ) (p : Pairs) → let w = wires_of p in let g = given p in
    ((g.x && bad_address n w.x) || (g.y && bad_address n w.y)) || ((g.z && bad_address n w.z) || (g.f && bad_address n w.f)) ≡ any_bad_address n p
any_same n p = λ i. (given-same n p.x i || given-same n p.y i) || (given-same n p.z i || given-same n p.f i)

-- a card of n cells, which are no fewer than presets set
module _ (n : ℕ) (more : cell_count ≤ n) where
  -- what a command changes at a cell, and elsewhere
  pick-valid : (c : Card) (b : Bool) (j k : Option Refused) (d e : Change) → cond b j k ≡ None
      → (j ≡ None → valid_card n (changed n c d) ≡ true) → (k ≡ None → valid_card n (changed n c e) ≡ true)
      → valid_card n (changed n c (cond b d e)) ≡ true
  pick-valid c true j k d e z p q = p z
  pick-valid c false j k d e z p q = q z

  -- an accepted command keeps a card valid: no number of the refusal table applies, which is what its law needs
  accepted-valid : (c : Card) (store : ℕ) (command : Command) → let x = context_of n c in
      valid_card n c ≡ true → refusal n x store command ≡ None → valid_card n (changed n c (change_for x command)) ≡ true
  unfolding changed change_for refusal
  accepted-valid c store (Move v) ok e = valid-move n c ok v
  accepted-valid c store Where ok e = ok
  accepted-valid c store (Trigger v) ok e = valid-trigger n c ok v (judged-none v (bad_clock v) _ e).1
  accepted-valid c store Home ok e = valid-home n c ok
  accepted-valid c store (Preset v) ok e =
      valid-preset n more c ok v (last_none (judged v (not (offered n v)) BadPreset) (preset_drives n (context_of n c) v) _ e)
  accepted-valid c store (SetKind v) ok e =
      let first = judged v (bad_connector_type v) BadType in
      let drives = drives_front (context_of n c) v in
      pick-valid c (is_at_cell n c) _ _ _ _ e (λ z. valid-type n c ok v (judged-none v (bad_cell_type v) _ z).1)
      (λ z.
      valid-connector-type n c ok v (judged-none v (bad_connector_type v) _ (none_of first (when drives FrontDriven) z).0).1
      (last_none first drives _ z))
  accepted-valid c store (SetConfig v) ok e =
      pick-valid c (is_at_cell n c) _ _ _ _ e
      (λ z. valid-config n c ok v (judged-none v (bad_config (current_cell n c).kind v) _ z).1)
      (λ z. valid-source n c ok v (judged-none v (bad_address n v) _ z).1)
  accepted-valid c store (SetState v) ok e = valid-state n c ok v
  accepted-valid c store GetKind ok e = ok
  accepted-valid c store GetConfig ok e = ok
  accepted-valid c store GetState ok e = ok
  accepted-valid c store (SetSlots p) ok e =
      let unused = unused_slot (current_cell n c).kind (given p) in
      let bad = any_bad_address n p in
      let w = wires_of p in
      let first = or_else (when (any_too_large p) TooLarge) (when (not (is_at_cell n c)) AtConnector) in
      let both = none_of (when unused UnusedSlot) (when bad BadAddress) (none_of first (or_else (when unused UnusedSlot) (when bad BadAddress)) e).1 in
      valid-slots n c ok (given p) w.x w.y w.z w.f (when-none unused _ both.0)
      (any_same n p ∙ when-none bad _ both.1)
  accepted-valid c store (GetSlot s) ok e = ok
  accepted-valid c store Front ok e = ok
  accepted-valid c store Back ok e = ok
  accepted-valid c store Cells ok e = ok
  accepted-valid c store Upper ok e = ok
  accepted-valid c store Save ok e = ok

  decided-valid : (c : Card) (store : ℕ) (p : Result Command NoCommand) → valid_card n c ≡ true
      → valid_card n (changed n c (change_in (decision_for n (context_of n c) store p))) ≡ true
  unfolding changed decision_for decision
  decided-valid c store (Err none) ok = ok
  decided-valid c store (Ok command) ok = go (refusal n x store command) refl
    where
      x : Context
      x = context_of n c

      go : (o : Option Refused) → refusal n x store command ≡ o
          → valid_card n (changed n c (change_in (decided o (change_for x command) (response_to x command)))) ≡ true
      go None e = accepted-valid c store command ok e
      go (Some why) e = ok

  -- accepted or refused
  pub line-valid : (c : Card) (text : List ℕ) (reply store : ℕ) → valid_card n c ≡ true
      → valid_card n (line_outcome n c text reply store).card ≡ true
  unfolding changed line_decision line_outcome
  line-valid c text reply store ok = go (ltb reply shortest_reply)
    where
      go : (b : Bool) → let d = cond b (Err NoRoom) (decision_for n (context_of n c) store (parse n text)) in
          valid_card n (changed n c (change_in d)) ≡ true
      go true = ok
      go false = decided-valid c store (parse n text) ok

  -- ---- one call, and lists

  load-valid : (c : Card) (bytes : List ℕ) → valid_card n c ≡ true → valid_card n (loaded n c bytes) ≡ true
  load-valid c bytes ok = go (eqb (load_number n bytes) 0) refl
    where
      go : (b : Bool) → eqb (load_number n bytes) 0 ≡ b → valid_card n (loaded n c bytes) ≡ true
      go true e = loaded-valid n c bytes (eqb-true (load_number n bytes) 0 e)
      go false e = rw (load-refused n c bytes e) ok

  -- every call keeps a card valid
  pub call-valid : (c : Card) (call : Call) → valid_card n c ≡ true → valid_card n (after_call n c call) ≡ true
  unfolding after_call
  call-valid c (line text reply store) ok = line-valid c text (length reply) (length store) ok
  call-valid c (load bytes) ok = load-valid c bytes ok
  call-valid c (tick full code on) ok = valid-tick-on n c ok full code (on c)

  -- every card that a list reaches is valid
  pub reached-valid : (c : Card) (calls : List Call) → valid_card n c ≡ true → valid_card n (end n c calls) ≡ true
  reached-valid = invariant (after_call n) (λ c. valid_card n c ≡ true) call-valid

  pub fresh-reached-valid : (calls : List Call) → valid_card n (end n (fresh_of n) calls) ≡ true
  fresh-reached-valid calls = reached-valid (fresh_of n) calls (fresh-valid n)
