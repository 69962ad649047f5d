-- Save and load are inverse: a line that saves has room for the record, the record of a reached card loads, and a loaded card saves as its bytes, with
-- constants above 1 made 1.
use Prim.Native.Nat.{ℕ, ◌≤◌, ◌<◌}
use mathlib.Core.Path.{◌≡◌, refl, sym, ap, ◌∙◌}
use mathlib.Core.Bool.{Bool, true, false, ◌&&◌, cond, true≢false}
use mathlib.Core.List.{List, ◌++◌}
use lib.Dec.{eqb, ltb}
use lib.ListN.{length, take, drop}
use lib.Seq.{take_at}
use borrow.Author.Tests.{eq-eqb, le-ltb, ltb-false}
use Rattle.text.specs.Decimal.{is_digit}
use Rattle.text.specs.Written.{bytes_of}
use Rattle.words.proofs.Listed.{length-listed}
use Rattle.cells.specs.declared.cell.Cell.{Cell}
use Rattle.card.specs.declared.card.Card.{Card}
use Rattle.card.specs.declared.context.Context.{Context}
use Rattle.card.specs.Context.{context_of}
use native.Mathlib.Decide.{dec_lt}
use native.Mathlib.Omega.{arith}
use Rattle.card.specs.Address.{cell_count}
use Rattle.card.specs.Fresh.{fresh_of}
use Rattle.card.specs.Valid.{valid_card}
use Rattle.card.specs.Connectors.{each, from_each}
use Rattle.saved.proofs.Forms.{each_in}
use Rattle.saved.specs.Record.{load_number_as, config_width, narrow_width, record_length, record_of, trigger_in, cell_in, normal_cell}
use Rattle.saved.specs.Record.{load_cells, connectors_in, powered_up, load_number, loaded}
use Rattle.saved.proofs.Records.{valid-length, saved-front, cleared-taken, load-accepts, load-powers, narrow-form, no-old-form, saved_loads, saved-loaded}
use Rattle.saved.proofs.Records
use Rattle.grammar.specs.declared.grammar.Command.{Command}
use Rattle.grammar.specs.declared.grammar.Command.TheVariants.{Move, Where, Trigger, Home, Preset, SetKind, SetConfig, SetState, GetKind, GetConfig}
use Rattle.grammar.specs.declared.grammar.Command.TheVariants.{GetState, SetSlots, GetSlot, Front, Back, Cells, Upper, Save}
use Rattle.std.specs.Prelude.{Option, Some, None, Result, Ok, Err}
use Rattle.grammar.specs.declared.grammar.NoCommand.{NoCommand}
use Rattle.lines.specs.declared.refused.Refused.{Refused}
use Rattle.lines.specs.declared.refused.Refused.TheVariants.{NoRoom}
use Rattle.grammar.specs.Grammar.{is_word, is_whole, card_form, plain_form, addressed, parse}
use Rattle.lines.specs.Refusal.{refusal}
use Rattle.lines.specs.Line.{saves, change_for, response_to, response_in, decided, decision, decision_for, shortest_reply, line_decision, line_outcome, store_after}
use Rattle.calls.specs.Calls.{saved_bytes, end}
use Rattle.calls.specs.SaveLoad.{whole_record, Saves, Restored, Written, FromOldForm, SaveLoad}
use Rattle.lines.proofs.Decisions.{when-none}
use Rattle.calls.proofs.Reached.{fresh-reached-valid}

-- ---- a line that saves

never : {A : Type 0} → false ≡ true → A
never e = absurd (true≢false (sym e))

-- it has room for the record: of all commands only `36SS Z` gives it
command-room : (n : ℕ) (x : Context) (store : ℕ) (command : Command) → saves (response_to x command) ≡ true → refusal n x store command ≡ None
    → record_length n config_width ≤ store
unfolding response_to refusal
command-room n x store (Move v) g e = never g
command-room n x store Where g e = never g
command-room n x store (Trigger v) g e = never g
command-room n x store Home g e = never g
command-room n x store (Preset v) g e = never g
command-room n x store (SetKind v) g e = never g
command-room n x store (SetConfig v) g e = never g
command-room n x store (SetState v) g e = never g
command-room n x store GetKind g e = never g
command-room n x store GetConfig g e = never g
command-room n x store GetState g e = never g
command-room n x store (SetSlots p) g e = never g
command-room n x store (GetSlot s) g e = never g
command-room n x store Front g e = never g
command-room n x store Back g e = never g
command-room n x store Cells g e = never g
command-room n x store Upper g e = never g
command-room n x store Save g e = ltb-false store (record_length n config_width) (when-none (ltb store (record_length n config_width)) _ e)

room : (n : ℕ) (x : Context) (b : Bool) (store : ℕ) (p : Result Command NoCommand)
    → saves (response_in (cond b (Err NoRoom) (decision_for n x store p))) ≡ true → whole_record n ≤ store
unfolding decision_for decision
room n x true store p g = never g
room n x false store (Err none) g = never g
room n x false store (Ok command) g = go (refusal n x store command) refl g
  where
    go : (o : Option Refused) → refusal n x store command ≡ o → saves (response_in (decided o (change_for x command) (response_to x command))) ≡ true
        → whole_record n ≤ store
    go None e g = command-room n x store command g e
    go (Some why) e g = never g

pub save-room : (n : ℕ) (c : Card) (text : List ℕ) (reply store : ℕ) → Saves n c text reply store → whole_record n ≤ store
unfolding line_decision line_outcome
save-room n c text reply store s = room n (context_of n c) (ltb reply shortest_reply) store (parse n text) s.saves

module _ (n : ℕ) (c : Card) (text : List ℕ) (reply store : ℕ) (s : Saves n c text reply store) where
  both : (eqb (line_outcome n c text reply store).k 0 && saves (line_outcome n c text reply store).response) ≡ true
  both = rw (eq-eqb (line_outcome n c text reply store).k 0 s.accepted) s.saves

  -- what it writes is the record
  bytes-are : saved_bytes n c text reply store ≡ record_of n config_width c
  unfolding saved_bytes
  bytes-are = rw both

store_is : (n : ℕ) (c : Card) (text reply store : List ℕ) → valid_card n c ≡ true → Saves n c text (length reply) (length store)
    → store_after n c text (length reply) store ≡ record_of n config_width c ++ drop (whole_record n) store
unfolding store_after
store_is n c text reply store ok s =
    rw (both n c text (length reply) (length store) s)
    (saved-front n config_width c store ok (save-room n c text (length reply) (length store) s))

-- ---- the theorem

parses : (n : ℕ) → parse n (bytes_of "36SS Z") ≡ Ok Save
unfolding is_digit is_word is_whole card_form plain_form addressed parse
parses n = refl

line-saves : (n : ℕ) (c : Card) (reply store : ℕ) → shortest_reply ≤ reply → whole_record n ≤ store → Saves n c (bytes_of "36SS Z") reply store
unfolding line_decision line_outcome decision_for decision response_to refusal
line-saves n c reply store hr hs =
    record {
      accepted = rw (le-ltb reply shortest_reply hr, parses n, le-ltb store (whole_record n) hs);
      saves = rw (le-ltb reply shortest_reply hr, parses n, le-ltb store (whole_record n) hs);
    }

restored : (n : ℕ) (c : Card) → valid_card n c ≡ true → (d : Card) → Restored n c (loaded n d (record_of n config_width c))
restored n c ok d =
    let e = Records.load_save n c ok d in
    record {
      trigger = ap (λ (x : Card). x.trigger) e;
      cells = ap (λ (x : Card). take n x.cells) e ∙ cleared-taken n c ok (drop n d.cells);
      connectors = ap (λ (x : Card). x.connectors) e;
    }

written : (n : ℕ) (c : Card) (text reply store : List ℕ) → valid_card n c ≡ true → Saves n c text (length reply) (length store)
    → Written n c (saved_bytes n c text (length reply) (length store)) store (store_after n c text (length reply) store)
written n c text reply store ok s =
    rw (bytes-are n c text (length reply) (length store) s)
    (record {
      sized = valid-length n config_width c ok;
      front = store_is n c text reply store ok s;
      loads = load-accepts n c ok;
      restored = restored n c ok;
    })

-- a record of the old form
small-old-form : (n : ℕ) (d : Card) (bytes : List ℕ) → n ≤ cell_count → length bytes ≡ record_length n narrow_width → load_number n bytes ≡ 0
    → FromOldForm n bytes (loaded n d bytes)
unfolding load_number
small-old-form n d bytes few long ok =
    let cells : ℕ → List Cell = λ w. load_cells n w bytes ++ drop n d.cells in
    let c : loaded n d bytes ≡ powered_up n d.size (trigger_in bytes) (cells narrow_width) (from_each (connectors_in n narrow_width bytes)) =
    load-powers n d bytes ok
    ∙ ap (λ (w : ℕ). powered_up n d.size (trigger_in bytes) (cells w) (from_each (connectors_in n w bytes))) (narrow-form n bytes few long) in
    let first = take_at (load_cells n narrow_width bytes) (drop n d.cells) n (length-listed (λ i. normal_cell (cell_in narrow_width bytes i)) n) in
    record {
      trigger = ap (λ (x : Card). x.trigger) c;
      cells = ap (λ (x : Card). take n x.cells) c ∙ first;
      connectors =
          ap (λ (x : Card). each x.connectors) c
          ∙ each_in n narrow_width bytes (ap (λ (w : ℕ). load_number_as n w bytes) (sym (narrow-form n bytes few long)) ∙ ok);
      saved_loads = λ text reply store s. ap (load_number n) (bytes-are n _ text reply store s) ∙ saved_loads n d d bytes ok;
      saved_same = λ text reply store e s. ap (loaded n e) (bytes-are n _ text reply store s) ∙ saved-loaded n d e bytes ok;
    }

-- of more cells there is none that loads
from-old-form : (n : ℕ) (d : Card) (bytes : List ℕ) → length bytes ≡ record_length n narrow_width → load_number n bytes ≡ 0
    → FromOldForm n bytes (loaded n d bytes)
from-old-form n d bytes long ok = go (dec_lt cell_count n)
  where
    go : Dec (cell_count < n) → FromOldForm n bytes (loaded n d bytes)
    go (yes h) = absurd (fourteen (sym (no-old-form n bytes h long) ∙ ok))
      where
        fourteen : ◌≡◌ {A = ℕ} 14 0 → ⊥
        fourteen e = omega arith
    go (no h) = small-old-form n d bytes (omega arith) long ok

pub save_load : (n : ℕ) → cell_count ≤ n → SaveLoad n
save_load n more =
    record {
      saves = line-saves n;
      save_load = λ calls text reply store s. written n (end n (fresh_of n) calls) text reply store (fresh-reached-valid n more calls) s;
      load_save = λ d bytes text reply store ok s. bytes-are n _ text reply store s ∙ Records.save_load n d bytes ok;
      load_same = λ d bytes text reply store long ok small s. bytes-are n _ text reply store s ∙ Records.save-same n d bytes ok long small;
      old_form = from-old-form n;
    }
