-- Demand 3 over every list of calls, lifted from one call by the law of lists: every call keeps a card settled, and on a settled card quick and full ticks
-- do the same.
use Prim.Native.Nat.{ℕ}
use mathlib.Core.Path.{◌≡◌, refl, sym, ap}
use mathlib.Core.Bool.{Bool, true, false, cond}
use mathlib.Core.List.{List}
use lib.Dec.{eqb}
use lib.ListN.{length}
use Rattle.card.specs.declared.card.Card.{Card}
use Rattle.card.specs.Change.{changed}
use Rattle.card.specs.Context.{context_of}
use Rattle.card.specs.Fresh.{fresh_of}
use Rattle.card.specs.Untouched.{Edit}
use Rattle.card.proofs.ChangeLaws.{changed-edit}
use Rattle.ticks.specs.declared.connectors.Lines.{Lines}
use Rattle.ticks.specs.declared.view.Input.{Input}
use Rattle.ticks.specs.Tick
use Rattle.ticks.specs.Settled.{Settled, AlikeTicks}
use Rattle.ticks.proofs.Sleep.{fresh-settled, tick-on-settled, same-ticks-on, edit-settled, powered-settled}
use Rattle.saved.specs.Record.{load_number}
use Rattle.saved.proofs.Records.{loaded-by}
use Rattle.lines.specs.Line.{line_decision, line_change, line_outcome}
use Rattle.lines.proofs.Decisions.{no_change}
use Rattle.calls.specs.Calls.{Call, after_call, answer, end, answers}
use Rattle.calls.specs.Calls.Call.{line, load, tick}
use Rattle.calls.specs.Demand3.{SameCall, SameCalls, AlikeReply, AlikeReplies, Demand3}
use Rattle.calls.specs.Demand3.SameCall.{same_line, same_load, same-tick}
use Rattle.calls.specs.Demand3.AlikeReply.{alike-line, alike-load, alike-tick}
use Rattle.calls.proofs.Runs.{invariant, same_runs}

-- ---- one line

-- accepted or refused, a line is an edit
pub line-edit : (n : ℕ) (c : Card) (text : List ℕ) (reply store : ℕ) → Edit n c (line_outcome n c text reply store).card
unfolding line_outcome
line-edit n c text reply store = changed-edit n c (line_change n c text reply store)

-- a line that is refused changes nothing
pub refused-kept : (n : ℕ) (c : Card) (text : List ℕ) (reply store : ℕ) → eqb (line_outcome n c text reply store).k 0 ≡ false
    → (line_outcome n c text reply store).card ≡ c
unfolding changed line_outcome
refused-kept n c text reply store e = ap (changed n c) (no_change (line_decision n (context_of n c) text reply store) e)

module _ (n : ℕ) where
  -- ---- one call

  load-settled : (c : Card) (b : Bool) (d : Card) → Settled n d → Settled n c → Settled n (cond b d c)
  load-settled c true d p q = p
  load-settled c false d p q = q

  -- every call keeps a card settled
  pub call_settled : (c : Card) (call : Call) → Settled n c → Settled n (after_call n c call)
  unfolding after_call
  call_settled c (line text reply store) s = edit-settled n c _ (line-edit n c text (length reply) (length store)) s
  call_settled c (load bytes) s = rw (loaded-by n c bytes) (load-settled c (eqb (load_number n bytes) 0) _ (powered-settled n _ _ _ _) s)
  call_settled c (tick full code on) s = tick-on-settled n full c code (on c) s

  -- two ticks of any kinds with the same lines do the same on a settled card
  pub alike-on : (c : Card) (full quick : Bool) (code : ℕ) (l : Lines) → Settled n c
      → AlikeTicks (Tick.tick_on n full c code l) (Tick.tick_on n quick c code l)
  alike-on c true true code l s = record { card = refl; ran = refl; driven = refl; cells = refl }
  alike-on c false false code l s = record { card = refl; ran = refl; driven = refl; cells = refl }
  alike-on c false true code l s = same-ticks-on n c code l s
  alike-on c true false code l s =
      let a = same-ticks-on n c code l s in
      record { card = sym a.card; ran = sym a.ran; driven = sym a.driven; cells = sym a.cells }

  pub ticks-alike : (c : Card) (full quick : Bool) (input : Input) → Settled n c
      → AlikeTicks (Tick.tick n full c input) (Tick.tick n quick c input)
  unfolding Tick.tick
  ticks-alike c full quick input s = alike-on c full quick input.code (Tick.lines n c input) s

  same_after : (c : Card) {a b : Call} → SameCall a b → Settled n c → after_call n c a ≡ after_call n c b
  unfolding after_call
  same_after c (same_line text reply other store another p q) s = λ i. (line_outcome n c text (p i) (q i)).card
  same_after c (same_load bytes) s = refl
  same_after c (same-tick full quick code on) s = (alike-on c full quick code (on c) s).card

  same_answer : (c : Card) {a b : Call} → SameCall a b → Settled n c → AlikeReply (answer n c a) (answer n c b)
  unfolding answer
  same_answer c (same_line text reply other store another p q) s = rw (p, q) (alike-line _ _ _)
  same_answer c (same_load bytes) s = alike-load _
  same_answer c (same-tick full quick code on) s =
      let a = alike-on c full quick code (on c) s in
      alike-tick a.ran a.driven a.cells

  -- ---- lists

  -- from one settled card on
  pub same_lists : (c : Card) {calls others : List Call} → SameCalls calls others → Settled n c
      → (end n c calls ≡ end n c others) × AlikeReplies (answers n c calls) (answers n c others)
  same_lists c same s =
      same_runs (after_call n) (answer n) SameCall AlikeReply (Settled n) call_settled (λ d a b p q. same_after d p q) (λ d a b p q. same_answer d p q) c same s

  pub demand3 : Demand3 n
  unfolding Demand3
  demand3 calls others same = same_lists (fresh_of n) same (fresh-settled n)

  -- every card that a list reaches is settled
  pub reached-settled : (c : Card) (calls : List Call) → Settled n c → Settled n (end n c calls)
  reached-settled = invariant (after_call n) (Settled n) call_settled
