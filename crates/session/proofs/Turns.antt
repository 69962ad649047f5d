-- Laws of the turns of a run, each with an output of its own: together they do and print what all their bytes would at once.
use Prim.Native.Nat.{ℕ, ◌+◌, ◌-◌, ◌*◌, ◌≤◌, ◌<◌}
use mathlib.Core.Path.{◌≡◌, refl, sym, ap, ◌∙◌}
use mathlib.Core.Bool.{Bool, true, false, cond, ◌&&◌}
use mathlib.Core.List.{List, [], ◌∷◌, ◌++◌, append_assoc, append-nil}
use native.Mathlib.Decide.{dec_lt}
use native.Mathlib.Omega.{arith}
use lib.Dec.{eqb, ltb}
use lib.ListN.{length, take, replicate, length-append, take-append-drop}
use lib.Seq.{length-take-le}
use borrow.Author.Tests.{ltb-true}
use Rattle.words.proofs.Bools.{and_left}
use Rattle.card.specs.declared.card.Card.{Card}
use Rattle.card.specs.Address.{cells_for}
use Rattle.card.specs.Fresh.{fresh_of}
use Rattle.saved.specs.Record.{config_width, record_length}
use Rattle.session.specs.Session.{longest_print, Entry, entered}
use Rattle.input.specs.Lines.{ended, longer, takes, takes_all, part, kept, block_length, most_reads}
use Rattle.session.specs.Run.{RunState, start_state, enters, kept_of, flushed, state_of, run_state_of, standing, Stopped, Counted, Ran, RanOver, Ended}
use Rattle.session.specs.declared.run.Run.{Run}
use Rattle.session.specs.declared.run.Lines.{Lines}
use Rattle.session.specs.declared.run.Over.{Over}
use Rattle.session.proofs.Runs.{run-by-block}

-- some bytes were printed before
behind : List ℕ → RunState → RunState
behind p s = record { done = record { card = s.done.card; store = s.done.store; printed = p ++ s.done.printed }; line = s.line }

-- what was printed before changes nothing
takes-behind : (p : List ℕ) (s : RunState) (bs : List ℕ) → takes_all enters (behind p s) bs ≡ behind p (takes_all enters s bs)
unfolding takes_all behind
takes-behind p s [] = refl
takes-behind p s (b ∷ bs) = ap (λ (x : RunState). takes_all enters x bs) (go (eqb b 10)) ∙ takes-behind p (takes enters s b) bs
  where
    e : Entry
    e = entered (cells_for s.done.card.size) s.done.card s.line s.done.store

    go : (lf : Bool) → cond lf (ended enters (behind p s)) (longer (behind p s) (b ∷ [])) ≡ behind p (cond lf (ended enters s) (longer s (b ∷ [])))
    go true =
        λ i. record { done = record { card = e.card; store = e.store; printed = append_assoc p s.done.printed e.printed i }; line = [] }
    go false = refl

behind-flushed : (s : RunState) → behind s.done.printed (flushed s) ≡ s
unfolding behind
behind-flushed s =
    λ i. record { done = record { card = s.done.card; store = s.done.store; printed = append-nil s.done.printed i }; line = s.line }

-- a run is at x, with these totals of bytes taken and printed
pub record Reached (n : ℕ) (x : RunState) (taken printed : ℕ) : Type 0 where
  pub input : List ℕ
  pub stands : flushed x ≡ flushed (kept_of (takes_all enters (start_state n) input))
  pub bytes : length input ≡ taken
  pub prints : length (takes_all enters (start_state n) input).done.printed ≡ printed

pub reached-start : (n : ℕ) (r : Run) (line out : List ℕ) → r.card ≡ fresh_of n → r.len ≡ 0 → r.taken ≡ 0 → r.printed ≡ 0
    → Reached n (run_state_of r (replicate (record_length n config_width) 0) line out) r.taken r.printed
unfolding takes_all start_state
reached-start n r line out card len taken printed =
    record {
      input = [];
      stands = λ i. record { done = record { card = card i; store = replicate (record_length n config_width) 0; printed = [] }; line = take (len i) line };
      bytes = sym taken;
      prints = sym printed;
    }

pub reached-turn : (n : ℕ) (x y : RunState) (bs : List ℕ) (t p t' p' : ℕ) → Reached n x t p → y ≡ kept_of (takes_all enters (flushed x) bs) → t' ≡ t + length bs
    → p' ≡ p + length y.done.printed → Reached n y t' p'
unfolding behind
reached-turn n x y bs t p t' p' r e et ep =
    record {
      input = r.input ++ bs;
      stands = sym (ap flushed whole);
      bytes = length-append r.input bs ∙ ap (λ (n : ℕ). n + length bs) r.bytes ∙ sym et;
      prints = ap (λ (s : RunState). length s.done.printed) whole ∙ length-append old y.done.printed ∙ ap (λ (n : ℕ). n + length
          y.done.printed) r.prints ∙ sym ep;
    }
  where
    before : RunState
    before = kept_of (takes_all enters (start_state n) r.input)

    old : List ℕ
    old = before.done.printed

    -- the whole input brings the run to y, after what was printed before
    whole : kept_of (takes_all enters (start_state n) (r.input ++ bs)) ≡ behind old y
    whole =
        sym (run-by-block (start_state n) r.input bs)
        ∙ ap (λ (s : RunState). kept_of (takes_all enters s bs)) (sym (behind-flushed before))
        ∙ ap kept_of (takes-behind old (flushed before) bs)
        ∙ ap (λ (s : RunState). behind old (kept_of (takes_all enters s bs))) (sym r.stands)
        ∙ ap (behind old) (sym e)

-- ---- between two turns

pub counted-turn : (r q : Run) → Counted r → q.taken ≡ r.taken + q.got → q.printed ≡ r.printed + q.used → q.left + 1 ≡ r.left
    → q.got ≤ block_length → q.used ≤ longest_print * q.got → Counted q
counted-turn r q c taken printed left got used = record { by_reads = omega (arith, c.by_reads); by_bytes = omega (arith, c.by_bytes) }

pub record Underway (n : ℕ) (r : Run) (store line out : List ℕ) : Type 0 where
  pub short : r.len ≤ kept
  pub whole : length line ≡ kept
  pub counted : Counted r
  pub reached : Reached n (run_state_of r store line out) r.taken r.printed
  -- it goes on until a read or a write says otherwise
  pub first : r.left ≡ most_reads → r.going ≡ true
  pub later : r.left < most_reads → r.going ≡ (ltb 0 r.got && r.wrote)
  -- each read but the last gave a byte or more, and the last too while the run goes on
  pub gave : most_reads ≤ r.taken + r.left + 1
  pub gives : r.going ≡ true → most_reads ≤ r.taken + r.left

module _ {n : ℕ} {r : Run} {store line out : List ℕ} (u : Underway n r store line out) where
  pub ran : (input : List ℕ) × Ran n r input
  ran =
      let x = u.reached in
      let fits : r.len ≤ length line = omega (arith, u.short, u.whole) in (
        x.input,
        record {
          taken = x.bytes;
          card = ap (λ (s : RunState). s.done.card) x.stands;
          len = sym (length-take-le r.len line fits) ∙ ap (λ (s : RunState). length s.line) x.stands;
          printed = sym x.prints;
        },
      )

  -- a run that is over has read
  pub has-read : (r.going ≡ true → r.left ≡ 0) → r.left < most_reads
  has-read over = go (dec_lt r.left most_reads)
    where
      go : Dec (r.left < most_reads) → r.left < most_reads
      go (yes h) = h
      go (no h) =
          let most : r.left ≡ most_reads = omega (arith, u.counted.by_reads) in
          omega (arith, over (u.first most))

  pub ended-run : (r.going ≡ true → r.left ≡ 0) → Ended r
  ended-run over = record { by = u.later (has-read over); last = over; read = has-read over; gave = u.gave }

-- a turn that goes on has read a byte or more
pub gives_more : (r q : Run) → most_reads ≤ r.taken + r.left → q.taken ≡ r.taken + q.got → q.left + 1 ≡ r.left
    → q.going ≡ (ltb 0 q.got && q.wrote) → q.going ≡ true → most_reads ≤ q.taken + q.left
gives_more r q h taken left going on =
    let some = ltb-true 0 q.got (and_left (ltb 0 q.got) q.wrote (sym going ∙ on)) in
    omega (arith, some)

-- ---- over the bytes of a buffer

-- a run from the start, over all of its input, where its lines stop
pub ran_over : (n : ℕ) (c : Card) (q : Lines) (input before after store : List ℕ) → c ≡ fresh_of n
    → standing q input store after
    ≡ takes_all enters (state_of (record { card = c; len = 0; used = 0 }) (replicate (record_length n config_width) 0) input before) (part 0 q.end input)
    → Stopped (record { card = c; len = 0; used = 0 }) q (length input) input before after
    → RanOver n (record { card = q.card; taken = q.end; printed = q.used }) input before after
unfolding start_state
ran_over n c q input before after store fresh e s =
    record {
      within = s.within;
      card = ap (λ (x : RunState). x.done.card) whole;
      output = sym (take-append-drop q.used after) ∙ (λ i. (whole i).done.printed ++ s.beyond i);
      printed = sym (length-take-le q.used after fits) ∙ ap (λ (x : RunState). length x.done.printed) whole;
      few = omega (arith, s.few, s.order);
      stops = λ h. (s.at_lf h, s.no_room h);
    }
  where
    all : q.end - 0 ≡ q.end
    all = omega arith

    fits : q.used ≤ length after
    fits = omega (arith, s.fits, s.size)

    whole : standing q input store after ≡ takes_all enters (start_state n) (take q.end input)
    whole =
        e
        ∙ (λ i.
        takes_all enters (record { done = record { card = fresh i; store = replicate (record_length n config_width) 0; printed = [] }; line = [] })
        (take (all i) input))

-- with room for all that it can print, it takes all
pub over-all : (n : ℕ) (r : Over) (input before after : List ℕ) → RanOver n r input before after → longest_print * length input ≤ length before
    → r.taken ≡ length input
over-all n r input before after o room = go (dec_lt r.taken (length input))
  where
    go : Dec (r.taken < length input) → r.taken ≡ length input
    go (yes l) = absurd (omega (arith, (o.stops l).1, o.few, room))
    go (no l) = omega (arith, o.within, l)
