-- Laws of a run: what the buffers hold, a line that is cut, and where the lines of a block stop.
use Prim.Native.Nat.{ℕ, ◌+◌, ◌-◌, ◌*◌, ◌≤◌, ◌<◌}
use mathlib.Core.Path.{◌≡◌, refl, sym, ap, ◌∙◌}
use mathlib.Core.List.{List, ◌++◌}
use native.Mathlib.Decide.{dec_lt}
use native.Mathlib.Omega.{arith}
use lib.ListN.{length, take, drop, length-take, length-drop, take-append-drop}
use lib.Seq.{sets, length-sets, sets-eq, take_all, take-append-add, take-append-le, drop-append_seam, drop-append-add, drop-append-le, drop-drop}
use Rattle.text.proofs.Stores.{front}
use Rattle.card.specs.declared.card.Card.{Card}
use Rattle.card.specs.Address.{cells_for}
use Rattle.grammar.specs.Grammar.{longest_line}
use Rattle.session.specs.Session.{longest_print, Entry, entered, event_of}
use Rattle.session.proofs.Long.{entered-long, event-long}
use Rattle.input.specs.Lines.{takes_all, part, kept}
use Rattle.input.proofs.Lines.{block-by-block}
use Rattle.session.specs.declared.run.State.{State}
use Rattle.session.specs.declared.run.Lines.{Lines}
use Rattle.session.specs.Run.{RunState, enters, kept_of, state_of, standing, Stopped}

-- ---- the output

-- what was printed into the back part of the output comes after its front
pub printed-behind : (xs ys post p : List ℕ) (a n : ℕ) → a + longest_print ≤ length xs → n ≤ longest_print → n ≡ length p
    → ys ≡ sets (take (length xs - a) (drop a xs)) 0 p → take (a + n) (take a xs ++ (ys ++ post)) ≡ take a xs ++ p
printed-behind xs ys post p a n ha hn en ey =
    let mid = take (length xs - a) (drop a xs) in
    let all = length-take (length xs - a) (drop a xs) in
    let rest = length-drop a xs in
    let same : length ys ≡ length mid = ap length ey ∙ length-sets mid 0 p in
    let hp : length p ≤ length mid = omega (arith, all, rest) in
    let short : length p ≤ length ys = omega (arith, same) in
    let size : length (take a xs) ≡ a = length-take a xs ∙ omega arith in
    (λ i. take (sym size i + en i) (take a xs ++ (ys ++ post)))
    ∙ take-append-add (take a xs) (ys ++ post) (length p)
    ∙ ap (λ (t : List ℕ). take a xs ++ t) (take-append-le (length p) ys post short ∙ ap (take (length p)) ey ∙ front mid p (length p) refl hp)

-- and what lies beyond is as it was
pub printed-beyond : (xs ys p : List ℕ) (a n : ℕ) → a + longest_print ≤ length xs → n ≤ longest_print → n ≡ length p
    → ys ≡ sets (take (length xs - a) (drop a xs)) 0 p → drop (a + n) (take a xs ++ (ys ++ drop (length xs - a) (drop a xs))) ≡ drop (a + n) xs
printed-beyond xs ys p a n ha hn en ey =
    let mid = take (length xs - a) (drop a xs) in
    let post = drop (length xs - a) (drop a xs) in
    let all = length-take (length xs - a) (drop a xs) in
    let rest = length-drop a xs in
    let same : length ys ≡ length mid = ap length ey ∙ length-sets mid 0 p in
    let hp : 0 + length p ≤ length mid = omega (arith, all, rest) in
    let hm : n ≤ length mid = omega arith in
    let hy : n ≤ length ys = omega (arith, same) in
    let size : length (take a xs) ≡ a = length-take a xs ∙ omega arith in
    let back : 0 + length p ≡ n = omega arith in
    let left : drop n ys ≡ drop n mid =
    (λ i. drop (en i) ((ey ∙ sets-eq p mid 0 hp) i)) ∙ drop-append_seam p (drop (0 + length p) mid) ∙ ap (λ (k : ℕ). drop k mid) back in
    (λ i. drop (sym size i + n) (take a xs ++ (ys ++ post)))
    ∙ drop-append-add (take a xs) (ys ++ post) n
    ∙ drop-append-le n ys post hy
    ∙ ap (λ (l : List ℕ). l ++ post) left
    ∙ sym (drop-append-le n mid post hm)
    ∙ ap (drop n) (take-append-drop (length xs - a) (drop a xs))
    ∙ drop-drop n a xs

-- what is alike from one place on is so from any later one on
pub drop-further : (xs ys : List ℕ) (a b : ℕ) → a ≤ b → drop a xs ≡ drop a ys → drop b xs ≡ drop b ys
drop-further xs ys a b h e =
    let at : a + (b - a) ≡ b = omega arith in
    ap (λ (k : ℕ). drop k xs) (sym at)
    ∙ sym (drop-drop (b - a) a xs)
    ∙ ap (drop (b - a)) e
    ∙ drop-drop (b - a) a ys
    ∙ ap (λ (k : ℕ). drop k ys) at

-- ---- a line that is cut

-- what is the same for all lines that are too long is so for a line and its cut
cut-same : {A : Type 0} (f : List ℕ → A) → ((t u : List ℕ) → longest_line < length t → longest_line < length u → f t ≡ f u) → (l : List ℕ) → f (take kept l) ≡ f l
cut-same f same l = go (dec_lt kept (length l))
  where
    go : Dec (kept < length l) → f (take kept l) ≡ f l
    go (yes h) =
        let e : length (take kept l) ≡ kept = length-take kept l ∙ omega arith in
        same (take kept l) l (omega (arith, e)) (omega arith)
    go (no h) = ap f (take_all kept l (omega arith))

-- it leaves what the whole line would, by the same event
pub entered-cut : (n : ℕ) (c : Card) (l store : List ℕ) → entered n c (take kept l) store ≡ entered n c l store
entered-cut n c l store = cut-same (λ (t : List ℕ). entered n c t store) (λ t u. entered-long n c t u store) l

pub event-cut : (n : ℕ) (c : Card) (l store : List ℕ) → event_of n c (take kept l) store ≡ event_of n c l store
event-cut n c l store = cut-same (λ (t : List ℕ). event_of n c t store) (λ t u. event-long n c t u store) l

enters_cut : (d : Entry) (l : List ℕ) → enters d (take kept l) ≡ enters d l
enters_cut d l =
    ap (λ (e : Entry). record { card = e.card; store = e.store; printed = d.printed ++ e.printed })
    (entered-cut (cells_for d.card.size) d.card l d.store)

-- so a run that takes its input block by block is where all the bytes at once would have brought it
pub run-by-block : (s : RunState) (xs ys : List ℕ) → kept_of (takes_all enters (kept_of (takes_all enters s xs)) ys) ≡ kept_of (takes_all enters s (xs ++ ys))
run-by-block = block-by-block enters kept enters_cut

-- ---- the lines of a block

-- how far a block is taken: the line from `start` to `end` has not ended, or ends there
abbrev pub in_block : State → (block store out : List ℕ) → (start end : ℕ) → RunState
in_block s block store out start end =
    record { done = record { card = s.card; store = store; printed = take s.used out }; line = part start end block }

-- ---- where the lines of a block stop

-- with room for all that they can print, at the end of the bytes
pub room-for-all : (s : State) (r : Lines) (n : ℕ) (block before after : List ℕ) → Stopped s r n block before after
    → s.used + longest_print * (n - s.len) ≤ length before → r.end ≡ n
room-for-all s r n block before after x room = go (dec_lt r.end n)
  where
    go : Dec (r.end < n) → r.end ≡ n
    go (yes l) = absurd (omega (arith, x.no_room l, x.few, x.order, x.behind, room))
    go (no l) = omega (arith, x.within, l)

-- and what is left is kept
pub kept-lines : (x₀ : RunState) (from : ℕ) (r : Lines) (block store out line : List ℕ) (m len : ℕ) → r.end ≡ m
    → standing r block store out ≡ takes_all enters x₀ (part from r.end block) → take len line ≡ take kept (part r.start m block)
    → state_of (record { card = r.card; len = len; used = r.used }) store line out ≡ kept_of (takes_all enters x₀ (part from m block))
kept-lines x₀ from r block store out line m len over e k =
    let d : Entry = record { card = r.card; store = store; printed = take r.used out } in
    (λ i. record { done = d; line = k i })
    ∙ ap (λ (j : ℕ). kept_of (record { done = d; line = part r.start j block })) (sym over)
    ∙ ap kept_of e
    ∙ ap (λ (j : ℕ). kept_of (takes_all enters x₀ (part from j block))) over
