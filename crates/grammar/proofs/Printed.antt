-- The reader is the printer's inverse: the text of a printable command has at most 80 bytes and parses to the command.
use Prim.Native.Nat.{ℕ, zero, suc, ◌+◌, ◌*◌, ◌^◌, ◌≤◌}
use mathlib.Core.Path.{◌≡◌, refl, sym, ap, ◌∙◌}
use mathlib.Core.Bool.{Bool, true, false}
use Rattle.std.specs.Prelude.{Option, Some, None, Ok, option_map, ok_or}
use mathlib.Core.List.{List, [], ◌∷◌, ◌++◌, append-nil}
use native.Mathlib.Nat.{add-zero}
use native.Mathlib.Omega.{arith}
use lib.Dec.{lit≤}
use lib.ListN.{length, get_or, drop, length-append, length-drop}
use lib.Seq.{drop-append_seam, drop-drop, get_or-drop}
use borrow.Author.Tests.{ltb-true, le-leb, le-ltb, lt-ltb, eq-eqb}
use Rattle.text.specs.Decimal.{is_digit, digits_of, decimal, max_digits}
use Rattle.text.proofs.DecimalLaws.{decimal-length, print-reads-at}
use Rattle.text.proofs.DigitLaws.{every_append}
use Rattle.cells.specs.Table.{any_slot}
use Rattle.words.proofs.Bools.{and_left, and_right}
use Rattle.text.specs.Digits.{every}
use Rattle.card.proofs.ValidLaws.{all-four}
use Rattle.grammar.specs.declared.grammar.Pairs.{Pairs}
use Rattle.grammar.specs.declared.grammar.Reading.{Reading}
use Rattle.grammar.specs.declared.grammar.Slot.{Slot}
use Rattle.grammar.specs.declared.grammar.Slot.TheVariants.{X, Y, Z, F}
use Rattle.grammar.specs.declared.grammar.Command.{Command}
use Rattle.grammar.specs.declared.grammar.Command.TheVariants.{Move, Where, Trigger, Home, Preset, SetKind, SetConfig, SetState, GetKind, GetConfig}
use Rattle.grammar.specs.declared.grammar.Command.TheVariants.{GetState, SetSlots, GetSlot, Front, Back, Cells, Upper, Save}
use Rattle.grammar.specs.declared.grammar.NoCommand.TheVariants.{Malformed}
use Rattle.grammar.specs.Grammar.{char_at, is_word, is_whole, to_end, slot_of, no_pairs, pair_of, give, given, begun, pair_read, steps, pairs_of, write_of}
use Rattle.grammar.specs.Grammar.{cca_form, ccb_form, read_form, card_form, plain_form, addressed, longest_line, parse, equals}
use Rattle.grammar.specs.Grammar.{blank, CCA, CCB, M-E=, PM-E=}
use Rattle.grammar.specs.Texts.{letter_of, card_line, cca_text, given_pair, given_pairs, pairs_text, command_text, printable, printable_slot, printable_slots}
use Rattle.grammar.specs.Texts.{printable_command}

-- ---- numbers and letters

digits : (v : ℕ) → printable v ≡ true → length (decimal v) ≤ max_digits
digits v h = decimal-length v max_digits (lit≤ tt) (ltb-true v (10 ^ max_digits) h)

-- a number after a word ends the line
number-ends : (w : List ℕ) (v : ℕ) → printable v ≡ true → to_end (w ++ decimal v) (length w) ≡ Some v
unfolding to_end digits_of
number-ends w v h =
    let t = w ++ decimal v in
    let there : drop (length w) t ≡ decimal v ++ [] = drop-append_seam w (decimal v) ∙ sym (append-nil (decimal v)) in
    let read = print-reads-at t (length w) v [] (ltb-true v (10 ^ max_digits) h) there refl in
    let long = length-append w (decimal v) in
    rw (read, eq-eqb (length w + length (decimal v)) (length t) (sym long))

letter-read : (p : Slot) → slot_of (letter_of p) ≡ Some p
unfolding slot_of
letter-read X = refl
letter-read Y = refl
letter-read Z = refl
letter-read F = refl

-- ---- the two kinds of line

abbrev Sized : List ℕ → Type 0
Sized t = (1 ≤ length t) × (length t ≤ longest_line)

parse_plain : (n : ℕ) (t : List ℕ) → Sized t → is_digit (char_at t 0) ≡ false → parse n t ≡ ok_or (plain_form t) Malformed
unfolding parse
parse_plain n t size letter = rw (le-leb 1 (length t) size.0, le-leb (length t) longest_line size.1, letter)

pub parse-card : (n : ℕ) (t : List ℕ) → Sized (card_line t) → parse n (card_line t) ≡ addressed true (card_form n (card_line t))
unfolding parse is_digit addressed
parse-card n t size = rw (le-leb 1 (length (card_line t)) size.0, le-leb (length (card_line t)) longest_line size.1)

module _ (v : ℕ) (h : printable v ≡ true) where
  -- at most eight bytes of a form, and the number
  number-sized : (w : List ℕ) → 1 ≤ length w → length w ≤ 8 → Sized (w ++ decimal v)
  number-sized w low most =
      let long = length-append w (decimal v) in
      let few = digits v h in
      (omega arith, omega arith)

  move-parses : (n : ℕ) → parse n (M-E= ++ decimal v) ≡ Ok (Move v)
  unfolding plain_form is_word is_digit
  move-parses n = parse_plain n (M-E= ++ decimal v) (number-sized M-E= (lit≤ tt) (lit≤ tt)) refl ∙ rw (number-ends M-E= v h)

  trigger-parses : (n : ℕ) → parse n (PM-E= ++ decimal v) ≡ Ok (Trigger v)
  unfolding plain_form is_word is_digit
  trigger-parses n = parse_plain n (PM-E= ++ decimal v) (number-sized PM-E= (lit≤ tt) (lit≤ tt)) refl ∙ rw (number-ends PM-E= v h)

  cca-sized : (p : Slot) → Sized (cca_text p v)
  cca-sized p = number-sized (card_line (CCA ++ letter_of p ∷ equals ∷ [])) (lit≤ tt) (lit≤ tt)

  cca-parses : (n : ℕ) (p : Slot) → parse n (cca_text p v) ≡ Ok (write_of p v)
  unfolding card_form is_word cca_form addressed
  cca-parses n p = parse-card n _ (cca-sized p) ∙ rw (letter-read p, number-ends (card_line (CCA ++ letter_of p ∷ equals ∷ [])) v h)

-- ---- the pairs of CCB

-- pairs that a line gives on top of p, none of them given before, come to r
pub data Takes : Pairs → List (Slot × ℕ) → Pairs → Type 0 where
  none : {p : Pairs} → Takes p [] p
  next : {p r : Pairs} {s : Slot} {v : ℕ} {pairs : List (Slot × ℕ)} → pair_of p s ≡ None → Takes (give p s v) pairs r → Takes p ((s, v) ∷ pairs) r

-- what is read up to a place
abbrev pub read : Pairs → ℕ → Reading
read p at = record { pairs = p; at = at }

-- what follows a number starts with no digit
pairs-stop : (pairs : List (Slot × ℕ)) → digits_of (pairs_text pairs) ≡ []
unfolding digits_of is_digit pairs_text
pairs-stop [] = refl
pairs-stop (pair ∷ pairs) = refl

-- one step takes one pair
module _ (t : List ℕ) (p : Pairs) (at : ℕ) (s : Slot) (v : ℕ) (rest : List ℕ) (there : drop at t ≡ blank ∷ letter_of s ∷ equals ∷ decimal v ++ rest)
    (stops : digits_of rest ≡ []) (first : pair_of p s ≡ None) (h : printable v ≡ true) where
  byte-there : (i : ℕ) → char_at t (at + i) ≡ char_at (blank ∷ letter_of s ∷ equals ∷ decimal v ++ rest) i
  byte-there i = sym (get_or-drop at t i 0) ∙ ap (λ (l : List ℕ). get_or l i 0) there

  rest-there : drop (at + 3) t ≡ decimal v ++ rest
  rest-there = sym (drop-drop 3 at t) ∙ ap (drop 3) there

  within : at + (3 + length (decimal v ++ rest)) ≡ length t
  within =
      let left = sym (length-drop at t) ∙ ap length there in
      omega arith

  takes_one : pair_read t (read p at) ≡ Some (read (give p s v) (at + 3 + length (decimal v)))
  unfolding pair_read
  takes_one =
      let number = print-reads-at t (at + 3) v rest (ltb-true v (10 ^ max_digits) h) rest-there stops in
      let start : char_at t at ≡ blank = ap (char_at t) (sym (add-zero at)) ∙ byte-there 0 in
      rw (lt-ltb at (length t) (omega (arith, within)), start, byte-there 1, byte-there 2, letter-read s, first, number)

-- the end of the line stays
steps-end : (k : ℕ) (t : List ℕ) (p : Pairs) → steps k t (read p (length t)) ≡ Some (read p (length t))
unfolding steps pair_read
steps-end zero t p = refl
steps-end (suc k) t p = rw (le-ltb (length t) (length t) (omega arith)) (steps-end k t p)

-- enough steps read all pairs
pub pairs-read : {p r : Pairs} {pairs : List (Slot × ℕ)} (t : List ℕ) (at k : ℕ) → Takes p pairs r → every (λ (q : Slot × ℕ). printable q.1) pairs ≡ true
    → length pairs ≤ k → at ≤ length t → drop at t ≡ pairs_text pairs → steps k t (read p at) ≡ Some (read r (length t))
unfolding every pairs_text steps
pairs-read {p} t at k none prints few start there =
    let left = sym (length-drop at t) ∙ ap length there in
    let done : at ≡ length t = omega arith in
    rw done (steps-end k t p)
pairs-read t at zero (next first more) prints few start there = absurd (omega arith)
pairs-read {p} t at (suc k) (next {s = s} {v = v} {pairs = pairs} first more) prints few start there =
    let rest = pairs_text pairs in
    let h = and_left (printable v) _ prints in
    let stops = pairs-stop pairs in
    let left = within t p at s v rest there stops first h in
    let long = length-append (decimal v) rest in
    let beyond : drop (at + 3 + length (decimal v)) t ≡ rest =
    sym (drop-drop (length (decimal v)) (at + 3) t) ∙ ap (drop (length (decimal v))) (rest-there t p at s v rest there stops first h)
    ∙ drop-append_seam (decimal v) rest in
    rw (takes_one t p at s v rest there stops first h)
    (pairs-read t (at + 3 + length (decimal v)) k more (and_right (printable v) _ prints) (omega arith) (omega arith) beyond)

-- the numbers that are given are printable, and one at most for each slot
given-printable : (s : Slot) (o : Option ℕ) → printable_slot o ≡ true → every (λ (q : Slot × ℕ). printable q.1) (given_pair s o) ≡ true
unfolding every
given-printable s None prints = refl
given-printable s (Some v) prints = rw prints

given-few : (s : Slot) (o : Option ℕ) → length (given_pair s o) ≤ 1
given-few s None = lit≤ tt
given-few s (Some v) = lit≤ tt

every-both : {A : Type 0} (f : A → Bool) (xs ys : List A) → every f xs ≡ true → every f ys ≡ true → every f (xs ++ ys) ≡ true
every-both f xs ys a b = rw (every_append f xs ys, a, b)

-- the text of some pairs is at most 13 bytes for each
pub pairs-short : (pairs : List (Slot × ℕ)) → every (λ (q : Slot × ℕ). printable q.1) pairs ≡ true → length (pairs_text pairs) ≤ 13 * length pairs
unfolding every pairs_text
pairs-short [] prints = lit≤ tt
pairs-short (pair ∷ pairs) prints =
    let few = digits pair.1 (and_left (printable pair.1) _ prints) in
    let rest = pairs-short pairs (and_right (printable pair.1) _ prints) in
    let long = length-append (decimal pair.1) (pairs_text pairs) in
    omega arith

-- `36CCB` with pairs is no read
pub no_read : (pairs : List (Slot × ℕ)) → let t = card_line (CCB ++ pairs_text pairs) in ccb_form t ≡ option_map SetSlots (pairs_of t 5)
unfolding ccb_form pairs_text
no_read [] = refl
no_read (pair ∷ pairs) = refl

pub pairs-each : (p : Pairs) → printable_slots p ≡ true → (printable_slot p.x ≡ true) × (printable_slot p.y ≡ true)
    × (printable_slot p.z ≡ true) × (printable_slot p.f ≡ true)
pairs-each p ok = all-four _ _ _ _ ok

-- the pairs of a command, given one by one
pub takes_all_lem : (p : Pairs) → Takes no_pairs (given_pairs p) p
takes_all_lem p = all p.x p.y p.z p.f
  where
    of : (x y z f : Option ℕ) → Pairs
    of x y z f = record { x = x; y = y; z = z; f = f }

    last : (x y z f : Option ℕ) → Takes (of x y z None) (given_pair F f) (of x y z f)
    last x y z None = none
    last x y z (Some v) = next refl none

    third : (x y z f : Option ℕ) → Takes (of x y None None) (given_pair Z z ++ given_pair F f) (of x y z f)
    third x y None f = last x y None f
    third x y (Some v) f = next refl (last x y (Some v) f)

    second : (x y z f : Option ℕ) → Takes (of x None None None) (given_pair Y y ++ (given_pair Z z ++ given_pair F f)) (of x y z f)
    second x None z f = third x None z f
    second x (Some v) z f = next refl (third x (Some v) z f)

    all : (x y z f : Option ℕ) → Takes no_pairs (given_pairs (of x y z f)) (of x y z f)
    all None y z f = second None y z f
    all (Some v) y z f = next refl (second (Some v) y z f)

module _ (n : ℕ) (p : Pairs) (prints : printable_command n (SetSlots p) ≡ true) where
  pub some : any_slot (given p) ≡ true
  unfolding printable_command
  some = and_left (any_slot (given p)) _ prints

  each : (printable_slot p.x ≡ true) × (printable_slot p.y ≡ true) × (printable_slot p.z ≡ true) × (printable_slot p.f ≡ true)
  unfolding printable_command
  each = pairs-each p (and_right (any_slot (given p)) _ prints)

  pub all-printable : every (λ (q : Slot × ℕ). printable q.1) (given_pairs p) ≡ true
  all-printable =
      every-both _ (given_pair X p.x) _ (given-printable X p.x each.0)
      (every-both _ (given_pair Y p.y) _ (given-printable Y p.y each.1)
      (every-both _ (given_pair Z p.z) _ (given-printable Z p.z each.2) (given-printable F p.f each.3)))

  pub at-most-four : length (given_pairs p) ≤ 4
  at-most-four =
      let x = given-few X p.x in
      let y = given-few Y p.y in
      let z = given-few Z p.z in
      let f = given-few F p.f in
      simp length-append (omega arith)

  slots-sized : Sized (card_line (CCB ++ pairs_text (given_pairs p)))
  slots-sized =
      let short = pairs-short (given_pairs p) all-printable in
      let few = at-most-four in
      (omega arith, omega arith)

  slots_read_lem : let t = card_line (CCB ++ pairs_text (given_pairs p)) in pairs_of t 5 ≡ Some p
  unfolding pairs_of steps
  slots_read_lem =
      let t = card_line (CCB ++ pairs_text (given_pairs p)) in
      let all : steps 4 t (begun 5) ≡ Some (read p (length t)) = pairs-read t 5 4 (takes_all_lem p) all-printable at-most-four (omega arith) refl in
      rw (all, eq-eqb (length t) (length t) refl, some)

  slots-parse : parse n (card_line (CCB ++ pairs_text (given_pairs p))) ≡ Ok (SetSlots p)
  unfolding card_form is_word addressed
  slots-parse = parse-card n (CCB ++ pairs_text (given_pairs p)) slots-sized ∙ rw (no_read (given_pairs p), slots_read_lem)

-- ---- every command

-- "One line of 1 to 80 bytes"
pub text-sized : (n : ℕ) (command : Command) → printable_command n command ≡ true
    → (1 ≤ length (command_text command)) × (length (command_text command) ≤ longest_line)
unfolding command_text printable_command
text-sized n (Move v) prints = number-sized v prints M-E= (lit≤ tt) (lit≤ tt)
text-sized n Where prints = (lit≤ tt, lit≤ tt)
text-sized n (Trigger v) prints = number-sized v prints PM-E= (lit≤ tt) (lit≤ tt)
text-sized n Home prints = (lit≤ tt, lit≤ tt)
text-sized n (Preset v) prints = cca-sized v prints X
text-sized n (SetKind v) prints = cca-sized v prints Y
text-sized n (SetConfig v) prints = cca-sized v prints Z
text-sized n (SetState v) prints = cca-sized v prints F
text-sized n GetKind prints = (lit≤ tt, lit≤ tt)
text-sized n GetConfig prints = (lit≤ tt, lit≤ tt)
text-sized n GetState prints = (lit≤ tt, lit≤ tt)
text-sized n (SetSlots p) prints = slots-sized n p prints
text-sized n (GetSlot s) prints = (lit≤ tt, lit≤ tt)
text-sized n Front prints = (lit≤ tt, lit≤ tt)
text-sized n Back prints = (lit≤ tt, lit≤ tt)
text-sized n Cells prints = (lit≤ tt, lit≤ tt)
text-sized n Upper prints = (lit≤ tt, lit≤ tt)
text-sized n Save prints = (lit≤ tt, lit≤ tt)

-- what is printed reads as the command
pub text-parses : (n : ℕ) (command : Command) → printable_command n command ≡ true → parse n (command_text command) ≡ Ok command
unfolding command_text printable_command parse is_digit addressed card_form plain_form is_word is_whole cca_form ccb_form read_form slot_of
text-parses n (Move v) prints = move-parses v prints n
text-parses n Where prints = refl
text-parses n (Trigger v) prints = trigger-parses v prints n
text-parses n Home prints = refl
text-parses n (Preset v) prints = cca-parses v prints n X
text-parses n (SetKind v) prints = cca-parses v prints n Y
text-parses n (SetConfig v) prints = cca-parses v prints n Z
text-parses n (SetState v) prints = cca-parses v prints n F
text-parses n GetKind prints = refl
text-parses n GetConfig prints = refl
text-parses n GetState prints = refl
text-parses n (SetSlots p) prints = slots-parse n p prints
text-parses n (GetSlot X) prints = refl
text-parses n (GetSlot Y) prints = refl
text-parses n (GetSlot Z) prints = refl
text-parses n (GetSlot F) prints = refl
text-parses n Front prints = refl
text-parses n Back prints = refl
text-parses n Cells prints = refl
text-parses n Upper prints = rw prints
text-parses n Save prints = refl
