-- What is in a text that was read: its bytes and words, its numbers, and the pairs of CCB in their order.
use Prim.Native.Nat.{ℕ, zero, suc, ◌+◌, ◌^◌, ◌≤◌, ◌<◌}
use mathlib.Core.Path.{◌≡◌, refl, sym, ap, ap₂, subst, ◌∙◌}
use mathlib.Core.Bool.{Bool, true, false, cond, ◌&&◌}
use Rattle.std.specs.Prelude.{Option, Some, None, is_none}
use mathlib.Core.List.Permᴰ
use mathlib.Core.List.{List, [], ◌∷◌, ◌++◌, append-nil, Permᴰ}
use native.Mathlib.Decide.{dec_lt}
use native.Mathlib.Nat.{add-zero, pow-le-pow_right, lt_of_lt_of_le}
use native.Mathlib.Omega.{arith}
use lib.Dec.{eqb, leb, ltb, lit≤}
use lib.ListN.{length, drop, drop_of_length-le, get_or-eq_default}
use lib.Seq.{drop-cons, drop-drop}
use borrow.Author.Tests.{leb-true, eqb-true, lt-ltb}
use Rattle.text.specs.Decimal.{is_digit, digits_of, digit_value, value_from, decimal, max_digits, plain, number_of, number_in, number_at}
use Rattle.text.proofs.DecimalLaws.{digits-rest, digits-all, digit-small, reads-print}
use Rattle.text.proofs.DigitLaws.{value-below}
use Rattle.words.proofs.Bools.{and_left, and_right, and_both}
use Rattle.text.specs.Digits.{every}
use Rattle.grammar.specs.declared.grammar.Pairs.{Pairs}
use Rattle.grammar.specs.declared.grammar.Reading.{Reading}
use Rattle.grammar.specs.declared.grammar.Slot.{Slot}
use Rattle.grammar.specs.declared.grammar.Slot.TheVariants.{X, Y, Z, F}
use Rattle.grammar.specs.Grammar.{char_at, is_word, is_whole, to_end, slot_of, pair_of, give, pair_with, next_pair, pair_read, steps, ◌>>=◌}
use Rattle.grammar.specs.Grammar.{equals, blank}
use Rattle.grammar.specs.Texts.{letter_of, given_pair, given_pairs, pairs_text, printable, printable_slots}
use Rattle.grammar.proofs.Printed.{Takes, read, some}
use Rattle.grammar.proofs.Printed.{pairs-each}
use Rattle.grammar.proofs.Printed.Takes.{none, next}

-- ---- the pairs of CCB in any order

abbrev pub prints : Slot × ℕ → Bool
prints q = printable q.1

pub clash : {A : Type 0} {x : A} → Some x ≡ None → ⊥
clash e = cc

-- two pairs that are given one after the other may change places
record Swapped (p : Pairs) (s u : Slot) (v w : ℕ) : Type 0 where
  first : pair_of p u ≡ None
  second : pair_of (give p u w) s ≡ None
  same : give (give p s v) u w ≡ give (give p u w) s v

swapped : (p : Pairs) (s u : Slot) (v w : ℕ) → pair_of p s ≡ None → pair_of (give p s v) u ≡ None → Swapped p s u v w
swapped p X X v w a b = absurd (clash b)
swapped p X Y v w a b = record { first = b; second = a; same = refl }
swapped p X Z v w a b = record { first = b; second = a; same = refl }
swapped p X F v w a b = record { first = b; second = a; same = refl }
swapped p Y X v w a b = record { first = b; second = a; same = refl }
swapped p Y Y v w a b = absurd (clash b)
swapped p Y Z v w a b = record { first = b; second = a; same = refl }
swapped p Y F v w a b = record { first = b; second = a; same = refl }
swapped p Z X v w a b = record { first = b; second = a; same = refl }
swapped p Z Y v w a b = record { first = b; second = a; same = refl }
swapped p Z Z v w a b = absurd (clash b)
swapped p Z F v w a b = record { first = b; second = a; same = refl }
swapped p F X v w a b = record { first = b; second = a; same = refl }
swapped p F Y v w a b = record { first = b; second = a; same = refl }
swapped p F Z v w a b = record { first = b; second = a; same = refl }
swapped p F F v w a b = absurd (clash b)

pub perm-takes : {xs ys : List (Slot × ℕ)} {p r : Pairs} → Permᴰ xs ys → Takes p xs r → Takes p ys r
perm-takes Permᴰ.nil t = t
perm-takes {p = p} {r} (Permᴰ.cons {l₂ = ys} e d) (next first more) =
    subst (λ (q : Slot × ℕ). Takes p (q ∷ ys) r) e (next first (perm-takes d more))
perm-takes {p = p} {r} (Permᴰ.swap {a' = a'} {l = l} e₁ e₂) (next {s = s} {v = v} a (next {s = u} {v = w} b more)) =
    let x = swapped p s u v w a b in
    let turned = next x.first (next x.second (subst (λ (q : Pairs). Takes q l r) x.same more)) in
    subst (λ (q : Slot × ℕ). Takes p (a' ∷ q ∷ l) r) e₁ (subst (λ (q : Slot × ℕ). Takes p (q ∷ (s, v) ∷ l) r) e₂ turned)
perm-takes (Permᴰ.trans d₁ d₂) t = perm-takes d₂ (perm-takes d₁ t)

pub perm-every : {A : Type 0} {xs ys : List A} (f : A → Bool) → Permᴰ xs ys → every f xs ≡ true → every f ys ≡ true
unfolding every
perm-every f Permᴰ.nil h = h
perm-every f (Permᴰ.cons e d) h = and_both _ _ (ap f (sym e) ∙ and_left (f _) _ h) (perm-every f d (and_right (f _) _ h))
perm-every f (Permᴰ.swap e₁ e₂) h =
    let more = and_right (f _) _ h in
    and_both _ _ (ap f (sym e₂) ∙ and_left (f _) _ more) (and_both _ _ (ap f (sym e₁) ∙ and_left (f _) _ h) (and_right (f _) _ more))
perm-every f (Permᴰ.trans d₁ d₂) h = perm-every f d₂ (perm-every f d₁ h)

pub perm-length : {A : Type 0} {xs ys : List A} → Permᴰ xs ys → length xs ≡ length ys
perm-length Permᴰ.nil = refl
perm-length (Permᴰ.cons e d) = ap suc (perm-length d)
perm-length (Permᴰ.swap e₁ e₂) = refl
perm-length (Permᴰ.trans d₁ d₂) = perm-length d₁ ∙ perm-length d₂

-- one pair more, among the pairs of the command
give-perm : (p : Pairs) (s : Slot) (v : ℕ) → pair_of p s ≡ None → Permᴰ (given_pairs (give p s v)) ((s, v) ∷ given_pairs p)
give-perm p X v e = rw e (Permᴰ.refl _)
give-perm p Y v e = rw e (Permᴰ.middle (Y, v) (given_pair X p.x) _)
give-perm p Z v e =
    let a = given_pair X p.x in
    let b = given_pair Y p.y in
    rw e (Permᴰ.trans (Permᴰ.append_left a (Permᴰ.middle (Z, v) b _)) (Permᴰ.middle (Z, v) a _))
give-perm p F v e =
    let a = given_pair X p.x in
    let b = given_pair Y p.y in
    let c = given_pair Z p.z in
    rw e
    (Permᴰ.trans (Permᴰ.append_left a (Permᴰ.append_left b (Permᴰ.middle (F, v) c [])))
    (Permᴰ.trans (Permᴰ.append_left a (Permᴰ.middle (F, v) b _)) (Permᴰ.middle (F, v) a _)))

-- what pairs come to is a command of these pairs
pub takes-perm : {p r : Pairs} {pairs : List (Slot × ℕ)} → Takes p pairs r → Permᴰ (pairs ++ given_pairs p) (given_pairs r)
takes-perm none = Permᴰ.refl _
takes-perm {p} (next {s = s} {v = v} {pairs = pairs} first more) =
    let inside = Permᴰ.trans (Permᴰ.append_left pairs (give-perm p s v first)) (Permᴰ.middle (s, v) pairs (given_pairs p)) in
    Permᴰ.trans (Permᴰ.symm inside) (takes-perm more)

-- with printable numbers it is printable
give-printable : (p : Pairs) (s : Slot) (v : ℕ) → printable v ≡ true → printable_slots p ≡ true → printable_slots (give p s v) ≡ true
give-printable p X v h ok = let e = pairs-each p ok in rw (h, e.1, e.2, e.3)
give-printable p Y v h ok = let e = pairs-each p ok in rw (e.0, h, e.2, e.3)
give-printable p Z v h ok = let e = pairs-each p ok in rw (e.0, e.1, h, e.3)
give-printable p F v h ok = let e = pairs-each p ok in rw (e.0, e.1, e.2, h)

pub takes-printable : {p r : Pairs} {pairs : List (Slot × ℕ)} → Takes p pairs r → every prints pairs ≡ true → printable_slots p ≡ true → printable_slots r ≡ true
unfolding every
takes-printable none all ok = ok
takes-printable {p} (next {s = s} {v = v} first more) all ok =
    takes-printable more (and_right (printable v) _ all) (give-printable p s v (and_left (printable v) _ all) ok)

-- ---- bytes

-- past the end there is 0
inside : (t : List ℕ) (i b : ℕ) → char_at t i ≡ b → 1 ≤ b → i < length t
inside t i b e h = go (dec_lt i (length t))
  where
    go : Dec (i < length t) → i < length t
    go (yes l) = l
    go (no l) =
        let past : length t ≤ i = omega arith in
        absurd (omega (arith, sym (get_or-eq_default t 0 past) ∙ e))

-- a byte, and what follows it
pub byte-there : (t : List ℕ) (i b : ℕ) → char_at t i ≡ b → 1 ≤ b → drop i t ≡ b ∷ drop (suc i) t
byte-there t i b e h = drop-cons t i 0 (inside t i b e h) ∙ ap (λ (c : ℕ). c ∷ drop (suc i) t) e

-- any byte before it
pub before-there : (t : List ℕ) (i b : ℕ) → char_at t (suc i) ≡ b → 1 ≤ b → drop i t ≡ char_at t i ∷ b ∷ drop (suc (suc i)) t
before-there t i b e h =
    let l = inside t (suc i) b e h in
    drop-cons t i 0 (omega arith) ∙ ap (λ (more : List ℕ). char_at t i ∷ more) (byte-there t (suc i) b e h)

-- a word, none of whose bytes is 0
pub word-there : (w t : List ℕ) (at : ℕ) → every (leb 1) w ≡ true → is_word w at t ≡ true → drop at t ≡ w ++ drop (at + length w) t
unfolding every is_word
word-there [] t at some e = ap (λ (i : ℕ). drop i t) (sym (add-zero at))
word-there (b ∷ w) t at some e =
    let here = eqb-true (char_at t at) b (and_left (eqb (char_at t at) b) _ e) in
    let rest = word-there w t (suc at) (and_right (leb 1 b) _ some) (and_right (eqb (char_at t at) b) _ e) in
    let place : suc at + length w ≡ at + suc (length w) = omega arith in
    byte-there t at b here (leb-true 1 b (and_left (leb 1 b) _ some)) ∙ ap (λ (l : List ℕ). b ∷ l) (rest ∙ ap (λ (i : ℕ). w ++ drop i t) place)

-- and no more
pub whole-there : (w t : List ℕ) → every (leb 1) w ≡ true → is_whole w t ≡ true → t ≡ w
unfolding is_whole
whole-there w t some e =
    let size = eqb-true (length t) (length w) (and_right (is_word w 0 t) _ e) in
    let past : length t ≤ 0 + length w = omega arith in
    word-there w t 0 some (and_left (is_word w 0 t) _ e) ∙ ap (λ (l : List ℕ). w ++ l) (drop_of_length-le t past) ∙ append-nil w

-- ---- letters

pub letter-back : (b : ℕ) (s : Slot) → slot_of b ≡ Some s → letter_of s ≡ b
unfolding slot_of
letter-back b s = go (eqb b 88) (eqb b 89) (eqb b 90) (eqb b 70) refl refl refl refl
  where
    is : (u : Slot) → eqb b (letter_of u) ≡ true → Some u ≡ Some s → letter_of s ≡ b
    is u e h =
        let letter = eqb-true b (letter_of u) e in
        let same : u ≡ s = cc in
        ap letter_of (sym same) ∙ sym letter

    go : (x y z f : Bool) → eqb b 88 ≡ x → eqb b 89 ≡ y → eqb b 90 ≡ z → eqb b 70 ≡ f
        → cond x (Some X) (cond y (Some Y) (cond z (Some Z) (cond f (Some F) None))) ≡ Some s → letter_of s ≡ b
    go true y z f ex ey ez ef e = is X ex e
    go false true z f ex ey ez ef e = is Y ey e
    go false false true f ex ey ez ef e = is Z ez e
    go false false false true ex ey ez ef e = is F ef e
    go false false false false ex ey ez ef e = absurd (clash (sym e))

-- ---- numbers

number-said : (s : List ℕ) → plain (digits_of s) ≡ true → let v = value_from 0 (digits_of s) in (decimal v ≡ digits_of s) × (printable v ≡ true)
unfolding number_of plain
number-said s h =
    let ds = digits_of s in
    let v = value_from 0 ds in
    let reads : number_of ds ≡ Some v = rw (digits-all s, h) in
    let few : length ds ≤ max_digits = leb-true (length ds) max_digits (and_left (leb (length ds) max_digits) _ h) in
    let below : v < 10 ^ (0 + length ds) = value-below 10 is_digit digit_value digit-small ds 0 0 (digits-all s) (lit≤ tt) in
    let less : 0 + length ds ≤ max_digits = omega arith in
    let most : 10 ^ (0 + length ds) ≤ 10 ^ max_digits = pow-le-pow_right (lit≤ tt) less in
    (reads-print ds v reads, lt-ltb v (10 ^ max_digits) (lt_of_lt_of_le below most))

number-there : (t : List ℕ) (at v : ℕ) → let n = number_at t at in n.value ≡ Some v → (drop at t ≡ decimal v ++ drop n.next t) × (printable v ≡ true)
unfolding number_at number_in
number-there t at v = go (plain (digits_of (drop at t))) refl
  where
    ds : List ℕ
    ds = digits_of (drop at t)

    go : (p : Bool) → plain ds ≡ p → cond p (Some (value_from 0 ds)) None ≡ Some v
        → (drop at t ≡ decimal v ++ drop (at + length ds) t) × (printable v ≡ true)
    go false p e = absurd (clash (sym e))
    go true p e =
        let said = number-said (drop at t) p in
        let same : value_from 0 ds ≡ v = cc in
        let text = ap decimal (sym same) ∙ said.0 in (
          sym (digits-rest (drop at t)) ∙ ap₂ (λ (x y : List ℕ). x ++ y) (sym text) (drop-drop (length ds) at t),
          ap printable (sym same) ∙ said.1,
        )

pub ending_there : (t : List ℕ) (at v : ℕ) → to_end t at ≡ Some v → (drop at t ≡ decimal v) × (printable v ≡ true)
unfolding to_end
ending_there t at v = go (eqb (number_at t at).next (length t)) refl
  where
    go : (b : Bool) → eqb (number_at t at).next (length t) ≡ b → cond b (number_at t at).value None ≡ Some v → (drop at t ≡ decimal v) × (printable v ≡ true)
    go true end e =
        let there = number-there t at v e in
        let past = eqb-true (number_at t at).next (length t) end in
        let all : length t ≤ (number_at t at).next = omega arith in
        (there.0 ∙ ap (λ (l : List ℕ). decimal v ++ l) (drop_of_length-le t all) ∙ append-nil (decimal v), there.1)
    go false end e = absurd (clash (sym e))

-- ---- the pairs, read back

pub record Said (t : List ℕ) (p : Pairs) (at : ℕ) (r : Pairs) : Type 0 where
  pub pairs : List (Slot × ℕ)
  pub takes : Takes p pairs r
  pub all : every prints pairs ≡ true
  pub there : drop at t ≡ pairs_text pairs

-- a pair that was read is there
record OneSaid (t : List ℕ) (p : Pairs) (at : ℕ) (r : Reading) : Type 0 where
  slot : Slot
  value : ℕ
  first : pair_of p slot ≡ None
  fits : printable value ≡ true
  after : r.pairs ≡ give p slot value
  there : drop at t ≡ blank ∷ letter_of slot ∷ equals ∷ decimal value ++ drop r.at t

pair-there : (t : List ℕ) (p : Pairs) (at : ℕ) (r : Reading) → next_pair t (read p at) ≡ Some r → OneSaid t p at r
pair-there t p at r = slots (slot_of (char_at t (at + 1))) (number_at t (at + 3)).value refl refl
  where
    there : (s : Slot) (v : ℕ) → slot_of (char_at t (at + 1)) ≡ Some s → (number_at t (at + 3)).value ≡ Some v → (eqb (char_at t at) 32 && eqb (char_at t (at + 2)) 61) ≡ true
        → drop at t ≡ blank ∷ letter_of s ∷ equals ∷ decimal v ++ drop (number_at t (at + 3)).next t
    there s v es ev frame =
        let blanked = eqb-true (char_at t at) blank (and_left (eqb (char_at t at) 32) _ frame) in
        let sign = eqb-true (char_at t (at + 2)) equals (and_right (eqb (char_at t at) 32) _ frame) in
        let one : suc at ≡ at + 1 = omega arith in
        let two : suc (at + 1) ≡ at + 2 = omega arith in
        let three : suc (suc (at + 1)) ≡ at + 3 = omega arith in
        let first = byte-there t at blank blanked (lit≤ tt) ∙ ap (λ (i : ℕ). blank ∷ drop i t) one in
        let rest = before-there t (at + 1) equals (ap (char_at t) two ∙ sign) (lit≤ tt)
        ∙ ap (λ (i : ℕ). char_at t (at + 1) ∷ equals ∷ drop i t) three in
        let letter = sym (letter-back (char_at t (at + 1)) s es) in
        first ∙ ap (λ (l : List ℕ). blank ∷ l) (rest ∙ ap₂ (λ (b : ℕ) (l : List ℕ). b ∷ equals ∷ l) letter (number-there t (at + 3) v ev).0)

    tests : (s : Slot) (v : ℕ) → slot_of (char_at t (at + 1)) ≡ Some s → (number_at t (at + 3)).value ≡ Some v
        → (frame : Bool) (o : Option ℕ) → (eqb (char_at t at) 32 && eqb (char_at t (at + 2)) 61) ≡ frame → pair_of p s ≡ o
        → cond (frame && is_none o) (Some (record { pairs = give p s v; at = (number_at t (at + 3)).next })) None ≡ Some r → OneSaid t p at r
    tests s v es ev true None ef eo e =
        let made : Reading = record { pairs = give p s v; at = (number_at t (at + 3)).next } in
        let same : made ≡ r = cc in
        subst (OneSaid t p at) same
        (record { slot = s; value = v; first = eo; fits = (number-there t (at + 3) v ev).1; after = refl; there = there s v es ev ef })
    tests s v es ev true (Some w) ef eo e = absurd (clash (sym e))
    tests s v es ev false o ef eo e = absurd (clash (sym e))

    slots : (os : Option Slot) (ov : Option ℕ) → slot_of (char_at t (at + 1)) ≡ os → (number_at t (at + 3)).value ≡ ov
        → (os >>= λ s. ov >>= λ v. pair_with t (read p at) s v) ≡ Some r → OneSaid t p at r
    slots None ov es ev e = absurd (clash (sym e))
    slots (Some s) None es ev e = absurd (clash (sym e))
    slots (Some s) (Some v) es ev e = tests s v es ev _ _ refl refl e

pub pairs-said : (k : ℕ) (t : List ℕ) (p : Pairs) (at : ℕ) (r : Reading) → steps k t (read p at) ≡ Some r → r.at ≡ length t → Said t p at r.pairs
unfolding steps pair_read pairs_text every
pairs-said zero t p at r = λ e end.
    let same : read p at ≡ r = cc in
    let past : length t ≤ at = omega (arith, end, ap (λ (q : Reading). q.at) same) in
    subst (λ (q : Reading). Said t p at q.pairs) same (record { pairs = []; takes = none; all = refl; there = drop_of_length-le t past })
pairs-said (suc k) t p at r = go (ltb at (length t)) (next_pair t (read p at)) refl (pairs-said k t)
  where
    go : (more : Bool) (o : Option Reading) → next_pair t (read p at) ≡ o
        → ((q : Pairs) (i : ℕ) (x : Reading) → steps k t (read q i) ≡ Some x → x.at ≡ length t → Said t q i x.pairs)
        → (cond more o (Some (read p at)) >>= steps k t) ≡ Some r → r.at ≡ length t → Said t p at r.pairs
    go false o en said e end = said p at r e end
    go true None en said e end = absurd (clash (sym e))
    go true (Some q) en said e end =
        let one = pair-there t p at q en in
        let rest = said q.pairs q.at r e end in
        record {
          pairs = (one.slot, one.value) ∷ rest.pairs;
          takes = next one.first (subst (λ (x : Pairs). Takes x rest.pairs r.pairs) one.after rest.takes);
          all = and_both _ _ one.fits rest.all;
          there = one.there ∙ ap (λ (l : List ℕ). blank ∷ letter_of one.slot ∷ equals ∷ decimal one.value ++ l) rest.there;
        }
