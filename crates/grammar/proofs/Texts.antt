-- The texts of a command are those that parse to it, and no others.
use Prim.Native.Nat.{ℕ, zero, suc, ◌+◌, ◌≤◌}
use mathlib.Core.Path.{◌≡◌, refl, sym, ap, subst, ◌∙◌}
use mathlib.Core.Bool.{Bool, true, false, cond, ◌&&◌, ◌||◌}
use Rattle.std.specs.Prelude.{Option, Some, None, option_map, ok_or, Result, Ok, Err}
use mathlib.Core.List.Permᴰ
use mathlib.Core.List.{List, [], ◌∷◌, ◌++◌, append-nil, Permᴰ}
use native.Mathlib.Omega.{arith}
use lib.Dec.{eqb, leb, ltb, lit≤}
use lib.ListN.{length, drop, drop_of_length-le}
use borrow.Author.Tests.{eqb-true, eq-eqb}
use Rattle.text.specs.Decimal.{is_digit, decimal, number_in, number_at}
use Rattle.text.proofs.DecimalLaws.{digit_low}
use Rattle.cells.specs.Table.{any_slot}
use Rattle.words.proofs.Bools.{and_left, and_right, and_both}
use Rattle.card.specs.Address.{cell_room}
use Rattle.text.specs.Digits.{every}
use Rattle.grammar.specs.declared.grammar.Pairs.{Pairs}
use Rattle.grammar.specs.declared.grammar.Reading.{Reading}
use Rattle.grammar.specs.declared.grammar.Slot.{Slot}
use Rattle.grammar.specs.declared.grammar.Slot.TheVariants.{X, Y, Z, F}
use Rattle.grammar.specs.declared.grammar.Command.{Command}
use Rattle.grammar.specs.declared.grammar.Command.TheVariants.{Move, Where, Trigger, Home, Preset, SetKind, SetConfig, SetState, GetKind, GetConfig}
use Rattle.grammar.specs.declared.grammar.Command.TheVariants.{GetState, SetSlots, GetSlot, Front, Back, Cells, Upper, Save}
use Rattle.grammar.specs.declared.grammar.NoCommand.{NoCommand}
use Rattle.grammar.specs.declared.grammar.NoCommand.TheVariants.{Malformed, Elsewhere}
use Rattle.grammar.specs.Grammar.{char_at, is_word, is_whole, to_end, slot_of, no_pairs, give, given, begun, pair_with, pair_read, steps, finished, pairs_of, write_of, cca_at, ◌>>=◌}
use Rattle.grammar.specs.Grammar.{cca_read, cca_form, ccb_form, read_of, read_form, card_form, plain_form, addressed, longest_line, parse}
use Rattle.grammar.specs.Grammar.{equals, query, blank, CCA, CCB, RDADC, SS-Z, M-E=, PM-E=, W-E, HOME-E, !-E}
use Rattle.grammar.specs.Texts.{letter_of, card_line, cca_text, read_text, given_pairs, pairs_text, command_text, printable}
use Rattle.grammar.specs.Texts.{printable_command}
use Rattle.grammar.specs.Texts.{Says, SaysOther, Texts}
use Rattle.grammar.specs.Texts.Says.{printed, bang, ordered}
use Rattle.grammar.specs.Texts.SaysOther.{other}
use Rattle.grammar.proofs.Printed.{parse-card, read, pairs-read, pairs-short, no_read, some, takes_all_lem, all-printable, at-most-four}
use Rattle.grammar.proofs.Printed.{text-parses}
use Rattle.grammar.proofs.TextParts.{clash, prints, perm-takes, perm-every, perm-length, takes-perm, takes-printable, byte-there, before-there}
use Rattle.grammar.proofs.TextParts.{word-there, whole-there, letter-back, ending_there, Said, pairs-said}

-- ---- what a text is taken for

-- a card of n cells
module _ (n : ℕ) where
  -- nothing is asked of a text of no form
  abbrev Fits : List ℕ → Option Command → Type 0
  Fits t None = Unit {0}
  Fits t (Some c) = Says n c t

  -- a card command, by what follows its address
  abbrev CardFits : List ℕ → Option Command → Type 0
  CardFits u = Fits (card_line u)

  abbrev LineFits : List ℕ → Result Command NoCommand → Type 0
  LineFits t (Err Malformed) = Unit {0}
  LineFits t (Err Elsewhere) = SaysOther n t
  LineFits t (Ok c) = Says n c t

  -- it is the text that the command prints as
  says : (c : Command) (t : List ℕ) → printable_command n c ≡ true → t ≡ command_text c → Says n c t
  says c t h e = subst (Says n c) (sym e) (printed c h)

  write-fits : (p : Slot) (v : ℕ) (u : List ℕ) → printable v ≡ true → card_line u ≡ cca_text p v → CardFits u (Some (write_of p v))
  unfolding command_text printable_command
  write-fits X v u h e = says (Preset v) (card_line u) h e
  write-fits Y v u h e = says (SetKind v) (card_line u) h e
  write-fits Z v u h e = says (SetConfig v) (card_line u) h e
  write-fits F v u h e = says (SetState v) (card_line u) h e

  cca-read-fits : (p : Slot) (u : List ℕ) → card_line u ≡ read_text CCA p → CardFits u (cca_read p)
  unfolding command_text printable_command
  cca-read-fits X u e = tt
  cca-read-fits Y u e = says GetKind (card_line u) refl e
  cca-read-fits Z u e = says GetConfig (card_line u) refl e
  cca-read-fits F u e = says GetState (card_line u) refl e

  slot-fits : (p : Slot) (u : List ℕ) → card_line u ≡ read_text (CCB ++ blank ∷ []) p → CardFits u (Some (GetSlot p))
  unfolding command_text printable_command
  slot-fits p u e = says (GetSlot p) (card_line u) refl e

  read_fits : (p : Slot) (u : List ℕ) → card_line u ≡ read_text RDADC p → CardFits u (read_of n p)
  unfolding command_text printable_command
  read_fits X u e = says Front (card_line u) refl e
  read_fits Y u e = says Back (card_line u) refl e
  read_fits Z u e = says Cells (card_line u) refl e
  read_fits F u e = go (leb cell_room n) refl
    where
      go : (large : Bool) → leb cell_room n ≡ large → CardFits u (cond large (Some Upper) None)
      go true h = says Upper (card_line u) h e
      go false h = tt

  -- a letter of a form
  lettered : (b : ℕ) (form : Slot → Option Command) (u : List ℕ) → ((p : Slot) → letter_of p ≡ b → CardFits u (form p)) → CardFits u (slot_of b >>= form)
  lettered b form u fits = go (slot_of b) refl
    where
      go : (o : Option Slot) → slot_of b ≡ o → CardFits u (o >>= form)
      go None e = tt
      go (Some p) e = fits p (letter-back b p e)

  -- a card command, after any two bytes
  module _ (t : List ℕ) where
    cca-fits : is_word CCA 2 t ≡ true → CardFits (drop 2 t) (cca_form t)
    unfolding cca_form is_word every
    cca-fits word = lettered (char_at t 6) (cca_at t) (drop 2 t) (λ p l. write p l (eqb (char_at t 7) equals) refl)
      where
        there : drop 2 t ≡ CCA ++ drop 6 t
        there = word-there CCA t 2 refl word

        letter : (p : Slot) → letter_of p ≡ char_at t 6 → (sign : ℕ) (rest : List ℕ) → 1 ≤ sign → char_at t 7 ≡ sign → drop 8 t ≡ rest
            → card_line (drop 2 t) ≡ card_line (CCA ++ letter_of p ∷ sign ∷ rest)
        letter p l sign rest h e r =
            ap card_line (there ∙ ap (λ (more : List ℕ). CCA ++ more) (before-there t 6 sign e h ∙ (λ i. sym l i ∷ sign ∷ r i)))

        number : (p : Slot) → letter_of p ≡ char_at t 6 → (o : Option ℕ) → to_end t 8 ≡ o → eqb (char_at t 7) equals ≡ true
            → CardFits (drop 2 t) (option_map (write_of p) o)
        number p l None o sign = tt
        number p l (Some v) o sign =
            let end = ending_there t 8 v o in
            write-fits p v (drop 2 t) end.1 (letter p l equals (decimal v) (lit≤ tt) (eqb-true (char_at t 7) equals sign) end.0)

        ask : (p : Slot) → letter_of p ≡ char_at t 6 → (q : Bool) → (eqb (char_at t 7) query && eqb (length t) 8) ≡ q
            → CardFits (drop 2 t) (cond q (cca_read p) None)
        ask p l false e = tt
        ask p l true e =
            let size = eqb-true (length t) 8 (and_right (eqb (char_at t 7) query) _ e) in
            let sign = eqb-true (char_at t 7) query (and_left (eqb (char_at t 7) query) _ e) in
            let past : length t ≤ 8 = omega arith in
            cca-read-fits p (drop 2 t) (letter p l query [] (lit≤ tt) sign (drop_of_length-le t past))

        write : (p : Slot) → letter_of p ≡ char_at t 6 → (w : Bool) → eqb (char_at t 7) equals ≡ w
            → CardFits (drop 2 t) (cond w (option_map (write_of p) (to_end t 8)) (cond (eqb (char_at t 7) query && eqb (length t) 8) (cca_read p) None))
        write p l true e = number p l (to_end t 8) refl e
        write p l false e = ask p l (eqb (char_at t 7) query && eqb (length t) 8) refl

    -- the pairs that were read make the command
    slots-fit : (o : Option Reading) → drop 2 t ≡ CCB ++ drop 5 t → ((r : Reading) → o ≡ Some r → r.at ≡ length t → Said t no_pairs 5 r.pairs)
        → CardFits (drop 2 t) (option_map SetSlots (o >>= finished t))
    unfolding printable_command
    slots-fit None there said = tt
    slots-fit (Some r) there said = go (eqb r.at (length t)) (any_slot (given r.pairs)) refl refl
      where
        go : (end any : Bool) → eqb r.at (length t) ≡ end → any_slot (given r.pairs) ≡ any
            → CardFits (drop 2 t) (option_map SetSlots (cond (end && any) (Some r.pairs) None))
        go true true e₁ e₂ =
            let x = said r refl (eqb-true r.at (length t) e₁) in
            let perm = Permᴰ.trans (Permᴰ.symm (Permᴰ.append-nil x.pairs)) (takes-perm x.takes) in
            let ok = and_both _ _ e₂ (takes-printable x.takes x.all refl) in
            subst (λ (u : List ℕ). Says n (SetSlots r.pairs) (card_line u)) (sym (there ∙ ap (λ (l : List ℕ). CCB ++ l) x.there))
            (ordered r.pairs x.pairs ok perm)
        go true false e₁ e₂ = tt
        go false any e₁ e₂ = tt

    ccb-fits : is_word CCB 2 t ≡ true → CardFits (drop 2 t) (ccb_form t)
    unfolding ccb_form pairs_of is_word every
    ccb-fits word = go (eqb (char_at t 5) blank) (eqb (char_at t 7) query) (eqb (length t) 8) refl refl refl
      where
        there : drop 2 t ≡ CCB ++ drop 5 t
        there = word-there CCB t 2 refl word

        pairs : CardFits (drop 2 t) (option_map SetSlots (steps 4 t (begun 5) >>= finished t))
        pairs = slots-fit (steps 4 t (begun 5)) there (pairs-said 4 t no_pairs 5)

        ask : (o : Option Slot) → slot_of (char_at t 6) ≡ o → eqb (char_at t 5) blank ≡ true → eqb (char_at t 7) query ≡ true → eqb (length t) 8 ≡ true
            → CardFits (drop 2 t) (option_map GetSlot o)
        ask None o e₁ e₂ e₃ = tt
        ask (Some p) o e₁ e₂ e₃ =
            let l = letter-back (char_at t 6) p o in
            let size = eqb-true (length t) 8 e₃ in
            let past : length t ≤ 8 = omega arith in
            let first = byte-there t 5 blank (eqb-true (char_at t 5) blank e₁) (lit≤ tt) in
            let rest = before-there t 6 query (eqb-true (char_at t 7) query e₂) (lit≤ tt) in
            slot-fits p (drop 2 t)
            (ap (λ (m : List ℕ). card_line m)
            (there ∙ ap (λ (m : List ℕ). CCB ++ m) (first ∙ ap (λ (m : List ℕ). blank ∷ m) (rest ∙ (λ i. sym l i ∷ query ∷ drop_of_length-le t past i)))))

        go : (a b c : Bool) → eqb (char_at t 5) blank ≡ a → eqb (char_at t 7) query ≡ b → eqb (length t) 8 ≡ c
            → CardFits (drop 2 t) (cond ((a && b) && c) (option_map GetSlot (slot_of (char_at t 6))) (option_map SetSlots (pairs_of t 5)))
        go true true true e₁ e₂ e₃ = ask (slot_of (char_at t 6)) refl e₁ e₂ e₃
        go true true false e₁ e₂ e₃ = pairs
        go true false c e₁ e₂ e₃ = pairs
        go false b c e₁ e₂ e₃ = pairs

    rdadc-fits : is_word RDADC 2 t ≡ true → CardFits (drop 2 t) (read_form n t)
    unfolding read_form is_word every
    rdadc-fits word = go (eqb (char_at t 9) query) (eqb (length t) 10) refl refl
      where
        go : (a b : Bool) → eqb (char_at t 9) query ≡ a → eqb (length t) 10 ≡ b
            → CardFits (drop 2 t) (cond (a && b) (slot_of (char_at t 8) >>= read_of n) None)
        go true true e₁ e₂ =
            let size = eqb-true (length t) 10 e₂ in
            let past : length t ≤ 10 = omega arith in
            let rest = before-there t 8 query (eqb-true (char_at t 9) query e₁) (lit≤ tt) in
            lettered (char_at t 8) (read_of n) (drop 2 t)
            (λ p l. read_fits p (drop 2 t)
            (ap card_line (word-there RDADC t 2 refl word ∙ ap (λ (m : List ℕ). RDADC ++ m) (rest ∙ (λ i. sym l i ∷ query ∷ drop_of_length-le t past i)))))
        go true false e₁ e₂ = tt
        go false b e₁ e₂ = tt

    save-fits : is_word SS-Z 2 t ≡ true → eqb (length t) 6 ≡ true → Says n Save (card_line (drop 2 t))
    unfolding is_word every command_text printable_command
    save-fits word end =
        let size = eqb-true (length t) 6 end in
        let past : length t ≤ 6 = omega arith in
        says Save (card_line (drop 2 t)) refl
        (ap card_line (word-there SS-Z t 2 refl word ∙ ap (λ (l : List ℕ). SS-Z ++ l) (drop_of_length-le t past) ∙ append-nil SS-Z))

    card-fits : CardFits (drop 2 t) (card_form n t)
    unfolding card_form
    card-fits = cca (is_word CCA 2 t) refl
      where
        ssz : (a b : Bool) → is_word SS-Z 2 t ≡ a → eqb (length t) 6 ≡ b → CardFits (drop 2 t) (cond (a && b) (Some Save) None)
        ssz true true e₁ e₂ = save-fits e₁ e₂
        ssz true false e₁ e₂ = tt
        ssz false b e₁ e₂ = tt

        rdadc : (w : Bool) → is_word RDADC 2 t ≡ w
            → CardFits (drop 2 t) (cond w (read_form n t) (cond (is_word SS-Z 2 t && eqb (length t) 6) (Some Save) None))
        rdadc true e = rdadc-fits e
        rdadc false e = ssz (is_word SS-Z 2 t) (eqb (length t) 6) refl refl

        ccb : (w : Bool) → is_word CCB 2 t ≡ w → CardFits (drop 2 t) (cond w (ccb_form t)
            (cond (is_word RDADC 2 t) (read_form n t) (cond (is_word SS-Z 2 t && eqb (length t) 6) (Some Save) None)))
        ccb true e = ccb-fits e
        ccb false e = rdadc (is_word RDADC 2 t) refl

        cca : (w : Bool) → is_word CCA 2 t ≡ w → CardFits (drop 2 t) (cond w (cca_form t) (cond (is_word CCB 2 t) (ccb_form t)
            (cond (is_word RDADC 2 t) (read_form n t) (cond (is_word SS-Z 2 t && eqb (length t) 6) (Some Save) None))))
        cca true e = cca-fits e
        cca false e = ccb (is_word CCB 2 t) refl

    -- ---- the commands with no address

    numbered-fits : (at : ℕ) (w : List ℕ) (make : ℕ → Command) → t ≡ w ++ drop at t
        → ((v : ℕ) → printable v ≡ true → printable_command n (make v) ≡ true) → ((v : ℕ) → w ++ decimal v ≡ command_text (make v))
        → Fits t (option_map make (to_end t at))
    numbered-fits at w make there prints texts = go (to_end t at) refl
      where
        go : (o : Option ℕ) → to_end t at ≡ o → Fits t (option_map make o)
        go None e = tt
        go (Some v) e =
            let end = ending_there t at v e in
            says (make v) t (prints v end.1) (there ∙ ap (λ (l : List ℕ). w ++ l) end.0 ∙ texts v)

    plain_fits : Fits t (plain_form t)
    unfolding plain_form is_word every command_text printable_command
    plain_fits = move (is_word M-E= 0 t) refl
      where
        home : (a b : Bool) → is_whole HOME-E t ≡ a → is_whole !-E t ≡ b → Fits t (cond (a || b) (Some Home) None)
        home true b e₁ e₂ = says Home t refl (whole-there HOME-E t refl e₁)
        home false true e₁ e₂ = subst (Says n Home) (sym (whole-there !-E t refl e₂)) bang
        home false false e₁ e₂ = tt

        where_to : (w : Bool) → is_whole W-E t ≡ w → Fits t (cond w (Some Where) (cond (is_whole HOME-E t || is_whole !-E t) (Some Home) None))
        where_to true e = says Where t refl (whole-there W-E t refl e)
        where_to false e = home (is_whole HOME-E t) (is_whole !-E t) refl refl

        trigger : (w : Bool) → is_word PM-E= 0 t ≡ w → Fits t (cond w (option_map Trigger (to_end t 5))
            (cond (is_whole W-E t) (Some Where) (cond (is_whole HOME-E t || is_whole !-E t) (Some Home) None)))
        trigger true e = numbered-fits 5 PM-E= Trigger (word-there PM-E= t 0 refl e) (λ v h. h) (λ v. refl)
        trigger false e = where_to (is_whole W-E t) refl

        move : (w : Bool) → is_word M-E= 0 t ≡ w → Fits t (cond w (option_map Move (to_end t 4)) (cond (is_word PM-E= 0 t) (option_map Trigger (to_end t 5))
            (cond (is_whole W-E t) (Some Where) (cond (is_whole HOME-E t || is_whole !-E t) (Some Home) None))))
        move true e = numbered-fits 4 M-E= Move (word-there M-E= t 0 refl e) (λ v h. h) (λ v. refl)
        move false e = trigger (is_word PM-E= 0 t) refl

  -- ---- every line

  addressed-fits : (a b : ℕ) (u : List ℕ) (here : Bool) (q : Option Command) → is_digit a ≡ true → is_digit b ≡ true → (eqb a 51 && eqb b 54) ≡ here
      → CardFits u q → LineFits (a ∷ b ∷ u) (addressed here q)
  unfolding addressed
  addressed-fits a b u here None da db e fits = tt
  addressed-fits a b u true (Some c) da db e fits =
      let three = eqb-true a 51 (and_left (eqb a 51) (eqb b 54) e) in
      let six = eqb-true b 54 (and_right (eqb a 51) (eqb b 54) e) in
      subst (Says n c) (λ i. sym three i ∷ sym six i ∷ u) fits
  addressed-fits a b u false (Some c) da db e fits = other a b u c da db e fits

  -- a line of a command with no address
  plain_line : (t : List ℕ) (q : Option Command) → Fits t q → LineFits t (ok_or q Malformed)
  plain_line t None fits = tt
  plain_line t (Some c) fits = fits

  line-fits : (t : List ℕ) → LineFits t (parse n t)
  unfolding parse
  line-fits t = size (leb 1 (length t) && leb (length t) longest_line)
    where
      a : ℕ
      a = char_at t 0

      b : ℕ
      b = char_at t 1

      digits : (x y : Bool) → is_digit a ≡ x → is_digit b ≡ y
          → LineFits t (cond (x && y) (addressed (eqb a 51 && eqb b 54) (card_form n t)) (ok_or (plain_form t) Malformed))
      digits true true da db =
          let low = digit_low b db in
          let some : 1 ≤ b = omega arith in
          let there : t ≡ a ∷ b ∷ drop 2 t = before-there t 0 b refl some in
          subst (λ (l : List ℕ). LineFits l (addressed (eqb a 51 && eqb b 54) (card_form n t))) (sym there)
          (addressed-fits a b (drop 2 t) (eqb a 51 && eqb b 54) (card_form n t) da db refl (card-fits t))
      digits true false da db = plain_line t (plain_form t) (plain_fits t)
      digits false y da db = plain_line t (plain_form t) (plain_fits t)

      size : (s : Bool)
          → LineFits t (cond s (cond (is_digit a && is_digit b) (addressed (eqb a 51 && eqb b 54) (card_form n t)) (ok_or (plain_form t) Malformed)) (Err Malformed))
      size true = digits (is_digit a) (is_digit b) refl refl
      size false = tt

  -- ---- and each of its texts parses to a command

  ordered-parses : (p : Pairs) (pairs : List (Slot × ℕ)) → printable_command n (SetSlots p) ≡ true → Permᴰ pairs (given_pairs p)
      → parse n (card_line (CCB ++ pairs_text pairs)) ≡ Ok (SetSlots p)
  unfolding card_form is_word pairs_of addressed
  ordered-parses p pairs ok perm =
      let t = card_line (CCB ++ pairs_text pairs) in
      let back = Permᴰ.symm perm in
      let takes = perm-takes back (takes_all_lem p) in
      let all : every prints pairs ≡ true = perm-every prints back (all-printable n p ok) in
      let few : length pairs ≤ 4 = omega (arith, perm-length perm, at-most-four n p ok) in
      let short = pairs-short pairs all in
      let read_all : steps 4 t (begun 5) ≡ Some (read p (length t)) = pairs-read t 5 4 takes all few (omega arith) refl in
      parse-card n (CCB ++ pairs_text pairs) (omega arith, omega arith)
      ∙ rw (no_read pairs, read_all, eq-eqb (length t) (length t) refl, some n p ok)

  says-parses : {c : Command} {t : List ℕ} → Says n c t → parse n t ≡ Ok c
  unfolding parse is_digit plain_form is_word is_whole
  says-parses (printed c ok) = text-parses n c ok
  says-parses bang = refl
  says-parses (ordered p pairs ok perm) = ordered-parses p pairs ok perm

  -- ---- the address of a card, and what follows it

  -- the two bytes of an address are no part of the card command
  module _ (a b c d : ℕ) (u : List ℕ) where
    far : (i : ℕ) → 2 ≤ i → char_at (a ∷ b ∷ u) i ≡ char_at (c ∷ d ∷ u) i
    far zero h = absurd (omega arith)
    far (suc zero) h = absurd (omega arith)
    far (suc (suc i)) h = refl

    far-drop : (i : ℕ) → 2 ≤ i → drop i (a ∷ b ∷ u) ≡ drop i (c ∷ d ∷ u)
    far-drop zero h = absurd (omega arith)
    far-drop (suc zero) h = absurd (omega arith)
    far-drop (suc (suc i)) h = refl

    pair_same : (r : Reading) → 2 ≤ r.at → pair_read (a ∷ b ∷ u) r ≡ pair_read (c ∷ d ∷ u) r
    unfolding pair_read number_at
    pair_same r h =
        rw (far r.at h, far (r.at + 1) (omega arith), far (r.at + 2) (omega arith), far-drop (r.at + 3) (omega arith))

    pair_far : (t : List ℕ) (r q : Reading) → 2 ≤ r.at → pair_read t r ≡ Some q → 2 ≤ q.at
    unfolding pair_read number_at number_in
    pair_far t r q h = go (ltb r.at (length t)) (slot_of (char_at t (r.at + 1))) (number_at t (r.at + 3)).value
      where
        made : Pairs → Reading
        made p = record { pairs = p; at = (number_at t (r.at + 3)).next }

        found : (p : Pairs) (b : Bool) → cond b (Some (made p)) None ≡ Some q → 2 ≤ q.at
        found p true e =
            let same : made p ≡ q = cc in
            omega (arith, ap (λ (x : Reading). x.at) same)
        found p false e = absurd (clash (sym e))

        go : (more : Bool) (os : Option Slot) (ov : Option ℕ) → cond more (os >>= λ s. ov >>= λ v. pair_with t r s v) (Some r) ≡ Some q → 2 ≤ q.at
        go true None ov e = absurd (clash (sym e))
        go true (Some s) None e = absurd (clash (sym e))
        go true (Some s) (Some v) e = found (give r.pairs s v) _ e
        go false os ov e =
            let same : r ≡ q = cc in
            omega (arith, ap (λ (x : Reading). x.at) same)

    steps-same : (k : ℕ) (r : Reading) → 2 ≤ r.at → steps k (a ∷ b ∷ u) r ≡ steps k (c ∷ d ∷ u) r
    unfolding steps
    steps-same zero r h = refl
    steps-same (suc k) r h = go (pair_read (a ∷ b ∷ u) r) refl (steps-same k) ∙ ap (λ (o : Option Reading). o >>= steps k (c ∷ d ∷ u)) (pair_same r h)
      where
        go : (o : Option Reading) → pair_read (a ∷ b ∷ u) r ≡ o → ((q : Reading) → 2 ≤ q.at → steps k (a ∷ b ∷ u) q ≡ steps k (c ∷ d ∷ u) q)
            → (o >>= steps k (a ∷ b ∷ u)) ≡ (o >>= steps k (c ∷ d ∷ u))
        go None e same = refl
        go (Some q) e same = same q (pair_far (a ∷ b ∷ u) r q h e)

    ccb-same : ccb_form (a ∷ b ∷ u) ≡ ccb_form (c ∷ d ∷ u)
    unfolding ccb_form pairs_of
    ccb-same =
        let t = a ∷ b ∷ u in
        ap (λ (o : Option Reading). cond ((eqb (char_at t 5) blank && eqb (char_at t 7) query) && eqb (length t) 8) (option_map GetSlot (slot_of (char_at t 6)))
        (option_map SetSlots (o >>= finished t))) (steps-same 4 (begun 5) (lit≤ tt))

    card-same : card_form n (a ∷ b ∷ u) ≡ card_form n (c ∷ d ∷ u)
    unfolding card_form is_word cca_form read_form to_end number_at
    card-same =
        let t = a ∷ b ∷ u in
        ap (λ (q : Option Command). cond (is_word CCA 2 t) (cca_form t) (cond (is_word CCB 2 t) q
        (cond (is_word RDADC 2 t) (read_form n t) (cond (is_word SS-Z 2 t && eqb (length t) 6) (Some Save) None)))) ccb-same

  other-parses : {t : List ℕ} → SaysOther n t → parse n t ≡ Err Elsewhere
  unfolding parse is_digit addressed
  other-parses (other a b rest c da db not36 said) =
      let t = card_line rest in
      rw (da, db, not36, card-same a b 51 54 rest) (go (leb 1 (length t) && leb (length t) longest_line) (card_form n (card_line rest)) (says-parses said))
    where
      clash-ok : Err Malformed ≡ Ok c → ⊥
      clash-ok e = cc

      go : (s : Bool) (q : Option Command) → cond s (addressed true q) (Err Malformed) ≡ Ok c → cond s (addressed false q) (Err Malformed) ≡ Err Elsewhere
      go true None e = absurd (clash-ok e)
      go true (Some d) e = refl
      go false q e = absurd (clash-ok e)

  pub texts : Texts n
  texts =
      record {
        here = λ t c. (λ e. subst (LineFits t) e (line-fits t), says-parses);
        elsewhere = λ t. (λ e. subst (LineFits t) e (line-fits t), other-parses);
      }
