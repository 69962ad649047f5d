-- The printed text, split at LF, is the lines that were printed; so what lines set, the text of a card that calls reach sets on a fresh card.
use Prim.Native.Nat.{ℕ, ◌+◌, ◌≤◌}
use mathlib.Core.Path.{◌≡◌, refl, sym, ap, ◌∙◌}
use mathlib.Core.Bool.{Bool, true, false, not}
use mathlib.Core.List.{List, [], ◌∷◌, ◌++◌, map, append_assoc, append-nil}
use native.Mathlib.Omega.{arith}
use lib.Dec.{eqb}
use lib.ListN.{take}
use borrow.Author.Tests.{ne_eqb, not-true}
use Rattle.text.specs.Digits.{every}
use Rattle.text.specs.Decimal.{is_digit, decimal}
use Rattle.text.proofs.DigitLaws.{both_left, both_right, every_append}
use Rattle.text.proofs.DecimalLaws.{digit_low, decimal-digits}
use Rattle.card.specs.declared.card.Card.{Card}
use Rattle.card.specs.Address.{cell_count, first_cell, first_connector}
use Rattle.card.specs.Connectors.{each}
use Rattle.card.specs.Fresh.{fresh_of}
use Rattle.card.specs.Valid.{valid_card}
use Rattle.grammar.specs.declared.grammar.Slot.{Slot}
use Rattle.grammar.specs.declared.grammar.Slot.TheVariants.{X, Y, Z, F}
use Rattle.grammar.specs.declared.grammar.Command.{Command}
use Rattle.grammar.specs.declared.grammar.Command.TheVariants.{Move, Where, Trigger, Home, Preset, SetKind, SetConfig, SetState, GetKind, GetConfig}
use Rattle.grammar.specs.declared.grammar.Command.TheVariants.{GetState, SetSlots, GetSlot, Front, Back, Cells, Upper, Save}
use Rattle.calls.specs.Calls.{end}
use Rattle.wiring.specs.Settable.{Settable}
use Rattle.grammar.specs.Texts.{letter_of, given_pairs, pairs_text, command_text}
use Rattle.wiring.specs.Wiring.{wiring, wiring_lines}
use Rattle.calls.proofs.Reached.{fresh-reached-valid}
use Rattle.wiring.proofs.Wired.{settable}
use Rattle.wiring.specs.Parts.{line_feed, lines_text, commands_text}
use Rattle.wiring.specs.Print.{wiring_text}
use Rattle.wiring.specs.Feeds.{lines_behind, lines_in, FeedsBack}

-- ---- no line holds LF

abbrev other : ℕ → Bool
other b = not (eqb b line_feed)

abbrev free : List ℕ → Bool
free text = every other text

digits-free : (ds : List ℕ) → every is_digit ds ≡ true → free ds ≡ true
unfolding every
digits-free [] e = refl
digits-free (d ∷ ds) e =
    let low = digit_low d (both_left (is_digit d) (every is_digit ds) e) in
    rw (ne_eqb d line_feed (λ (same : d ≡ line_feed). omega arith)) (digits-free ds (both_right (is_digit d) (every is_digit ds) e))

number-free : (v : ℕ) → free (decimal v) ≡ true
number-free v = digits-free (decimal v) (decimal-digits v)

letter-free : (s : Slot) → eqb (letter_of s) line_feed ≡ false
letter-free X = refl
letter-free Y = refl
letter-free Z = refl
letter-free F = refl

pairs-free : (pairs : List (Slot × ℕ)) → free (pairs_text pairs) ≡ true
unfolding every pairs_text
pairs-free [] = refl
pairs-free (pair ∷ pairs) = rw (letter-free pair.0, every_append other (decimal pair.1) (pairs_text pairs), number-free pair.1) (pairs-free pairs)

line-free : (command : Command) → free (command_text command) ≡ true
unfolding every command_text
line-free (Move v) = number-free v
line-free Where = refl
line-free (Trigger v) = number-free v
line-free Home = refl
line-free (Preset v) = number-free v
line-free (SetKind v) = number-free v
line-free (SetConfig v) = number-free v
line-free (SetState v) = number-free v
line-free GetKind = refl
line-free GetConfig = refl
line-free GetState = refl
line-free (SetSlots p) = pairs-free (given_pairs p)
line-free (GetSlot s) = rw (letter-free s)
line-free Front = refl
line-free Back = refl
line-free Cells = refl
line-free Upper = refl
line-free Save = refl

-- ---- the lines of a text

-- bytes up to the next LF end the line
line-ends : (line bytes rest : List ℕ) → free bytes ≡ true → lines_behind line (bytes ++ (line_feed ∷ rest)) ≡ (line ++ bytes) ∷ lines_behind [] rest
unfolding every lines_behind
line-ends line [] rest e = ap (λ (l : List ℕ). l ∷ lines_behind [] rest) (sym (append-nil line))
line-ends line (b ∷ bs) rest e =
    rw (not-true (eqb b line_feed) (both_left (other b) (free bs) e))
    (line-ends (line ++ (b ∷ [])) bs rest (both_right (other b) (free bs) e)
    ∙ ap (λ (l : List ℕ). l ∷ lines_behind [] rest) (append_assoc line (b ∷ []) bs))

-- what is printed splits into its lines
pub lines-back : (commands : List Command) → lines_in (commands_text commands) ≡ map command_text commands
unfolding commands_text lines_text lines_behind
lines-back [] = refl
lines-back (c ∷ cs) =
    line-ends [] (command_text c) (commands_text cs) (line-free c) ∙ ap (λ (ls : List (List ℕ)). command_text c ∷ ls) (lines-back cs)

pub text-lines : (n : ℕ) (c : Card) → lines_in (wiring_text n c) ≡ wiring_lines c.trigger (take n c.cells) (each c.connectors)
unfolding wiring_text
text-lines n c = lines-back (wiring c.trigger (take n c.cells) (each c.connectors))

-- ---- of a card of n cells, which are no fewer than presets set, and whose places end before those of the connectors

pub feeds_back : (n : ℕ) → cell_count ≤ n → first_cell + n ≤ first_connector → FeedsBack n
unfolding FeedsBack Settable valid_card
feeds_back n more apart calls reply store room =
    let c = end n (fresh_of n) calls in
    let set = settable n reply store c.trigger c.cells c.connectors apart room (fresh-reached-valid n more calls) in
    rw (text-lines n c) set
