-- Document 01, "Lines", and rows 2 and 3 of "When the card says no": texts, and what each is taken
-- for, as one table by computation. Its readings: one blank where the forms show one, capitals
-- only, no other byte before, between or after.
use Rattle.std.specs.Prelude.{ℕ, ◌≡◌, refl, List, [], ◌∷◌, map, Option, Some, None, Result, Ok, Err}
use Prim.Native.String.{String}
use Rattle.text.specs.Digits.{value_by}
use Rattle.text.specs.Decimal.{is_digit, digits_of, leads, plain, number_in, number_at}
use Rattle.text.specs.Written.{bytes_of}
use Rattle.card.specs.Address.{cell_count, cell_room}
use Rattle.grammar.specs.declared.grammar.Slot.{Slot}
use Rattle.grammar.specs.declared.grammar.Slot.TheVariants.{X, Y, Z, F}
use Rattle.grammar.specs.declared.grammar.Command.{Command}
use Rattle.grammar.specs.declared.grammar.Command.TheVariants.{Front, Back, Cells}
use Rattle.grammar.specs.declared.grammar.NoCommand.{NoCommand}
use Rattle.grammar.specs.declared.grammar.NoCommand.TheVariants.{Malformed, Elsewhere}
use Rattle.grammar.specs.Grammar.{is_word, is_whole, to_end, slot_of, pair_read, steps, pairs_of, cca_form}
use Rattle.grammar.specs.Grammar.{ccb_form, read_of, read_form, card_form, plain_form, addressed, parse}

-- the number that the form alone gives: 2, 3, or none
form : Result Command NoCommand → ℕ
form (Err Malformed) = 2
form (Err Elsewhere) = 3
form (Ok c) = 0

-- of a line to a card of n cells
number : ℕ → String → ℕ
number n text = form (parse n (bytes_of text))

-- a text and its number, on either card
abbrev forms : List (String × ℕ)
forms =
    -- each form of document 01, and document 02's numbers of ten digits
    ("M E=1", 0)
    ∷ ("W E", 0)
    ∷ ("PM E=4", 0)
    ∷ ("HOME E", 0)
    ∷ ("! E", 0)
    ∷ ("36CCA X=5", 0)
    ∷ ("36CCA Y=1", 0)
    ∷ ("36CCA Z=1", 0)
    ∷ ("36CCA F=1", 0)
    ∷ ("36CCA Y?", 0)
    ∷ ("36CCA Z?", 0)
    ∷ ("36CCA F?", 0)
    ∷ ("36CCB X=1", 0)
    ∷ ("36CCB F=4 Z=3 Y=2 X=1", 0)
    ∷ ("36CCB X?", 0)
    ∷ ("36CCB F?", 0)
    ∷ ("36RDADC X?", 0)
    ∷ ("36RDADC Y?", 0)
    ∷ ("36RDADC Z?", 0)
    ∷ ("36SS Z", 0)
    ∷ ("M E=0", 0)
    ∷ ("M E=9999999999", 0)
    -- one byte less, or one more
    ∷ ("", 2)
    ∷ ("M E=", 2)
    ∷ ("M E=1 ", 2)
    ∷ ("M E=1\r", 2)
    ∷ (" M E=1", 2)
    ∷ ("W ", 2)
    ∷ ("W E ", 2)
    ∷ ("PM E=", 2)
    ∷ ("PM E=4 ", 2)
    ∷ ("HOME ", 2)
    ∷ ("HOME E ", 2)
    ∷ ("! ", 2)
    ∷ ("! E ", 2)
    ∷ ("36CCA Y=", 2)
    ∷ ("36CCA Y=1 ", 2)
    ∷ ("36CCA Y", 2)
    ∷ ("36CCA Y? ", 2)
    ∷ ("36CCA Y?1", 2)
    ∷ ("36CCB X=", 2)
    ∷ ("36CCB X=1 ", 2)
    ∷ ("36CCB X", 2)
    ∷ ("36CCB X? ", 2)
    ∷ ("36CCB X?1", 2)
    ∷ ("36CCB ", 2)
    ∷ ("36RDADC X", 2)
    ∷ ("36RDADC X? ", 2)
    ∷ ("36RDADC X?1", 2)
    ∷ ("36SS ", 2)
    ∷ ("36SS Z ", 2)
    ∷ ("36SS Z1", 2)
    ∷ ("36SS Z  ", 2)
    ∷ ("36SS Z=1", 2)
    ∷ ("36SS Z?", 2)
    -- a blank too few or too many, a small letter, another sign
    ∷ ("ME=1", 2)
    ∷ ("M  E=1", 2)
    ∷ ("WE", 2)
    ∷ ("!", 2)
    ∷ ("!E", 2)
    ∷ ("HOMEE", 2)
    ∷ ("36CCAY=1", 2)
    ∷ ("36CCA  Y=1", 2)
    ∷ ("36CCBX=1", 2)
    ∷ ("36CCB  X=1", 2)
    ∷ ("36RDADCX?", 2)
    ∷ ("36SSZ", 2)
    ∷ ("m E=1", 2)
    ∷ ("M e=1", 2)
    ∷ ("36cca Y=1", 2)
    ∷ ("36CCA y=1", 2)
    ∷ ("36ss Z", 2)
    ∷ ("M E:1", 2)
    ∷ ("36CCA Y 1", 2)
    ∷ ("36CCA Y!", 2)
    -- forms that only the source page has, or that mix two
    ∷ ("M E?", 2)
    ∷ ("PM E?", 2)
    ∷ ("W E?", 2)
    ∷ ("W E=1", 2)
    ∷ ("HOME", 2)
    ∷ ("HOME E=0", 2)
    ∷ ("! F", 2)
    ∷ ("36CCA X?", 2)
    ∷ ("36CCA Y=1 Z=1", 2)
    ∷ ("36CCB", 2)
    ∷ ("36RDADC", 2)
    ∷ ("36RDADC X=1", 2)
    ∷ ("36RDADC X? Y?", 2)
    ∷ ("36SS X", 2)
    ∷ ("36SS Y", 2)
    ∷ ("36SS F", 2)
    ∷ ("36CCA Q=1", 2)
    ∷ ("36CCA Q?", 2)
    ∷ ("36CCB Q=1", 2)
    ∷ ("36CCB Q?", 2)
    ∷ ("36RDADC Q?", 2)
    -- numbers: a sign, a leading zero, eleven digits, none
    ∷ ("M E=+1", 2)
    ∷ ("M E=-1", 2)
    ∷ ("M E=01", 2)
    ∷ ("M E=00", 2)
    ∷ ("M E=10000000000", 2)
    ∷ ("M E=1a", 2)
    ∷ ("36CCA Y=01", 2)
    ∷ ("36CCB X=01", 2)
    ∷ ("PM E=10000000000", 2)
    -- pairs: a letter twice, five, no blank between, two blanks, a comma, a read among them
    ∷ ("36CCB X=1 X=2", 2)
    ∷ ("36CCB Y=1 Y=2", 2)
    ∷ ("36CCB Z=1 Z=2", 2)
    ∷ ("36CCB Z=1 X=2 Z=1", 2)
    ∷ ("36CCB X=1 Y=2 X=3", 2)
    ∷ ("36CCB F=1 F=1", 2)
    ∷ ("36CCB X=1 Y=2 Z=3 F=4 X=5", 2)
    ∷ ("36CCB X=1Y=2", 2)
    ∷ ("36CCB X=1  Y=2", 2)
    ∷ ("36CCB X=1,Y=2", 2)
    ∷ ("36CCB X=1 Y?", 2)
    ∷ ("36CCB X? Y?", 2)
    ∷ ("36CCB X=1 Y", 2)
    -- an address of one digit or three, after a blank, before a command that has none
    ∷ ("6CCA Y=1", 2)
    ∷ ("3CCA Y=1", 2)
    ∷ ("036CCA Y=1", 2)
    ∷ ("36 CCA Y=1", 2)
    ∷ ("CCA Y=1", 2)
    ∷ ("36M E=1", 2)
    ∷ ("36W E", 2)
    ∷ ("36PM E=4", 2)
    ∷ ("36HOME E", 2)
    ∷ ("36! E", 2)
    ∷ ("35M E=1", 2)
    ∷ ("35W E", 2)
    ∷ ("3ACCA Y=1", 2)
    ∷ ("36", 2)
    ∷ ("35", 2)
    -- 3: two other digits before a card command, and 2 before anything else
    ∷ ("35CCA Y=1", 3)
    ∷ ("35CCA X=51", 3)
    ∷ ("35CCA Z?", 3)
    ∷ ("35CCB X=1", 3)
    ∷ ("35CCB F=4 X=1", 3)
    ∷ ("35CCB F?", 3)
    ∷ ("35RDADC X?", 3)
    ∷ ("35RDADC Z?", 3)
    ∷ ("35SS Z", 3)
    ∷ ("00SS Z", 3)
    ∷ ("37SS Z", 3)
    ∷ ("46SS Z", 3)
    ∷ ("63CCA Y=1", 3)
    ∷ ("99CCA F?", 3)
    ∷ ("35CCA X?", 2)
    ∷ ("35CCA Q=1", 2)
    ∷ ("35CCB", 2)
    ∷ ("35CCB X=1 X=2", 2)
    ∷ ("35CCA Y=1 ", 2)
    ∷ ("35RDADC X", 2)
    ∷ ("35RDADC Q?", 2)
    ∷ ("35SS X", 2)
    ∷ ("35SS Z ", 2)
    ∷ []

-- document 02, "Thirty-two cells": "`36RDADC F?` reads cells 17 to 32", and a card that has none of
-- them does not know the form
abbrev sizes : List (ℕ × ℕ)
sizes =
    (number cell_count "36RDADC F?", 2)
    ∷ (number cell_count "35RDADC F?", 2)
    ∷ (number cell_room "36RDADC F?", 0)
    ∷ (number cell_room "35RDADC F?", 3)
    ∷ (number cell_room "36RDADC F? ", 2)
    ∷ (number cell_room "36RDADC F", 2)
    ∷ []

expected : List ℕ
expected = map (λ (e : String × ℕ). e.1) forms

on-either : (map (λ (e : String × ℕ). number cell_count e.0) forms ≡ expected) × (map (λ (e : String × ℕ). number cell_room e.0) forms ≡ expected)
unfolding form number expected value_by is_digit digits_of leads plain number_in number_at is_word is_whole to_end slot_of pair_read steps pairs_of cca_form ccb_form read_form card_form plain_form addressed parse
on-either = (refl, refl)

by_size : map (λ (e : ℕ × ℕ). e.0) sizes ≡ map (λ (e : ℕ × ℕ). e.1) sizes
unfolding form number value_by is_digit digits_of leads plain number_in number_at is_word is_whole to_end slot_of pair_read steps pairs_of cca_form ccb_form read_form card_form plain_form addressed parse
by_size = refl

-- document 02, "Thirty-two cells": at sixteen cells as before, `36RDADC X?` front levels, `Y?`
-- backplane, `Z?` cells, and no other letter

read_before : Slot → Option Command
read_before X = Some Front
read_before Y = Some Back
read_before Z = Some Cells
read_before F = None

read-before : (s : Slot) → read_of cell_count s ≡ read_before s
unfolding read_before
read-before X = refl
read-before Y = refl
read-before Z = refl
read-before F = refl
