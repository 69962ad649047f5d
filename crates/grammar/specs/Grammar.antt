-- Document 01, "Lines": the forms of a line, from its bytes to a command.
use Rattle.std.specs.Prelude.{ℕ, zero, suc, ◌+◌, Bool, true, ◌&&◌, ◌||◌, cond, List, [], ◌∷◌, eqb, leb, ltb, length, get_or}
use Rattle.std.specs.Prelude.{Option, Some, None, is_some, is_none, option_map, option_and_then, ok_or, Result, Ok, Err}
use Rattle.text.specs.Decimal.{is_digit, number_at}
use Rattle.text.specs.Written.{bytes_of}
use Rattle.cells.specs.declared.table.Slots.{Slots}
use Rattle.cells.specs.Table.{slots, any_slot}
use Rattle.card.specs.Address.{cell_room}
use Rattle.grammar.specs.declared.grammar.Pairs.{Pairs}
use Rattle.grammar.specs.declared.grammar.Reading.{Reading}
use Rattle.grammar.specs.declared.grammar.Slot.{Slot}
use Rattle.grammar.specs.declared.grammar.Slot.TheVariants.{X, Y, Z, F}
use Rattle.grammar.specs.declared.grammar.Command.{Command}
use Rattle.grammar.specs.declared.grammar.Command.TheVariants.{Move, Where, Trigger, Home, Preset, SetKind, SetConfig, SetState, GetKind, GetConfig}
use Rattle.grammar.specs.declared.grammar.Command.TheVariants.{GetState, SetSlots, GetSlot, Front, Back, Cells, Upper, Save}
use Rattle.grammar.specs.declared.grammar.NoCommand.{NoCommand}
use Rattle.grammar.specs.declared.grammar.NoCommand.TheVariants.{Malformed, Elsewhere}

-- a step that may come to nothing, and what follows it
infixl 10 ◌>>=◌
abbrev pub ◌>>=◌ : {A B : Type 0} → Option A → (A → Option B) → Option B
o >>= f = option_and_then f o

-- ---- bytes and words

-- the byte at a place; past the end 0, which is no letter of a form
abbrev pub char_at : List ℕ → ℕ → ℕ
char_at t at = get_or t at 0

-- a word is at a place of the line
unfoldable pub is_word : List ℕ → ℕ → List ℕ → Bool
is_word [] at t = true
is_word (w ∷ ws) at t = eqb (char_at t at) w && is_word ws (suc at) t

-- the line is a word and no more
unfoldable pub is_whole : List ℕ → List ℕ → Bool
is_whole word t = is_word word 0 t && eqb (length t) (length word)

-- the number from a place to the end of the line
unfoldable pub to_end : List ℕ → ℕ → Option ℕ
to_end t at = cond (eqb (number_at t at).next (length t)) (number_at t at).value None

-- a slot's letter: X, Y, Z, F
unfoldable pub slot_of : ℕ → Option Slot
slot_of b = cond (eqb b 88) (Some X) (cond (eqb b 89) (Some Y) (cond (eqb b 90) (Some Z) (cond (eqb b 70) (Some F) None)))

-- ---- the pairs of CCB: "one to four different `p=n`", each after one blank, in any order

abbrev pub no_pairs : Pairs
no_pairs = record { x = None; y = None; z = None; f = None }

-- the number given for a slot
abbrev pub pair_of : Pairs → Slot → Option ℕ
pair_of p X = p.x
pair_of p Y = p.y
pair_of p Z = p.z
pair_of p F = p.f

abbrev pub give : Pairs → Slot → ℕ → Pairs
give p X v = record { x = Some v; y = p.y; z = p.z; f = p.f }
give p Y v = record { x = p.x; y = Some v; z = p.z; f = p.f }
give p Z v = record { x = p.x; y = p.y; z = Some v; f = p.f }
give p F v = record { x = p.x; y = p.y; z = p.z; f = Some v }

-- the slots that are given
abbrev pub given : Pairs → Slots
given p = slots (is_some p.x) (is_some p.y) (is_some p.z) (is_some p.f)

-- nothing read yet, at a place
abbrev pub begun : ℕ → Reading
begun at = record { pairs = no_pairs; at = at }

-- a blank and a letter not given before, `=` and a number v: the pair that they make
abbrev pub pair_with : List ℕ → Reading → Slot → ℕ → Option Reading
pair_with t r s v =
    cond ((eqb (char_at t r.at) 32 && eqb (char_at t (r.at + 2)) 61) && is_none (pair_of r.pairs s))
    (Some (record { pairs = give r.pairs s v; at = (number_at t (r.at + 3)).next })) None

abbrev pub next_pair : List ℕ → Reading → Option Reading
next_pair t r = do
  s ← slot_of (char_at t (r.at + 1))
  v ← (number_at t (r.at + 3)).value
  pair_with t r s v

-- one pair more, unless the line has ended
unfoldable pub pair_read : List ℕ → Reading → Option Reading
pair_read t r = cond (ltb r.at (length t)) (next_pair t r) (Some r)

-- so many steps
unfoldable pub steps : ℕ → List ℕ → Reading → Option Reading
steps zero t r = Some r
steps (suc k) t r = pair_read t r >>= steps k t

-- all pairs were read to the end of the line, and there is one
abbrev pub finished : List ℕ → Reading → Option Pairs
finished t r = cond (eqb r.at (length t) && any_slot (given r.pairs)) (Some r.pairs) None

-- there are four letters, so four steps reach the end of any well-formed line
unfoldable pub pairs_of : List ℕ → ℕ → Option Pairs
pairs_of t at = steps 4 t (begun at) >>= finished t

-- ---- the forms: a command, or none

-- `36CCA p=n`
abbrev pub write_of : Slot → ℕ → Command
write_of X v = Preset v
write_of Y v = SetKind v
write_of Z v = SetConfig v
write_of F v = SetState v

-- `36CCA p?` "reads Y, Z or F"
abbrev pub cca_read : Slot → Option Command
cca_read X = None
cca_read Y = Some GetKind
cca_read Z = Some GetConfig
cca_read F = Some GetState

-- the bytes `=` and `?`, and the blank
abbrev pub equals : ℕ
equals = 61

abbrev pub query : ℕ
query = 63

abbrev pub blank : ℕ
blank = 32

-- after `36CCA `, at place 6
abbrev pub cca_at : List ℕ → Slot → Option Command
cca_at t p =
    cond (eqb (char_at t 7) equals) (option_map (write_of p) (to_end t 8)) (cond (eqb (char_at t 7) query && eqb (length t) 8) (cca_read p) None)

unfoldable pub cca_form : List ℕ → Option Command
cca_form t = slot_of (char_at t 6) >>= cca_at t

-- after `36CCB`, at place 5: `36CCB p?`, or pairs
unfoldable pub ccb_form : List ℕ → Option Command
ccb_form t =
    cond ((eqb (char_at t 5) blank && eqb (char_at t 7) query) && eqb (length t) 8) (option_map GetSlot (slot_of (char_at t 6)))
    (option_map SetSlots (pairs_of t 5))

-- `36RDADC X?` front levels, `Y?` backplane, `Z?` cells; document 02, "Thirty-two cells": "`36RDADC
-- F?` reads cells 17 to 32", where there are any
abbrev pub read_of : ℕ → Slot → Option Command
read_of n X = Some Front
read_of n Y = Some Back
read_of n Z = Some Cells
read_of n F = cond (leb cell_room n) (Some Upper) None

-- after `36RDADC `, at place 8
unfoldable pub read_form : ℕ → List ℕ → Option Command
read_form n t = cond (eqb (char_at t 9) query && eqb (length t) 10) (slot_of (char_at t 8) >>= read_of n) None

-- the words of the forms
abbrev pub CCA : List ℕ
CCA = bytes_of "CCA "

abbrev pub CCB : List ℕ
CCB = bytes_of "CCB"

abbrev pub RDADC : List ℕ
RDADC = bytes_of "RDADC "

abbrev pub SS-Z : List ℕ
SS-Z = bytes_of "SS Z"

abbrev pub M-E= : List ℕ
M-E= = bytes_of "M E="

abbrev pub PM-E= : List ℕ
PM-E= = bytes_of "PM E="

abbrev pub W-E : List ℕ
W-E = bytes_of "W E"

abbrev pub HOME-E : List ℕ
HOME-E = bytes_of "HOME E"

abbrev pub !-E : List ℕ
!-E = bytes_of "! E"

-- a card command, after the two digits of a card's address
unfoldable pub card_form : ℕ → List ℕ → Option Command
card_form n t =
    cond (is_word CCA 2 t) (cca_form t)
    (cond (is_word CCB 2 t) (ccb_form t)
    (cond (is_word RDADC 2 t) (read_form n t) (cond (is_word SS-Z 2 t && eqb (length t) 6) (Some Save) None)))

-- the commands with no address
unfoldable pub plain_form : List ℕ → Option Command
plain_form t =
    cond (is_word M-E= 0 t) (option_map Move (to_end t 4))
    (cond (is_word PM-E= 0 t) (option_map Trigger (to_end t 5))
    (cond (is_whole W-E t) (Some Where) (cond (is_whole HOME-E t || is_whole !-E t) (Some Home) None)))

-- "The card's address is 36"; "two digits, not 36, before a card command"
unfoldable pub addressed : Bool → Option Command → Result Command NoCommand
addressed here None = Err Malformed
addressed here (Some c) = cond here (Ok c) (Err Elsewhere)

-- "One line of 1 to 80 bytes"
abbrev pub longest_line : ℕ
longest_line = 80

unfoldable pub parse : ℕ → List ℕ → Result Command NoCommand
parse n t =
    cond (leb 1 (length t) && leb (length t) longest_line)
    (cond (is_digit (char_at t 0) && is_digit (char_at t 1)) (addressed (eqb (char_at t 0) 51 && eqb (char_at t 1) 54) (card_form n t))
    (ok_or (plain_form t) Malformed))
    (Err Malformed)
