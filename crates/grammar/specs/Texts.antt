-- Document 01, "Lines": a command as the text of a line, and all texts of a command. `parse` of
-- Grammar.antt takes these and no others: "line of another form or length" is all the rest.
use Rattle.std.specs.Prelude.{ℕ, ◌^◌, ◌≡◌, refl, ◌↔◌, Bool, true, false, ◌&&◌, eqb, ltb, leb, Option, Some, None, Ok, Err}
use Prim.Native.String.{String}
use mathlib.Core.List.{List, [], ◌∷◌, ◌++◌, map, Permᴰ}
use Rattle.text.specs.Decimal.{is_digit, max_digits, decimal_from, decimal}
use Rattle.text.specs.Written.{bytes_of}
use Rattle.cells.specs.Table.{any_slot}
use Rattle.card.specs.Address.{cell_room}
use Rattle.grammar.specs.declared.grammar.Pairs.{Pairs}
use Rattle.grammar.specs.declared.grammar.Slot.{Slot}
use Rattle.grammar.specs.declared.grammar.Slot.TheVariants.{X, Y, Z, F}
use Rattle.grammar.specs.declared.grammar.Command.{Command}
use Rattle.grammar.specs.declared.grammar.Command.TheVariants.{Move, Where, Trigger, Home, Preset, SetKind, SetConfig, SetState, GetKind, GetConfig}
use Rattle.grammar.specs.declared.grammar.Command.TheVariants.{GetState, SetSlots, GetSlot, Front, Back, Cells, Upper, Save}
use Rattle.grammar.specs.declared.grammar.NoCommand.TheVariants.{Elsewhere}
use Rattle.grammar.specs.Grammar.{equals, query, blank, CCA, CCB, RDADC, SS-Z, M-E=, PM-E=, W-E, HOME-E, !-E, given, parse}

-- ---- a command as text

-- the letter of a slot
abbrev pub letter_of : Slot → ℕ
letter_of X = 88
letter_of Y = 89
letter_of Z = 90
letter_of F = 70

-- a card command, after the card's address: "The card's address is 36"
abbrev pub card_line : List ℕ → List ℕ
card_line text = bytes_of "36" ++ text

-- `36CCA p=n`, `36CCA p?`
abbrev pub cca_text : Slot → ℕ → List ℕ
cca_text p v = card_line (CCA ++ letter_of p ∷ equals ∷ decimal v)

abbrev pub read_text : List ℕ → Slot → List ℕ
read_text word p = card_line (word ++ letter_of p ∷ query ∷ [])

-- a pair of CCB, "one to four different `p=n`", where the slot is given
abbrev pub given_pair : Slot → Option ℕ → List (Slot × ℕ)
given_pair s None = []
given_pair s (Some v) = (s, v) ∷ []

-- the pairs that are given, in the order X Y Z F
abbrev pub given_pairs : Pairs → List (Slot × ℕ)
given_pairs p = given_pair X p.x ++ (given_pair Y p.y ++ (given_pair Z p.z ++ given_pair F p.f))

-- each after a blank
unfoldable pub pairs_text : List (Slot × ℕ) → List ℕ
pairs_text [] = []
pairs_text (pair ∷ pairs) = blank ∷ letter_of pair.0 ∷ equals ∷ decimal pair.1 ++ pairs_text pairs

-- the forms of "Lines", with `HOME E` for the two that clear all states
unfoldable pub command_text : Command → List ℕ
command_text (Move v) = M-E= ++ decimal v
command_text Where = W-E
command_text (Trigger v) = PM-E= ++ decimal v
command_text Home = HOME-E
command_text (Preset v) = cca_text X v
command_text (SetKind v) = cca_text Y v
command_text (SetConfig v) = cca_text Z v
command_text (SetState v) = cca_text F v
command_text GetKind = read_text CCA Y
command_text GetConfig = read_text CCA Z
command_text GetState = read_text CCA F
command_text (SetSlots p) = card_line (CCB ++ pairs_text (given_pairs p))
command_text (GetSlot p) = read_text (CCB ++ blank ∷ []) p
command_text Front = read_text RDADC X
command_text Back = read_text RDADC Y
command_text Cells = read_text RDADC Z
command_text Upper = read_text RDADC F
command_text Save = card_line SS-Z

-- ---- the commands that a text can say

-- document 02, "Long exposures": "A line's number has 1 to 10 digits"
abbrev pub printable : ℕ → Bool
printable v = ltb v (10 ^ max_digits)

abbrev pub printable_slot : Option ℕ → Bool
printable_slot None = true
printable_slot (Some v) = printable v

abbrev pub printable_slots : Pairs → Bool
printable_slots p = (printable_slot p.x && printable_slot p.y) && (printable_slot p.z && printable_slot p.f)

-- numbers that have their form, and at least one slot in CCB; and cells 17 to 32 where there are
-- any
unfoldable pub printable_command : ℕ → Command → Bool
printable_command n (Move v) = printable v
printable_command n Where = true
printable_command n (Trigger v) = printable v
printable_command n Home = true
printable_command n (Preset v) = printable v
printable_command n (SetKind v) = printable v
printable_command n (SetConfig v) = printable v
printable_command n (SetState v) = printable v
printable_command n GetKind = true
printable_command n GetConfig = true
printable_command n GetState = true
printable_command n (SetSlots p) = any_slot (given p) && printable_slots p
printable_command n (GetSlot s) = true
printable_command n Front = true
printable_command n Back = true
printable_command n Cells = true
printable_command n Upper = leb cell_room n
printable_command n Save = true

-- ---- all texts of a command

-- those of a command to a card of n cells: the one that it prints as; `! E` too, of HOME; and its
-- pairs in any order, of CCB
pub data Says (n : ℕ) : Command → List ℕ → Type 0 where
  printed : (c : Command) → printable_command n c ≡ true → Says n c (command_text c)
  bang : Says n Home !-E
  ordered : (p : Pairs) (pairs : List (Slot × ℕ)) → printable_command n (SetSlots p) ≡ true → Permᴰ pairs (given_pairs p)
      → Says n (SetSlots p) (card_line (CCB ++ pairs_text pairs))

-- "two digits, not 36, before a card command"
pub data SaysOther (n : ℕ) : List ℕ → Type 0 where
  other : (a b : ℕ) (rest : List ℕ) (c : Command) → is_digit a ≡ true → is_digit b ≡ true → (eqb a 51 && eqb b 54) ≡ false
      → Says n c (card_line rest) → SaysOther n (a ∷ b ∷ rest)

-- a line is a command where it is one of its texts, and nowhere else
pub record Texts (n : ℕ) : Type 0 where
  pub here : (text : List ℕ) (c : Command) → (parse n text ≡ Ok c) ↔ Says n c text
  pub elsewhere : (text : List ℕ) → (parse n text ≡ Err Elsewhere) ↔ SaysOther n text

-- the texts as they are written, one of each command
abbrev rows : List (Command × String)
rows =
    (Move 33, "M E=33")
    ∷ (Where, "W E")
    ∷ (Trigger 4, "PM E=4")
    ∷ (Home, "HOME E")
    ∷ (Preset 47, "36CCA X=47")
    ∷ (SetKind 14, "36CCA Y=14")
    ∷ (SetConfig 65520, "36CCA Z=65520")
    ∷ (SetState 0, "36CCA F=0")
    ∷ (GetKind, "36CCA Y?")
    ∷ (GetConfig, "36CCA Z?")
    ∷ (GetState, "36CCA F?")
    ∷ (SetSlots (record { x = Some 41; y = Some 192; z = None; f = Some 5 }), "36CCB X=41 Y=192 F=5")
    ∷ (GetSlot X, "36CCB X?")
    ∷ (GetSlot Y, "36CCB Y?")
    ∷ (GetSlot Z, "36CCB Z?")
    ∷ (GetSlot F, "36CCB F?")
    ∷ (Front, "36RDADC X?")
    ∷ (Back, "36RDADC Y?")
    ∷ (Cells, "36RDADC Z?")
    ∷ (Upper, "36RDADC F?")
    ∷ (Save, "36SS Z")
    ∷ []

written : (map (λ (e : Command × String). command_text e.0) rows ≡ map (λ (e : Command × String). bytes_of e.1) rows) × (!-E ≡ bytes_of "! E")
unfolding command_text pairs_text decimal_from decimal
written = (refl, refl)
