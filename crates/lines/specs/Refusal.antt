-- Document 01, "When the card says no": why a command is refused, by the lowest number that
-- applies.
use Rattle.std.specs.Prelude.{ℕ, Bool, true, false, ◌&&◌, ◌||◌, not, cond, ltb, Option, Some, None}
use Rattle.cells.specs.declared.table.Slots.{Slots}
use Rattle.cells.specs.Table.{slots}
use Rattle.card.specs.declared.context.Context.{Context}
use Rattle.card.specs.Context.{drives_front, preset_drives}
use Rattle.card.specs.Presets.{offered}
use Rattle.card.specs.Valid.{bad_place, bad_cell_type, bad_connector_type, bad_clock, bad_config, no_config, unused_slot, bad_address, bad_state, no_state}
use Rattle.saved.specs.Record.{config_width, record_length}
use Rattle.grammar.specs.declared.grammar.Pairs.{Pairs}
use Rattle.grammar.specs.declared.grammar.Slot.{Slot}
use Rattle.grammar.specs.declared.grammar.Slot.TheVariants.{X, Y, Z, F}
use Rattle.grammar.specs.declared.grammar.Command.{Command}
use Rattle.grammar.specs.declared.grammar.Command.TheVariants.{Move, Where, Trigger, Home, Preset, SetKind, SetConfig, SetState, GetKind, GetConfig}
use Rattle.grammar.specs.declared.grammar.Command.TheVariants.{GetState, SetSlots, GetSlot, Front, Back, Cells, Upper, Save}
use Rattle.grammar.specs.declared.grammar.NoCommand.{NoCommand}
use Rattle.grammar.specs.declared.grammar.NoCommand.TheVariants.{Malformed, Elsewhere}
use Rattle.grammar.specs.Grammar.{given}
use Rattle.lines.specs.declared.refused.Refused.{Refused}
use Rattle.lines.specs.declared.refused.Refused.TheVariants.{NoRoom, NoForm, OtherCard, TooLarge, BadPlace, AtConnector, BadType, BadPreset}
use Rattle.lines.specs.declared.refused.Refused.TheVariants.{BadConfig, UnusedSlot, BadAddress, BadState, FrontDriven}

-- the numbers of the table
abbrev pub number_of : Refused → ℕ
number_of NoRoom = 1
number_of NoForm = 2
number_of OtherCard = 3
number_of TooLarge = 4
number_of BadPlace = 5
number_of AtConnector = 6
number_of BadType = 7
number_of BadPreset = 8
number_of BadConfig = 9
number_of UnusedSlot = 10
number_of BadAddress = 11
number_of BadState = 12
number_of FrontDriven = 13

-- 2: "line of another form or length", 3: "two digits, not 36, before a card command"
abbrev pub of_no_command : NoCommand → Refused
of_no_command Malformed = NoForm
of_no_command Elsewhere = OtherCard

-- a refusal, where the test holds
abbrev pub when : Bool → Refused → Option Refused
when test why = cond test (Some why) None

-- the first of two, else the second
abbrev pub or_else : (a b : Option Refused) → Option Refused
or_else None b = b
or_else (Some why) b = Some why

-- 4: "number over" the largest; document 02, "Long exposures": "A line's number has 1 to 10 digits,
-- and 4 is given above that limit", 4,294,967,295
abbrev pub largest_number : ℕ
largest_number = 4294967295

abbrev pub too_large : ℕ → Bool
too_large v = ltb largest_number v

-- a test of the number that a line gives for a slot
abbrev pub given_and : (ℕ → Bool) → Option ℕ → Bool
given_and bad None = false
given_and bad (Some v) = bad v

-- of the numbers that a line gives for slots
abbrev pub any_given : (ℕ → Bool) → Pairs → Bool
any_given bad p = (given_and bad p.x || given_and bad p.y) || (given_and bad p.z || given_and bad p.f)

abbrev pub any_too_large : Pairs → Bool
any_too_large p = any_given too_large p

abbrev pub any_bad_address : ℕ → Pairs → Bool
any_bad_address n p = any_given (bad_address n) p

-- a slot by itself
abbrev pub alone : Slot → Slots
alone X = slots true false false false
alone Y = slots false true false false
alone Z = slots false false true false
alone F = slots false false false true

-- a command that gives one number v: 4, else the refusal that the test of v gives
abbrev pub judged : (v : ℕ) (bad : Bool) (why : Refused) → Option Refused
judged v bad why = or_else (when (too_large v) TooLarge) (when bad why)

-- the rows of the table that a command can meet, lowest number first; "Reads meet 6, 9, 10 and 12
-- as writes do"
unfoldable pub refusal : (n : ℕ) → Context → (store : ℕ) → Command → Option Refused
refusal n x store (Move v) = judged v (bad_place n v) BadPlace
refusal n x store Where = None
refusal n x store (Trigger v) = judged v (bad_clock v) BadType
refusal n x store Home = None
refusal n x store (Preset v) = or_else (judged v (not (offered n v)) BadPreset) (when (preset_drives n x v) FrontDriven)
refusal n x store (SetKind v) =
    cond x.at_cell (judged v (bad_cell_type v) BadType)
    (or_else (judged v (bad_connector_type v) BadType) (when (drives_front x v) FrontDriven))
refusal n x store (SetConfig v) = cond x.at_cell (judged v (bad_config x.cell.kind v) BadConfig) (judged v (bad_address n v) BadAddress)
refusal n x store (SetState v) = or_else (judged v (not x.at_cell) AtConnector) (when (bad_state x.cell.kind v) BadState)
refusal n x store GetKind = None
refusal n x store GetConfig = when (x.at_cell && no_config x.cell.kind) BadConfig
refusal n x store GetState = or_else (when (not x.at_cell) AtConnector) (when (no_state x.cell.kind) BadState)
refusal n x store (SetSlots p) =
    or_else (or_else (when (any_too_large p) TooLarge) (when (not x.at_cell) AtConnector))
    (or_else (when (unused_slot x.cell.kind (given p)) UnusedSlot) (when (any_bad_address n p) BadAddress))
refusal n x store (GetSlot s) = or_else (when (not x.at_cell) AtConnector) (when (unused_slot x.cell.kind (alone s)) UnusedSlot)
refusal n x store Front = None
refusal n x store Back = None
refusal n x store Cells = None
refusal n x store Upper = None
refusal n x store Save = when (ltb store (record_length n config_width)) NoRoom
