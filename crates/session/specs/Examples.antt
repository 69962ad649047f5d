-- Tick lines and what lines print, by computation, as tables: what each is read as and prints,
-- beside what it should be.
use Rattle.std.specs.Prelude.{ℕ, ◌≡◌, refl, Bool, true, false, Option, Some, None, List, [], ◌∷◌, ◌++◌, map}
use Prim.Native.String.{String}
use Rattle.text.specs.Digits.{every, value_by}
use Rattle.text.specs.Decimal.{is_digit, decimal_from, decimal}
use Rattle.text.specs.Hex.{hex_digit, hex_digits, is_hex, hex_value, hex_in, hex_at}
use Rattle.text.specs.Written.{bytes_of}
use Rattle.card.specs.Address.{cell_count, cell_room}
use Rattle.ticks.specs.declared.tick.Answer.{Answer}
use Rattle.lines.specs.Line.{ending}
use Rattle.session.specs.declared.TickLine.{TickLine}
use Rattle.session.specs.Session.{tick_line, cell_digits, tick_text, load_text, plain_reply}

ticks : (full : Bool) (code sample attached : ℕ) → Option TickLine
ticks full code sample attached = Some (record { full = full; input = record { code = code; sample = sample; attached = attached } })

-- given, expected
abbrev table : List (String × Option TickLine)
table =
    -- "`T c w a F` or `T c w a Q`"
    ("T 0 0100 ffff Q", ticks false 0 0x0100 0xffff)
    ∷ ("T 9 01af fe00 F", ticks true 9 0x01af 0xfe00)
    -- without the attached word, in capitals, a digit more or less, another blank
    ∷ ("T 0 0100 Q", None)
    ∷ ("T 0 0100 FFFF Q", None)
    ∷ ("T 0 0100 fffff Q", None)
    ∷ ("T 0 0100 fff Q", None)
    ∷ ("T 0 100 ffff Q", None)
    ∷ ("T 0 0100 ffff  Q", None)
    ∷ ("T 0 0100ffff  Q", None)
    ∷ ("T 0 0100 ffff q", None)
    ∷ []

examples : map (λ (e : String × Option TickLine). tick_line (bytes_of e.0)) table ≡ map (λ (e : String × Option TickLine). e.1) table
unfolding ticks every value_by is_digit is_hex hex_value hex_in hex_at tick_line
examples = refl

-- ---- what is printed

ran : (driven cells woken count : ℕ) → Answer
ran driven cells woken count = record { ran = true; driven = driven; cells = cells; woken = woken; count = count }

idle : Answer
idle = record { ran = false; driven = 0; cells = 0; woken = 0; count = 0 }

-- a reply, with CR LF
reply : String → List ℕ
reply text = bytes_of text ++ ending

-- printed; expected, without the LF
abbrev prints : List (List ℕ × String)
prints =
    -- "A tick prints `T` driven, cells, set (hex), count (decimal)": four different words
    (tick_text cell_count (ran 0x0102 0x03af 0x8086 4), "T 0102 03af 8086 4")
    ∷ (tick_text cell_count (ran 0xfedc 0 0xffff 16), "T fedc 0000 ffff 16")
    -- "Cell word and woken set are 32 bits there"
    ∷ (tick_text cell_room (ran 0x0102 0x12345678 0x9abcdef0 18), "T 0102 12345678 9abcdef0 18")
    ∷ (tick_text cell_room (ran 0 0x3 0x00010000 1), "T 0000 00000003 00010000 1")
    -- "or `T -` idle"
    ∷ (tick_text cell_count idle, "T -")
    ∷ (tick_text cell_room idle, "T -")
    -- "`L` ... prints `:A` or `:N-k`"
    ∷ (load_text 0, ":A")
    ∷ (load_text 14, ":N-14")
    ∷ (load_text 15, ":N-15")
    -- "the rest print replies with LF alone"
    ∷ (plain_reply (reply ":A"), ":A")
    ∷ (plain_reply (reply ":A 4294967295"), ":A 4294967295")
    ∷ (plain_reply (reply ":N-5"), ":N-5")
    ∷ []

print-examples : map (λ (e : List ℕ × String). e.0) prints ≡ map (λ (e : List ℕ × String). bytes_of e.1 ++ (10 ∷ [])) prints
unfolding ran idle reply decimal_from decimal hex_digit hex_digits cell_digits tick_text load_text plain_reply
print-examples = refl
