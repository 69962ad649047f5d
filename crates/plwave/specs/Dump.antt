-- What a tick writes to a Value Change Dump (IEEE 1364): for each wire its value, its identifier
-- and LF. Bytes are written as numbers.
use Rattle.std.specs.Prelude.{ℕ, zero, suc, ◌+◌, ◌-◌, Bool, cond, List, [], ◌∷◌, ◌++◌, ltb}
use Rattle.words.specs.Bits.{bit_at}

-- the identifier of wire i: printable bytes, from `!` on, one for the first 94 wires, and two for the others
unfoldable pub code_of : ℕ → List ℕ
code_of i = cond (ltb i 94) ((33 + i) ∷ []) ((33 + (i - 94)) ∷ 33 ∷ [])

-- the wires of a card of thirty-two cells
abbrev pub most_wires : ℕ
most_wires = 96

-- the digit 0 or 1
abbrev pub digit_of : Bool → ℕ
digit_of b = cond b 49 48

-- the value b of wire i, where it is shown
unfoldable pub change_of : ℕ → Bool → Bool → List ℕ
change_of i shown b = cond shown (digit_of b ∷ (code_of i ++ (10 ∷ []))) []

-- the first n bits of a word, those that are in a set, as wires from `from` on
unfoldable pub changes : (from word set n : ℕ) → List ℕ
changes from word set zero = []
changes from word set (suc n) = changes from word set n ++ change_of (from + n) (bit_at set n) (bit_at word n)
