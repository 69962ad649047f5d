-- The longest wiring that a card of n cells prints, if lines can set it: a buffer of this length
-- never gives 16.
use Rattle.std.specs.Prelude.{ℕ, zero, suc, ◌+◌, ◌*◌, ◌≤◌, ◌≡◌, refl, true, length}
use Rattle.text.specs.Decimal.{decimal_from, decimal}
use Rattle.card.specs.declared.card.Card.{Card}
use Rattle.card.specs.Address.{cell_count, cell_room, connector_count, first_cell, first_connector}
use Rattle.card.specs.Valid.{valid_card}
use Rattle.wiring.specs.Print.{wiring_text, print_number}

-- the digits of a cell's type, up to 22, of a configuration, up to 4294967295, of an address, up to
-- 255, of a connector's type and of a clock code
abbrev pub type_digits : ℕ
type_digits = 2

abbrev pub config_digits : ℕ
config_digits = 10

abbrev pub address_digits : ℕ
address_digits = 3

abbrev pub one_digit : ℕ
one_digit = 1

-- `36CCA Y=` with a number and LF; a pair of `36CCB`; its line with four pairs
abbrev pub cca_line : ℕ → ℕ
cca_line digits = 8 + (digits + 1)

abbrev pub ccb_line : ℕ
ccb_line = 5 + (4 * (3 + address_digits) + 1)

-- what follows the place of a cell, and of a connector
abbrev pub cell_lines : ℕ
cell_lines = cca_line type_digits + (cca_line config_digits + ccb_line)

abbrev pub connector_lines : ℕ
connector_lines = cca_line one_digit + cca_line address_digits

-- places from the one at i on, so many of them, each `M E=` with its number and LF, and so many
-- bytes after it
unfoldable pub places : (first each i count : ℕ) → ℕ
places first each i zero = 0
places first each i (suc count) = (4 + (length (decimal (first + i)) + 1)) + (each + places first each (suc i) count)

-- the last line is `PM E=` with its number and LF
unfoldable pub longest : ℕ → ℕ
longest n = places first_cell cell_lines 0 n + (places first_connector connector_lines 0 connector_count + (5 + (one_digit + 1)))

-- of the card of sixteen cells
longest-now : longest cell_count ≡ 1534
unfolding longest places decimal decimal_from
longest-now = refl

-- and of thirty-two
longest-large : longest cell_room ≡ 2606
unfolding longest places decimal decimal_from
longest-large = refl

-- no card that lines can set prints more, so a buffer of that length is never too short
pub record Longest (n : ℕ) : Type 0 where
  pub most : (c : Card) → valid_card n c ≡ true → length (wiring_text n c) ≤ longest n
  pub enough : (c : Card) (size : ℕ) → valid_card n c ≡ true → longest n ≤ size → print_number n c size ≡ 0
