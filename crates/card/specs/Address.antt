-- Document 01, "Addresses": which bases are cells' and connectors', and what an address is made of:
-- its base, whether it is inverted, whether it is an edge. What it reads is in
-- ticks/specs/Reading.
use Rattle.std.specs.Prelude.{ℕ, ◌+◌, ◌%◌, Bool, cond, ◌&&◌, ◌||◌, ◌==◌, nat_le, nat_lt}

-- document 01: "1-16 cells", the number of cells of a small card
abbrev pub cell_count : ℕ
cell_count = 16

-- document 02, "Thirty-two cells": the number of cells of a large card, for which every card has
-- room
abbrev pub cell_room : ℕ
cell_room = 32

-- a card's number of cells by its size: 32, and 16 for any other number
unfoldable pub cells_for : ℕ → ℕ
cells_for size = cond (size == cell_room) cell_room cell_count

-- "33-40 front connectors BNC1-8, 41-48 backplane TTL0-7"
abbrev pub connector_count : ℕ
connector_count = 16

-- how many of the connectors are on the front, BNC1-8; the others are on the backplane
abbrev pub front_count : ℕ
front_count = 8

abbrev pub on_backplane : ℕ → Bool
on_backplane k = nat_le front_count k

-- the first base of the cells and of the connectors
abbrev pub first_cell : ℕ
first_cell = 1

abbrev pub first_connector : ℕ
first_connector = 33

-- base b is one of the count bases from `first` on
abbrev pub among : (first count b : ℕ) → Bool
among first count b = nat_le first b && nat_lt b (first + count)

-- a base that is 0, a cell's or a connector's; the others are reserved
unfoldable pub permitted_base : (n b : ℕ) → Bool
permitted_base n b = b == 0 || (among first_cell n b || among first_connector connector_count b)

-- "An address is 0 to 255"
abbrev pub address_count : ℕ
address_count = 256

-- "its base is the address mod 64"
abbrev pub base_of : ℕ → ℕ
base_of a = a % 64

-- "Inverted is 1 for 64-127 and 192-255"
abbrev pub is_inverted : ℕ → Bool
is_inverted a = among 64 64 a || among 192 64 a

-- "edge is 1 from 128": the first address of an edge
abbrev pub edge_address : ℕ
edge_address = 128

abbrev pub is_edge : ℕ → Bool
is_edge a = nat_le edge_address a
