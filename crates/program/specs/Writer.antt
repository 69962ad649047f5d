-- The limit of what waits to be written.
use Rattle.std.specs.Prelude.{ℕ}

-- the bytes of the buffer
abbrev pub room_length : ℕ
room_length = 65536
