-- What a reader of lines has given, and what it gives next.
use Rattle.std.specs.Prelude.{ℕ, ◌+◌, ◌≤◌, ◌<◌, min, ◌≡◌, Bool, true, false, cond, List, [], ◌∷◌, ◌++◌, length, get_or, take}
use Rattle.input.specs.Lines.{part, NoLf}
use Rattle.input.specs.declared.reader.Found.{Found}
use Rattle.input.specs.declared.reader.Found.TheVariants.{Line, End, Failure}
use Rattle.input.specs.declared.reader.Reader.{Reader}

-- whether a line was given
abbrev pub is_line : Found → Bool
is_line Line = true
is_line End = false
is_line Failure = false

-- the bytes after the LF of the line given last: they have been read, and belong to lines that
-- come next
abbrev pub pending : Reader → List ℕ → List ℕ
pending r block = part (r.end + 1) r.n block

-- the next line, by the bytes that were pending and those that reads gave: it has no LF, an LF
-- follows it, and what comes then is pending. The line lies in the block; of a line longer
-- than `room` at least the first `room` bytes do. Where there is no further LF, no line is given
pub record Next (room : ℕ) (r q : Reader) (before after : List ℕ) : Type 0 where
  pub read : List ℕ
  pub line : List ℕ
  pub free : NoLf line
  pub bytes : pending r before ++ read ≡ line ++ cond (is_line q.found) (10 ∷ pending q after) []
  pub given : take room (part q.start q.end after) ≡ take room line

-- ---- on the way to it

-- from `from`, no LF is before the reader's end, and one is there unless all that has been
-- read ends there. A reader that goes on may read again
pub record EndsFrom (from : ℕ) (q : Reader) (block : List ℕ) : Type 0 where
  pub behind : from ≤ q.end
  pub within : q.end ≤ q.n
  pub inside : q.n ≤ length block
  pub free : (k : ℕ) → k < q.end → from ≤ k → get_or block k 0 ≡ 10 → ⊥
  pub lf : q.end < q.n → get_or block q.end 0 ≡ 10
  pub more : is_line q.found ≡ true → 0 < q.left

-- after the line given last
pub record Looked (r q : Reader) (block : List ℕ) : Type 0 where
  pub start : q.start ≡ min (r.end + 1) r.n
  pub same : q.n ≡ r.n
  pub ends : EndsFrom q.start q block
  pub left : q.left < r.left

-- after a read: the first bytes of the line that had no LF are at the front, and the new ones
-- after them
pub record Refilled (room : ℕ) (r q : Reader) (before after : List ℕ) : Type 0 where
  pub len : ℕ
  pub start : q.start ≡ 0
  pub front : take len after ≡ take room (part r.start r.n before)
  pub ends : EndsFrom len q after
  pub left : q.left < r.left
