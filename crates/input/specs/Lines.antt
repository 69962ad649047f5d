-- Document 01, "One run": lines of input end at LF, each is taken when its LF comes, and what
-- follows the last LF is dropped, since no LF comes. What is done with a line is a parameter,
-- so that every program takes its lines by this definition.
use Rattle.std.specs.Prelude.{ℕ, ◌+◌, ◌-◌, ◌^◌, ◌<◌, ◌≡◌, Bool, cond, List, [], ◌∷◌, ◌++◌, eqb, length, get_or, take, drop}

-- ---- what bytes of input do

-- after some bytes: what the lines that have ended did, and the line that has not
pub record Taken (A : Type 0) : Type 0 where
  pub done : A
  pub line : List ℕ

abbrev pub is_lf : ℕ → Bool
is_lf b = eqb b 10

-- LF: the line has ended, and its step is made
abbrev pub ended : {A : Type 0} → (A → List ℕ → A) → Taken A → Taken A
ended step s = record { done = step s.done s.line; line = [] }

-- other bytes make the line longer
abbrev pub longer : {A : Type 0} → Taken A → List ℕ → Taken A
longer s more = record { done = s.done; line = s.line ++ more }

-- a byte of input, and all of them
abbrev pub takes : {A : Type 0} → (A → List ℕ → A) → Taken A → ℕ → Taken A
takes step s b = cond (is_lf b) (ended step s) (longer s (b ∷ []))

unfoldable pub takes_all : {A : Type 0} → (A → List ℕ → A) → Taken A → List ℕ → Taken A
takes_all step s [] = s
takes_all step s (b ∷ bs) = takes_all step (takes step s b) bs

-- ---- what a program keeps

-- the bytes from one place to another
abbrev pub part : (from to : ℕ) → List ℕ → List ℕ
part from to l = take (to - from) (drop from l)

-- no byte of them is LF
abbrev pub NoLf : List ℕ → Type 0
NoLf l = (k : ℕ) → k < length l → get_or l k 0 ≡ 10 → ⊥

-- of a line that has not ended only the first bytes are kept
abbrev pub cut_to : {A : Type 0} → ℕ → Taken A → Taken A
cut_to n s = record { done = s.done; line = take n s.line }

-- of a card line or a tick: more than the 80 bytes of the longest, so that a longer one, cut to
-- these, is still too long
abbrev pub kept : ℕ
kept = 96

-- a block of input
abbrev pub block_length : ℕ
block_length = 2048

-- the bytes of a buffer: a line that has not ended, and a block of input
abbrev pub buffer_length : ℕ
buffer_length = kept + block_length

-- the reads of a run
abbrev pub most_reads : ℕ
most_reads = 2 ^ 47
