-- A test of every entry of a list; and digits in any base: the number that they say, highest first.
use Rattle.std.specs.Prelude.{ℕ, ◌+◌, ◌*◌, Bool, true, ◌&&◌, List, [], ◌∷◌}

-- every entry of a list passes the test
unfoldable pub every : {A : Type 0} → (A → Bool) → List A → Bool
every f [] = true
every f (x ∷ xs) = f x && every f xs

-- the number that acc's digits and then these say; d is the value of a byte
unfoldable pub value_by : (base : ℕ) → (ℕ → ℕ) → (acc : ℕ) → List ℕ → ℕ
value_by base d acc [] = acc
value_by base d acc (b ∷ bs) = value_by base d (acc * base + d b) bs
