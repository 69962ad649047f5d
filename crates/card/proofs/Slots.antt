-- Laws of a cell's slots: the entries of a list of four.
use Rattle.std.proofs.Common.{◌≡◌, ℕ, List, [], ◌∷◌, length, get_or, set, sym, refl, ap, arith}

-- the four entries of a list of four
pub four : (s : List ℕ) → length s ≡ 4 → get_or s 0 0 ∷ get_or s 1 0 ∷ get_or s 2 0 ∷ get_or s 3 0 ∷ [] ≡ s
four [] e = absurd (omega arith)
four (a ∷ []) e = absurd (omega arith)
four (a ∷ b ∷ []) e = absurd (omega arith)
four (a ∷ b ∷ c ∷ []) e = absurd (omega arith)
four (a ∷ b ∷ c ∷ d ∷ []) e = refl
four (a ∷ b ∷ c ∷ d ∷ x ∷ xs) e = absurd (omega arith)

-- four elements replaced, one after the other, are the whole of a list of four
pub replaced : (s : List ℕ) (w x y z : ℕ) → length s ≡ 4 → set (set (set (set s 0 w) 1 x) 2 y) 3 z ≡ w ∷ x ∷ y ∷ z ∷ []
replaced s w x y z h = ap (λ (l : List ℕ). set (set (set (set l 0 w) 1 x) 2 y) 3 z) (sym (four s h))
