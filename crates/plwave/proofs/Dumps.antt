-- Laws of changes written one after the other.
use Prim.Native.Nat.{ℕ, ◌+◌}
use mathlib.Core.Bool.{Bool}
use mathlib.Core.Path.{◌≡◌, refl, sym, ap, ap₂, subst, ◌∙◌}
use mathlib.Core.List.{List, ◌++◌}
use native.Mathlib.Numerals.{add-one}
use lib.ListN.{length}
use lib.Seq.{sets}
use Rattle.words.specs.Bits.{bit_at}
use Rattle.text.proofs.Stores.{Stored, behind}
use Rattle.plwave.specs.Dump.{change_of, changes}

pub changes-next : (from word set i : ℕ) → changes from word set (i + 1) ≡ changes from word set i ++ change_of (from + i) (bit_at set i) (bit_at word i)
unfolding changes
changes-next from word set i = rw (add-one i) refl

-- a turn of the loop: the bits below i are stored, and now bit i
pub stored-change : (from word set i : ℕ) {l a r : List ℕ} {at end : ℕ} {shown b : Bool} → shown ≡ bit_at set i → b ≡ bit_at word i
    → Stored l a (changes from word set i) at → (r ≡ sets a at (change_of (from + i) shown b)) × (end ≡ at + length (change_of (from + i) shown b))
    → Stored l r (changes from word set (i + 1)) end
stored-change from word set i {l} {a} {r} {at} {end} {shown} {b} es eb below e =
    let text : changes from word set i ++ change_of (from + i) shown b ≡ changes from word set (i + 1) =
    ap (λ (t : List ℕ). changes from word set i ++ t) (ap₂ (λ (s v : Bool). change_of (from + i) s v) es eb) ∙ sym (changes-next from word set i) in
    subst (λ (t : List ℕ). Stored l r t end) text (behind below (change_of (from + i) shown b) e)
