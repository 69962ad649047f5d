-- Laws of decisions: what an accepted command rules out, and that its numbers fit.
use Prim.Native.Nat.{ℕ, ◌≤◌, ◌<◌}
use mathlib.Core.Path.{◌≡◌, refl}
use mathlib.Core.Bool.{Bool, true, false, ◌||◌, true≢false}
use native.Mathlib.Omega.{arith}
use lib.Dec.{eqb}
use borrow.Author.Tests.{ltb-false}
use Rattle.std.specs.Prelude.{Option, Some, None, IfSome, Result, Ok, Err}
use Rattle.words.proofs.Bools.{or_left, or_right}
use Rattle.card.specs.declared.change.Change.TheVariants.{Nothing}
use Rattle.card.specs.Address.{cell_room, cells_for}
use Rattle.card.specs.Valid.{bad_place, bad_cell_type, bad_connector_type, bad_clock, bad_address}
use Rattle.card.proofs.Bounds.{place-most, clock-most, kind-most, connector-kind-most}
use Rattle.card.proofs.Places.{cells-most}
use Rattle.card.proofs.WriteLaws.{address-most}
use Rattle.grammar.specs.declared.grammar.Pairs.{Pairs}
use Rattle.lines.specs.declared.decision.Accepted.{Accepted}
use Rattle.lines.specs.declared.refused.Refused.{Refused}
use Rattle.lines.specs.declared.refused.Refused.TheVariants.{NoRoom, NoForm, OtherCard, TooLarge, BadPlace, AtConnector, BadType, BadPreset}
use Rattle.lines.specs.declared.refused.Refused.TheVariants.{BadConfig, UnusedSlot, BadAddress, BadState, FrontDriven}
use Rattle.lines.specs.Refusal.{number_of, when, or_else, too_large, judged, given_and, any_bad_address}
use Rattle.lines.specs.Line.{number_in, change_in}

-- neither of two applies, where none does
pub none_of : (a b : Option Refused) → or_else a b ≡ None → (a ≡ None) × (b ≡ None)
none_of None b e = (refl, e)
none_of (Some why) b e = absurd (ne e)
  where
    ne : Some why ≡ None → ⊥
    ne h = cc

pub when-none : (t : Bool) (why : Refused) → when t why ≡ None → t ≡ false
when-none true why e = absurd (ne e)
  where
    ne : Some why ≡ None → ⊥
    ne h = cc
when-none false why e = refl

-- one number judged: where none applies, its test fails
pub judged-none : (v : ℕ) (bad : Bool) (why : Refused) → judged v bad why ≡ None → (too_large v ≡ false) × (bad ≡ false)
judged-none v bad why e =
    let both = none_of (when (too_large v) _) (when bad why) e in
    (when-none (too_large v) _ both.0, when-none bad why both.1)

-- the last test fails where none applies
pub last_none : (a : Option Refused) (t : Bool) (why : Refused) → or_else a (when t why) ≡ None → t ≡ false
last_none a t why e = when-none t why (none_of a (when t why) e).1

-- a refusal has a number
pub nonzero : (why : Refused) → eqb (number_of why) 0 ≡ false
nonzero NoRoom = refl
nonzero NoForm = refl
nonzero OtherCard = refl
nonzero TooLarge = refl
nonzero BadPlace = refl
nonzero AtConnector = refl
nonzero BadType = refl
nonzero BadPreset = refl
nonzero BadConfig = refl
nonzero UnusedSlot = refl
nonzero BadAddress = refl
nonzero BadState = refl
nonzero FrontDriven = refl

-- a refused command changes nothing
pub no_change : (d : Result Accepted Refused) → eqb (number_in d) 0 ≡ false → change_in d ≡ Nothing
no_change (Ok accepted) e = absurd (true≢false e)
no_change (Err why) e = refl

-- ---- a number that is not refused fits

pub place-fits : (n v : ℕ) → n ≤ cell_room → bad_place n v ≡ false → v < 256
place-fits n v room h = let g = place-most n v room h in omega arith

-- of a card of a size
pub place_fits : (size v : ℕ) → bad_place (cells_for size) v ≡ false → v < 256
place_fits size v h = place-fits (cells_for size) v (cells-most size) h

pub clock_fits : (v : ℕ) → bad_clock v ≡ false → v < 256
clock_fits v h = let g = clock-most v h in omega arith

pub kind_fits : (v : ℕ) → bad_cell_type v ≡ false → v < 256
kind_fits v h = let g = kind-most v h in omega arith

pub connector_fits : (v : ℕ) → bad_connector_type v ≡ false → v < 256
connector_fits v h = let g = connector-kind-most v h in omega arith

pub address_fits : (n v : ℕ) → bad_address n v ≡ false → v < 256
address_fits n v h = let g = address-most n v h in omega arith

pub number_fits : (v : ℕ) → too_large v ≡ false → v < 4294967296
number_fits v h = let g = ltb-false 4294967295 v h in omega arith

-- of a slot that is given, or not
slot-fits : (n : ℕ) (o : Option ℕ) → given_and (bad_address n) o ≡ false → IfSome o (λ v. v < 256)
slot-fits n None h = tt
slot-fits n (Some v) h = address_fits n v h

-- of each slot
pub record SlotsFit (p : Pairs) : Type 0 where
  pub x : IfSome p.x (λ v. v < 256)
  pub y : IfSome p.y (λ v. v < 256)
  pub z : IfSome p.z (λ v. v < 256)
  pub f : IfSome p.f (λ v. v < 256)

pub slots_fit : (n : ℕ) (p : Pairs) → any_bad_address n p ≡ false → SlotsFit p
slots_fit n p h =
    let bx = given_and (bad_address n) p.x in
    let bz = given_and (bad_address n) p.z in
    let xy = or_left (bx || given_and (bad_address n) p.y) _ h in
    let zf = or_right (bx || given_and (bad_address n) p.y) _ h in
    record {
      x = slot-fits n p.x (or_left bx _ xy);
      y = slot-fits n p.y (or_right bx _ xy);
      z = slot-fits n p.z (or_left bz _ zf);
      f = slot-fits n p.f (or_right bz _ zf);
    }
