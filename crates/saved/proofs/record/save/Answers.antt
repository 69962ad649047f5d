-- `saved::record::save` meets its contract: a store with room gets the record at its front.
use Prim.Native.Nat.{ℕ, ◌≤◌, ◌<◌}
use mathlib.Core.Path.{◌≡◌}
use mathlib.Core.Bool.{true, false}
use native.Mathlib.Omega.{arith}
use lib.Dec.{ltb}
use borrow.Author.Tests.{lt-ltb, le-ltb}
use Rattle.saved.specs.Record.{saved_to, record_of}
use Rattle.saved.proofs.record.save.Goals as goal

-- the test of the room, by a length that the code found
module _ (len r m : ℕ) (e : r ≡ m) where
  short : len < r → ltb len m ≡ true
  short h = lt-ltb len m (omega arith)

  roomy : r ≤ len → ltb len m ≡ false
  roomy h = le-ltb len m (omega arith)

pub returns-then-store-record_length : goal.returns-then-store-record_length
unfolding saved_to
returns-then-store-record_length c =
    let full = short _ _ _ c.record_length.ensures c.if-store-record_length.true in record {
      store_after = rw full;
      value = rw full;
    }

pub returns : goal.returns
unfolding saved_to record_of
returns c =
    let room = roomy _ _ _ c.record_length.ensures c.if-store-record_length.false in record {
      store_after = rw (c.encode_to.ensures, c.each_of.ensures, c.cells_for-n.ensures.value, room);
      value = rw room;
    }
