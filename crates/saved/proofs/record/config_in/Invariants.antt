-- `saved::record::config_in` meets its contract: after i turns the first i bytes are read.
use Prim.Native.Nat.{◌-◌, ◌^◌, ◌≤◌, ◌<◌}
use mathlib.Core.Path.{◌≡◌}
use lib.ListN.{take, drop}
use Rattle.saved.specs.Record.{big_value}
use Rattle.saved.proofs.record.config_in.Given as goal

abbrev pub invariant-loop-i : goal.invariant-loop-i
invariant-loop-i l = (l.i ≤ l.width) × (l.v ≡ big_value 0 (take l.i (drop l.at l.bytes))) × (l.v < 256 ^ l.i)

abbrev pub decreases-loop-i : goal.decreases-loop-i
decreases-loop-i l = l.width - l.i
