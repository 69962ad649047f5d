-- `saved::record::config_bytes` meets its contract: four digits of 256.
use Prim.Native.Nat.{◌/◌, ◌%◌}
use mathlib.Core.Path.{sym}
use mathlib.Core.List.{[], ◌∷◌}
use native.Mathlib.Nat.{div-one}
use Rattle.saved.specs.Record.{big_endian}
use Rattle.saved.proofs.record.config_bytes.Goals as goal

pub returns : goal.returns
unfolding big_endian
returns c =
    let v = c.args.config in
    λ k. v / 16777216 % 256 ∷ v / 65536 % 256 ∷ v / 256 % 256 ∷ sym (div-one v) k % 256 ∷ []
