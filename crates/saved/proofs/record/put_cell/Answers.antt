-- `saved::record::put_cell` meets its contract: head, configuration and slots, each after the last.
use Prim.Native.Nat.{ℕ, ◌+◌, ◌-◌}
use mathlib.Core.Path.{◌≡◌, ap, ◌∙◌}
use mathlib.Core.List.{List, [], ◌∷◌, ◌++◌}
use native.Mathlib.Omega.{arith}
use Rattle.text.proofs.Stores.{sets-three}
use lib.ListN.{length, take, drop}
use lib.Seq.{sets}
use Rattle.saved.proofs.Fields.{big-low, length-big, cell_parts}
use Rattle.saved.proofs.Forms.{cell-length}
use borrow.Author.Rules.{rules}
use Rattle.saved.proofs.record.put_cell.Goals as goal
use Rattle.saved.proofs.record.put_cell.Goals.{Start}

four_slots : (s : Start) → length s.args.cell.slots ≡ 4
four_slots s = search rules

pub copy-requires : goal.copy-requires
copy-requires c =
    let made = c.config_bytes-config in
    let a = c.args in
    let four = four_slots (goal.at.copy-requires c).Start in
    let low = big-low 4 a.width a.cell.config made.result c.requires.width_le_config_width made.ensures in
    omega (arith, four, c.copy-next-2.ensures.value, c.copy-next.ensures.value, ap length low, length-big a.width a.cell.config)

pub returns : goal.returns
returns c =
    let made = c.config_bytes-config in
    let a = c.args in
    let head : List ℕ = 2 ∷ 0 ∷ (6 + a.width) ∷ (a.i + 1) ∷ a.cell.kind ∷ [] in
    let slots = a.cell.slots in
    let four = four_slots (goal.at.returns c).Start in
    let low = big-low 4 a.width a.cell.config made.result c.requires.width_le_config_width made.ensures in
    let part : List ℕ = take (4 - (4 - a.width)) (drop (4 - a.width) made.result) in
    let stored = sets-three a.out.now head part slots a.at _ _ c.copy-next.ensures.out_after c.copy-next.ensures.value c.copy-next-2.ensures.out_after
    c.copy-next-2.ensures.value c.copy.ensures.out_after in
    let parts = ap (λ (l : List ℕ). head ++ (l ++ slots)) low ∙ cell_parts a.width a.i a.cell four c.requires.width_le_config_width in record {
      out_after = stored ∙ ap (sets a.out.now a.at) parts;
      cell_len = cell-length a.width a.i a.cell four;
    }
