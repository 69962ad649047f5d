-- `saved::record::load_as` meets its contract: the heads decide on 14, and the settings, constants made 0 or 1, on 15.
use Prim.Native.Nat.{ℕ}
use mathlib.Core.Path.{◌≡◌, refl, sym, ap, ap₂, ◌∙◌}
use mathlib.Core.Bool.{Bool, true, false, cond}
use mathlib.Core.List.{List}
use native.Mathlib.Omega.{arith}
use lib.ListN.{length, drop}
use borrow.Author.Tests.{not-true, not-false}
use borrow.Author.Rules.{rules}
use Rattle.card.specs.declared.card.Connector.{Connector}
use Rattle.card.specs.declared.card.Connectors.{Connectors}
use Rattle.card.specs.Connectors.{from_each}
use Rattle.card.specs.Fresh.{started}
use Rattle.card.specs.Valid.{valid}
use Rattle.saved.specs.Record.{record_length, trigger_in, load_cells, connectors_in, load_number_as}
use Rattle.saved.proofs.Forms.{valid-from, loaded-from, refused-with}
use Rattle.saved.proofs.Headers.{headed-length, number-headed}
use Rattle.saved.proofs.record.load_as.Goals as goal
use Rattle.saved.proofs.record.load_as.Goals.{After-is_headed, After-valid_settings, Else-not-is_headed}

-- the number by what the code found of the heads
number : (c : After-is_headed)
    → let a = c.args in
    let bytes = a.bytes.now in
    load_number_as a.n a.width bytes
    ≡ cond c.is_headed.result
    (cond (valid a.n (trigger_in bytes) (load_cells a.n a.width bytes) (connectors_in a.n a.width bytes)) 0 15) 14
number c =
    let a = c.args in
    let bytes = a.bytes.now in
    let v = valid a.n (trigger_in bytes) (load_cells a.n a.width bytes) (connectors_in a.n a.width bytes) in
    number-headed a.n a.width bytes (λ i. omega (arith, c.shared_slice_known-1.given i))
    ∙ ap (λ (h : Bool). cond h (cond v 0 15) 14) (sym c.is_headed.ensures)

-- with the heads of a record the bytes have its length
long : (c : Else-not-is_headed) → let a = c.args in
    length a.bytes.now ≡ record_length a.n a.width
long c = headed-length _ _ _ (sym c.is_headed.ensures ∙ not-false _ c.if-not-is_headed.false-raw)

-- and the number by the test of the settings
tested : (c : After-valid_settings)
    → let a = c.args in
    load_number_as a.n a.width a.bytes.now ≡ cond c.valid_settings.result 0 15
tested c =
    let a = c.args in
    let bytes = a.bytes.now in
    let found : c.is_headed.result ≡ true = not-false _ c.if-not-is_headed.false-raw in
    let same = c.valid_settings.ensures
    ∙ ap (λ (m : ℕ). valid m (trigger_in bytes) c.cells_in-cells.result c.connectors_in-connectors.result) (sym c.requires.n_value)
    ∙ ap (λ (k : List Connector). valid a.n (trigger_in bytes) c.cells_in-cells.result k) c.connectors_in-connectors.ensures
    ∙ valid-from a.n a.width bytes c.cells_in-cells.result (drop a.n a.card.cells) c.cells_in-cells.ensures in
    let v = valid a.n (trigger_in bytes) (load_cells a.n a.width bytes) (connectors_in a.n a.width bytes) in
    number-headed a.n a.width bytes (λ i. omega (arith, c.shared_slice_known-1.given i))
    ∙ ap (λ (h : Bool). cond h (cond v 0 15) 14) (sym c.is_headed.ensures) ∙ rw found (ap (λ (v : Bool). cond v 0 15) (sym same))

pub returns-then-not-is_headed : goal.returns-then-not-is_headed
returns-then-not-is_headed c =
    let a = c.args in
    let other : c.is_headed.result ≡ false = not-true _ c.if-not-is_headed.true-raw in
    let e = refused-with a.n a.width a.card a.bytes.now 14 (number (goal.at.returns-then-not-is_headed c).After-is_headed ∙ rw other) refl in record {
      card_value = e.0;
      k_value = e.1;
    }

pub bounds-bytes-3 : goal.bounds-bytes-3
bounds-bytes-3 c = omega (arith, long (goal.at.bounds-bytes-3 c).Else-not-is_headed)

pub cells_in-cells-requires : goal.cells_in-cells-requires
cells_in-cells-requires c = record {
  width_in_bounds = omega (arith, long (goal.at.cells_in-cells-requires c).Else-not-is_headed);
  width_le_config_width = search rules;
  n_le_cell_room = search rules;
}

pub connectors_in-connectors-requires : goal.connectors_in-connectors-requires
connectors_in-connectors-requires c = record {
  n_le_cell_room = search rules;
  bytes_len = long (goal.at.connectors_in-connectors-requires c).Else-not-is_headed;
  width_le_config_width = search rules;
}

pub returns-then-not-valid_settings : goal.returns-then-not-valid_settings
returns-then-not-valid_settings c =
    let a = c.args in
    let bad : c.valid_settings.result ≡ false = not-true _ c.if-not-valid_settings.true-raw in
    let e = refused-with a.n a.width a.card a.bytes.now 15 (tested (goal.at.returns-then-not-valid_settings c).After-valid_settings ∙ rw bad) refl in record {
      card_value = e.0;
      k_value = e.1;
    }

pub returns : goal.returns
returns c =
    let a = c.args in
    let good : c.valid_settings.result ≡ true = not-false _ c.if-not-valid_settings.false-raw in
    let n : load_number_as a.n a.width a.bytes.now ≡ 0 = tested (goal.at.returns c).After-valid_settings ∙ rw good in
    let whole = loaded-from a.n a.width a.card a.bytes.now c.cells_in-cells.result c.cells_in-cells.ensures n in
    let same = ap₂ (λ (k : Connectors) (e : ℕ). started a.card.size (trigger_in a.bytes.now) c.cells_in-cells.result k e)
    (c.from_each-routed.ensures ∙ ap from_each c.connectors_in-connectors.ensures) c.all_edited.ensures in record {
      card_value = c.started-next.ensures ∙ same ∙ sym whole;
      k_value = sym n;
    }
