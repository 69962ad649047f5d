-- Laws of changes, for whoever makes one: every change is an edit, it sets exactly the edited bits of the cells that it edits, and keeps the size.
use Rattle.std.proofs.Common.{◌≡◌, ℕ, ◌-◌, ◌<◌, Bool, true, false, cond, ◌&&◌, ◌||◌, eqb, sym, refl, ap, ◌∙◌, eq-eqb, ne_eqb}
use mathlib.Core.Bool.{or-false, or-true}
use native.Mathlib.Decide.{ℕ_discrete}
use Rattle.words.specs.Bits.{bit_at, with_bit}
use Rattle.words.proofs.Laws.{bit-ones, bit-built, bit-with-same, bit-with-other}
use Rattle.cells.specs.declared.cell.Cell.{Cell}
use Rattle.card.specs.declared.card.Card.{Card}
use Rattle.card.specs.declared.card.Connectors.{Connectors}
use Rattle.card.specs.declared.change.Change.{Change}
use Rattle.card.specs.declared.change.Change.TheVariants.{Nothing, Pointer, Trigger, Home, Preset, Kind, Config, State, Slots, ConnectorKind, Source}
use Rattle.card.specs.Address.{first_cell}
use Rattle.card.specs.Change.{changed, pointed, edits_cell}
use Rattle.card.specs.Edits.{is_at_cell, is_at_connector, with_cell, with_connectors, put_cell, put_connectors}
use Rattle.card.specs.Edits.{move, set_trigger, home, set_type, set_config, set_state, set_slots, set_connector_type, set_source}
use Rattle.card.specs.Presets.{edited_with_preset, preset}
use Rattle.card.specs.Untouched.{Edit}
use Rattle.card.proofs.EditLaws.{no-edit, move-edit, trigger-edit, home-edit, type-edit, config-edit, state-edit, slots-edit, connector-type-edit}
use Rattle.card.proofs.EditLaws.{source-edit, preset-edit}

pub changed-edit : (n : ℕ) (c : Card) (change : Change) → Edit n c (changed n c change)
unfolding changed
changed-edit n c Nothing = no-edit n c
changed-edit n c (Pointer p) = move-edit n c p
changed-edit n c (Trigger t) = trigger-edit n c t
changed-edit n c Home = home-edit n c
changed-edit n c (Preset v) = preset-edit n c v
changed-edit n c (Kind kind) = type-edit n c kind
changed-edit n c (Config v) = config-edit n c v
changed-edit n c (State v) = state-edit n c v
changed-edit n c (Slots w) = slots-edit n c w.given _
changed-edit n c (ConnectorKind kind) = connector-type-edit n c kind
changed-edit n c (Source source) = source-edit n c source

-- ---- the edited bits

-- a cell that was put is edited, and no other is by it
put-bit : (n : ℕ) (c : Card) (cell : Cell) (i : ℕ) → bit_at (put_cell n c cell).edited i ≡ (bit_at c.edited i || pointed n c i)
unfolding put_cell
put-bit n c cell i = go (is_at_cell n c)
  where
    k : ℕ
    k = c.pointer - first_cell

    at : Dec (i ≡ k) → bit_at (with_bit c.edited k true) i ≡ (bit_at c.edited i || eqb i k)
    at (yes p) = rw (eq-eqb i k p, p, bit-with-same c.edited k true) (sym (or-true (bit_at c.edited k)))
    at (no p) = rw (ne_eqb i k p, bit-with-other c.edited k i true p) (sym (or-false (bit_at c.edited i)))

    go : (b : Bool) → bit_at (cond b (with_cell c k cell) c).edited i ≡ (bit_at c.edited i || (b && eqb i k))
    go true = at (ℕ_discrete i k)
    go false = sym (or-false (bit_at c.edited i))

same_bit : (c : Card) (i : ℕ) → bit_at c.edited i ≡ (bit_at c.edited i || false)
same_bit c i = sym (or-false (bit_at c.edited i))

connector-edited : (c : Card) (k : Connectors) → (put_connectors c k).edited ≡ c.edited
unfolding put_connectors
connector-edited c k = go (is_at_connector c)
  where
    go : (b : Bool) → (cond b (with_connectors c k) c).edited ≡ c.edited
    go true = refl
    go false = refl

connector-bit : (c : Card) (k : Connectors) (i : ℕ) → bit_at (put_connectors c k).edited i ≡ (bit_at c.edited i || false)
connector-bit c k i = ap (λ (e : ℕ). bit_at e i) (connector-edited c k) ∙ same_bit c i

-- a change sets the bits of the cells that it edits, and no other
pub changed-bit : (n : ℕ) (c : Card) (change : Change) (i : ℕ) → i < n
    → bit_at (changed n c change).edited i ≡ (bit_at c.edited i || edits_cell n c change i)
unfolding changed edits_cell move set_trigger home set_type set_config set_state set_slots set_connector_type set_source preset
changed-bit n c Nothing i h = same_bit c i
changed-bit n c (Pointer p) i h = same_bit c i
changed-bit n c (Trigger t) i h = same_bit c i
changed-bit n c Home i h = bit-ones n i h ∙ sym (or-true (bit_at c.edited i))
changed-bit n c (Preset v) i h = bit-built (edited_with_preset c v) n i h
changed-bit n c (Kind kind) i h = put-bit n c _ i
changed-bit n c (Config v) i h = put-bit n c _ i
changed-bit n c (State v) i h = put-bit n c _ i
changed-bit n c (Slots w) i h = put-bit n c _ i
changed-bit n c (ConnectorKind kind) i h = connector-bit c _ i
changed-bit n c (Source source) i h = connector-bit c _ i

-- ---- the size

either-size : (c d : Card) (b : Bool) → d.size ≡ c.size → (cond b d c).size ≡ c.size
either-size c d true e = e
either-size c d false e = refl

cell-size : (n : ℕ) (c : Card) (cell : Cell) → (put_cell n c cell).size ≡ c.size
unfolding put_cell
cell-size n c cell = either-size c _ (is_at_cell n c) refl

connector-size : (c : Card) (connectors : Connectors) → (put_connectors c connectors).size ≡ c.size
unfolding put_connectors
connector-size c connectors = either-size c _ (is_at_connector c) refl

-- a change keeps it
pub changed-size : (n : ℕ) (c : Card) (change : Change) → (changed n c change).size ≡ c.size
unfolding changed move set_trigger home preset set_type set_config set_state set_slots set_connector_type set_source
changed-size n c Nothing = refl
changed-size n c (Pointer p) = refl
changed-size n c (Trigger t) = refl
changed-size n c Home = refl
changed-size n c (Preset v) = refl
changed-size n c (Kind kind) = cell-size n c _
changed-size n c (Config v) = cell-size n c _
changed-size n c (State v) = cell-size n c _
changed-size n c (Slots w) = cell-size n c _
changed-size n c (ConnectorKind kind) = connector-size c _
changed-size n c (Source source) = connector-size c _
