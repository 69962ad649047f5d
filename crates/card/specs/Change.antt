-- Document 01, "Lines": all that an accepted line can change in the card.
use Rattle.std.specs.Prelude.{ℕ, ◌-◌, Bool, true, false, ◌&&◌, [], ◌∷◌, ◌==◌}
use Rattle.card.specs.declared.card.Card.{Card}
use Rattle.card.specs.declared.change.Change.{Change}
use Rattle.card.specs.declared.change.Change.TheVariants.{Nothing, Pointer, Trigger, Home, Preset, Kind, Config, State, Slots, ConnectorKind, Source}
use Rattle.card.specs.Address.{first_cell}
use Rattle.card.specs.Edits.{is_at_cell, move, set_trigger, home, set_type, set_config, set_state, set_slots, set_connector_type, set_source}
use Rattle.card.specs.Presets.{has, preset_cell, preset}

-- the card with a change made
unfoldable pub changed : ℕ → Card → Change → Card
changed n c Nothing = c
changed n c (Pointer p) = move c p
changed n c (Trigger t) = set_trigger c t
changed n c Home = home n c
changed n c (Preset v) = preset n c v
changed n c (Kind kind) = set_type n c kind
changed n c (Config v) = set_config n c v
changed n c (State v) = set_state n c v
changed n c (Slots w) = set_slots n c w.given (w.x ∷ w.y ∷ w.z ∷ w.f ∷ [])
changed n c (ConnectorKind kind) = set_connector_type c kind
changed n c (Source source) = set_source c source

-- cell i, counted from 0, is the one at the pointer
abbrev pub pointed : (n : ℕ) → Card → (i : ℕ) → Bool
pointed n c i = is_at_cell n c && i == c.pointer - first_cell

-- "A cell is edited by an accepted CCA or CCB write to it or a preset that sets it; by HOME ... all
-- are"
unfoldable pub edits_cell : (n : ℕ) → Card → Change → (i : ℕ) → Bool
edits_cell n c Nothing i = false
edits_cell n c (Pointer p) i = false
edits_cell n c (Trigger t) i = false
edits_cell n c Home i = true
edits_cell n c (Preset v) i = has (preset_cell v i)
edits_cell n c (Kind kind) i = pointed n c i
edits_cell n c (Config v) i = pointed n c i
edits_cell n c (State v) i = pointed n c i
edits_cell n c (Slots w) i = pointed n c i
edits_cell n c (ConnectorKind kind) i = false
edits_cell n c (Source source) i = false
