-- Every change of settings is an edit: it leaves the memory, and the cells that it changes are edited afterwards.
use Rattle.std.proofs.Common.{◌≡◌, ℕ, ◌-◌, ◌^◌, ◌<◌, Bool, true, false, cond, List, ◌++◌, get_or, drop, set, sym, refl, ap, ◌∙◌, true≢false, get_or-set_other}
use mathlib.Core.Option
use mathlib.Core.Option.{Option, none, some}
use Rattle.words.specs.Bits.{bit_at, with_bit, word_of}
use Rattle.words.specs.Listed.{listed}
use Rattle.words.proofs.Laws.{bit-ones, bit-built, bit-with-same, bit-with-other}
use Rattle.words.proofs.Listed.{front_at}
use Rattle.cells.specs.declared.cell.Cell.{Cell}
use Rattle.cells.specs.declared.table.Slots.{Slots}
use Rattle.words.proofs.Bools.{or_left, or_right}
use Rattle.card.specs.declared.card.Card.{Card}
use Rattle.card.specs.declared.card.Connectors.{Connectors}
use Rattle.card.specs.Fresh.{no_cell}
use Rattle.card.specs.Edits.{is_at_cell, is_at_connector, with_settings, with_cell, put_cell, put_connectors, move, set_trigger, home, set_type, set_config, set_state}
use Rattle.card.specs.Edits.{set_slots, set_connector_type, set_source}
use Rattle.card.specs.Presets.{preset_cell, has, cell_with_preset, edited_with_preset, preset}
use Rattle.card.specs.Untouched.{Edit}

-- new settings leave everything else: what is to be shown is of the cells and the edits alone
settings-edit : (n : ℕ) (c : Card) (trigger : ℕ) (cells : List Cell) (connectors : Connectors) (edited : ℕ)
    → ((i : ℕ) → i < n → bit_at edited i ≡ false → bit_at c.edited i ≡ false)
    → ((i : ℕ) → i < n → bit_at edited i ≡ false → get_or cells i no_cell ≡ get_or c.cells i no_cell)
    → Edit n c (with_settings c trigger cells connectors edited)
settings-edit n c trigger cells connectors edited unedited kept =
    record { memory = refl; tallies = refl; unedited = unedited; kept = kept }

same-edit : (n : ℕ) (c : Card) (trigger : ℕ) (connectors : Connectors) → Edit n c (with_settings c trigger c.cells connectors c.edited)
same-edit n c trigger connectors = settings-edit n c trigger c.cells connectors c.edited (λ i h e. e) (λ i h e. refl)

pub no-edit : (n : ℕ) (c : Card) → Edit n c c
no-edit n c = same-edit n c c.trigger c.connectors

-- where all cells are edited, nothing is to be shown
pub all-edited : {A : Type 0} (n i : ℕ) → i < n → bit_at (2 ^ n - 1) i ≡ false → A
all-edited n i h e = absurd (true≢false (sym (bit-ones n i h) ∙ e))

module _ (n : ℕ) (c : Card) where
  -- the bit of a cell that was put is set, so a cell that is not edited is another
  other : (k i : ℕ) → bit_at (with_bit c.edited k true) i ≡ false → i ≡ k → ⊥
  other k i e p = true≢false (sym (bit-with-same c.edited k true) ∙ ap (bit_at (with_bit c.edited k true)) (sym p) ∙ e)

  cell-edit : (k : ℕ) (cell : Cell) → Edit n c (with_cell c k cell)
  cell-edit k cell =
      settings-edit n c c.trigger (set c.cells k cell) c.connectors (with_bit c.edited k true)
      (λ i h e. sym (bit-with-other c.edited k i true (other k i e)) ∙ e) (λ i h e. get_or-set_other c.cells k i cell no_cell (other k i e))

  either-edit : (d : Card) (b : Bool) → Edit n c d → Edit n c (cond b d c)
  either-edit d true e = e
  either-edit d false e = no-edit n c

  put-edit : (cell : Cell) → Edit n c (put_cell n c cell)
  unfolding put_cell
  put-edit cell = either-edit _ (is_at_cell n c) (cell-edit _ cell)

  put-connectors-edit : (connectors : Connectors) → Edit n c (put_connectors c connectors)
  unfolding put_connectors
  put-connectors-edit connectors = either-edit _ (is_at_connector c) (same-edit n c c.trigger _)

  pub move-edit : (p : ℕ) → Edit n c (move c p)
  unfolding move
  move-edit p =
      record { memory = refl; tallies = refl; unedited = λ i h e. e; kept = λ i h e. refl }

  pub trigger-edit : (t : ℕ) → Edit n c (set_trigger c t)
  unfolding set_trigger
  trigger-edit t = same-edit n c t _

  pub home-edit : Edit n c (home n c)
  unfolding home
  home-edit = settings-edit n c c.trigger _ c.connectors (2 ^ n - 1) (λ i h e. all-edited n i h e) (λ i h e. all-edited n i h e)

  pub type-edit : (kind : ℕ) → Edit n c (set_type n c kind)
  unfolding set_type
  type-edit kind = put-edit _

  pub config-edit : (v : ℕ) → Edit n c (set_config n c v)
  unfolding set_config
  config-edit v = put-edit _

  pub state-edit : (v : ℕ) → Edit n c (set_state n c v)
  unfolding set_state
  state-edit v = put-edit _

  pub slots-edit : (given : Slots) (v : List ℕ) → Edit n c (set_slots n c given v)
  unfolding set_slots
  slots-edit given v = put-edit _

  pub connector-type-edit : (kind : ℕ) → Edit n c (set_connector_type c kind)
  unfolding set_connector_type
  connector-type-edit kind = put-connectors-edit _

  pub source-edit : (source : ℕ) → Edit n c (set_source c source)
  unfolding set_source
  source-edit source = put-connectors-edit _

  -- a cell that a preset does not set stays
  unset : (o : Option Cell) (old : Cell) → has o ≡ false → Option.get_or o old ≡ old
  unset none old e = refl
  unset (some cell) old e = absurd (true≢false e)

  pub preset-edit : (v : ℕ) → Edit n c (preset n c v)
  unfolding preset
  preset-edit v =
      settings-edit n c c.trigger (listed (cell_with_preset c v) n ++ drop n c.cells) _ (word_of (edited_with_preset c v) n)
      (λ i h e. or_left (bit_at c.edited i) _ (sym (bit-built (edited_with_preset c v) n i h) ∙ e))
      (λ i h e.
      front_at (cell_with_preset c v) n c.cells i no_cell h
      ∙ unset (preset_cell v i) (get_or c.cells i no_cell) (or_right (bit_at c.edited i) _ (sym (bit-built (edited_with_preset c v) n i h) ∙ e)))
