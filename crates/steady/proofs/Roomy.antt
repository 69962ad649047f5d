-- A card that calls reach has room for its cells and tallies.
use Prim.Native.Nat.{ℕ, ◌-◌, ◌≤◌}
use mathlib.Core.Path.{sym, ap, subst}
use mathlib.Core.Bool.{Bool, true, false, cond}
use mathlib.Core.List.{List, ◌++◌, map}
use native.Mathlib.Omega.{arith}
use lib.Dec.{eqb, ltb}
use lib.ListN.{length, take, drop, set, replicate, length-append, length-map, length-set, length-replicate, take-append-drop}
use Rattle.words.specs.Listed.{listed}
use Rattle.words.proofs.Listed.{length-listed}
use Rattle.cells.specs.declared.cell.Cell.{Cell}
use Rattle.card.specs.declared.card.Card.{Card}
use Rattle.card.specs.declared.change.Change.{Change}
use Rattle.card.specs.declared.change.Change.TheVariants.{Nothing, Pointer, Trigger, Home, Preset, Kind, Config, State, Slots, ConnectorKind, Source}
use Rattle.card.specs.declared.tallies.Tallies.{Tallies}
use Rattle.card.specs.Address.{cell_room}
use Rattle.card.specs.Change.{changed}
use Rattle.card.specs.Edits.{is_at_cell, is_at_connector, cleared_cell, put_cell, put_connectors, move, set_trigger, home, set_type}
use Rattle.card.specs.Edits.{set_config, set_state, set_slots, set_connector_type, set_source}
use Rattle.card.specs.Fresh.{fresh_cell, fresh_of}
use Rattle.card.specs.Presets.{preset}
use Rattle.card.specs.Tally.{ticks, standstill, tallied_by}
use Rattle.ticks.specs.Tick.{turned}
use Rattle.ticks.proofs.Cases.{by-tick-on}
use Rattle.saved.specs.Record.{load_number}
use Rattle.saved.proofs.Records.{loaded-by}
use Rattle.lines.specs.Line.{line_change, line_outcome}
use Rattle.calls.specs.Calls.{Call, after_call, end}
use Rattle.calls.specs.Calls.Call.{line, load, tick}
use Rattle.calls.proofs.Lists.{line-edit}
use Rattle.calls.proofs.Runs.{invariant}

-- it has so many of each at least
abbrev pub HasRoom : ℕ → Card → Type 0
HasRoom n c = (n ≤ length c.cells) × (n ≤ length c.tallies.cells)

listed-room : {A : Type 0} (f : ℕ → A) (n : ℕ) (l : List A) → n ≤ length (listed f n ++ l)
listed-room f n l = omega (arith, length-append (listed f n) l, length-listed f n)

-- of either of two cards, or of tallies
either-cells : (n : ℕ) (b : Bool) (d c : Card) → n ≤ length d.cells → n ≤ length c.cells → n ≤ length (cond b d c).cells
either-cells n true d c x y = x
either-cells n false d c x y = y

either-tallies : (n : ℕ) (b : Bool) (d c : Tallies) → n ≤ length d.cells → n ≤ length c.cells → n ≤ length (cond b d c).cells
either-tallies n true d c x y = x
either-tallies n false d c x y = y

-- the cells under a change
set_room : (n : ℕ) (l : List Cell) (i : ℕ) (cell : Cell) → n ≤ length l → n ≤ length (set l i cell)
set_room n l i cell h = omega (arith, length-set l i cell)

put-room : (n : ℕ) (c : Card) (cell : Cell) → n ≤ length c.cells → n ≤ length (put_cell n c cell).cells
unfolding put_cell
put-room n c cell h = either-cells n (is_at_cell n c) _ c (set_room n c.cells _ cell h) h

home-room : (n : ℕ) (l : List Cell) → n ≤ length l → n ≤ length (map cleared_cell (take n l) ++ drop n l)
home-room n l h =
    omega (
      arith,
      length-append (map cleared_cell (take n l)) (drop n l),
      length-map (take n l) cleared_cell,
      length-append (take n l) (drop n l),
      ap length (take-append-drop n l),
    )

changed-room : (n : ℕ) (c : Card) (change : Change) → n ≤ length c.cells → n ≤ length (changed n c change).cells
unfolding changed move set_trigger home preset set_type set_config set_state set_slots set_connector_type set_source put_connectors
changed-room n c Nothing h = h
changed-room n c (Pointer p) h = h
changed-room n c (Trigger t) h = h
changed-room n c Home h = home-room n c.cells h
changed-room n c (Preset v) h = listed-room _ n (drop n c.cells)
changed-room n c (Kind kind) h = put-room n c _ h
changed-room n c (Config v) h = put-room n c _ h
changed-room n c (State v) h = put-room n c _ h
changed-room n c (Slots w) h = put-room n c _ h
changed-room n c (ConnectorKind kind) h = either-cells n (is_at_connector c) _ c h h
changed-room n c (Source source) h = either-cells n (is_at_connector c) _ c h h

tallied-room : (n : ℕ) (f : ℕ → Bool) (t : Tallies) → n ≤ length t.cells → n ≤ length (tallied_by n f t).cells
unfolding tallied_by
tallied-room n f t h = either-tallies n (ltb t.total.0 standstill) _ t (listed-room _ n (drop n t.cells)) h

module _ (n : ℕ) (small : n ≤ cell_room) where
  none-room : n ≤ length (replicate cell_room (ticks 0))
  none-room = omega (arith, length-replicate cell_room (ticks 0))

  call-room : (c : Card) (call : Call) → HasRoom n c → HasRoom n (after_call n c call)
  unfolding after_call line_outcome turned
  call-room c (line text reply store) h =
      let e = (line-edit n c text (length reply) (length store)).tallies in
      (changed-room n c (line_change n c text (length reply) (length store)) h.0, subst (λ (t : Tallies). n ≤ length t.cells) (sym e) h.1)
  call-room c (load bytes) h = rw (loaded-by n c bytes) (go (eqb (load_number n bytes) 0) _ (listed-room _ n (drop n c.cells), none-room))
    where
      go : (b : Bool) (d : Card) → HasRoom n d → HasRoom n (cond b d c)
      go true d r = r
      go false d r = h
  call-room c (tick full code on) h =
      by-tick-on n full c code (on c) (λ t. HasRoom n t.card) (λ _. (listed-room _ n (drop n c.cells), tallied-room n _ c.tallies h.1)) (λ _. h)

  fresh-room : HasRoom n (fresh_of n)
  fresh-room =
      (omega (arith, length-append (replicate n fresh_cell) (replicate (cell_room - n) fresh_cell), length-replicate n fresh_cell), none-room)

  pub reached-room : (calls : List Call) → HasRoom n (end n (fresh_of n) calls)
  reached-room calls = invariant (after_call n) (HasRoom n) call-room (fresh_of n) calls fresh-room
