-- Valid settings are set by their lines: one command at a place, the commands of one cell and of one connector, lifted over their lists.
use Rattle.std.specs.Prelude.{is_some}
use Prim.Native.Nat.{ℕ, suc, ◌+◌, ◌-◌, ◌^◌, ◌≤◌, ◌<◌}
use mathlib.Core.Path.{◌≡◌, refl, sym, ap, subst, ◌∙◌}
use mathlib.Core.Bool.{Bool, true, false, cond, ◌&&◌, ◌||◌, and-false}
use Rattle.std.specs.Prelude.{None, is_some}
use mathlib.Core.List.{List, [], ◌∷◌, ◌++◌, map}
use native.Mathlib.Omega.{arith}
use lib.Dec.{eqb}
use lib.ListN.{length, get_or, set, take, replicate, length-map, length-set, length-append, length-replicate}
use lib.Seq.{sets, sets-eq, take_at, drop_at}
use borrow.Author.Tests.{le-ltb, lt-ltb}
use Rattle.text.specs.Decimal.{max_digits}
use Rattle.text.proofs.Stores.{sets-all}
use Rattle.cells.specs.declared.cell.Cell.{Cell}
use Rattle.cells.specs.declared.table.Slots.{Slots}
use Rattle.cells.specs.State.{state_of, cell_of}
use Rattle.cells.specs.Table.{slots, row_of, any_slot, largest_config}
use Rattle.words.proofs.Bools.{and_left, and_right}
use Rattle.card.specs.declared.card.Card.{Card}
use Rattle.card.specs.declared.card.Connector.{Connector}
use Rattle.card.specs.Address.{cell_room, connector_count, first_cell, first_connector}
use Rattle.card.specs.Connectors.{source_at, each, well_formed}
use Rattle.card.specs.Change.{changed}
use Rattle.card.specs.Context.{context_of}
use Rattle.card.specs.Edits.{current_cell, cleared_cell, typed, configured, wired_slot, wired, move, set_trigger}
use Rattle.card.specs.Fresh.{fresh_cell, fresh_of}
use Rattle.text.specs.Digits.{every}
use Rattle.card.specs.Valid.{front_driven, bad_cell_type, bad_connector_type, bad_address, bad_config, valid_cell, valid_connector, valid, valid_slot}
use Rattle.card.specs.Written.{configured_as, written}
use Rattle.card.proofs.Settings.{cell-config, Sound, split}
use Rattle.card.proofs.ConnectorLaws.{length-each, each-unique}
use Rattle.card.proofs.ValidLaws.{kind-known, kind-good, source-good, formed, fresh-valid}
use Rattle.card.proofs.WriteLaws.{CellWritten, ConnectorWritten, written_is, unslotted, configured-is, config-permitted, slots-each, slots-permitted}
use Rattle.card.proofs.WriteLaws.{slot-most, address-most, used-given, cell-place, connector-place, at-cell, current-written, move-written}
use Rattle.card.proofs.WriteLaws.{type-written, config-written, slots-written, beside-cells, move-connector-written, connector-type-written, source-written}
use Rattle.card.proofs.WriteLaws.{trigger-leaves}
use Rattle.grammar.specs.declared.grammar.Command.{Command}
use Rattle.grammar.specs.declared.grammar.Command.TheVariants.{Move, Trigger, SetKind, SetConfig, SetSlots}
use Rattle.grammar.specs.Grammar.{given}
use Rattle.lines.specs.Refusal.{too_large, largest_number, given_and, any_given, any_too_large, refusal}
use Rattle.lines.specs.Line.{wire_of, wires_of, change_for, obeyed, decision, decision_for, shortest_reply, line_decision, line_outcome}
use Rattle.grammar.specs.Texts.{command_text, printable, printable_slot}
use Rattle.wiring.specs.Wiring.{only, slot_in, pairs_in, cell_commands, connector_commands, commands_from, wiring}
use Rattle.grammar.specs.Texts.{printable_command}
use Rattle.wiring.specs.Settable.{fed, all_accepted, Settable}
use Rattle.lines.proofs.Decisions.{clock_fits, kind_fits, connector_fits}
use Rattle.grammar.proofs.Printed.{text-parses}

-- ---- commands and their lines

-- commands one after the other, each printable and accepted, lead from c to d
data Runs (n store : ℕ) : Card → List Command → Card → Type 0 where
  none : {c : Card} → Runs n store c [] c
  next : {c d : Card} {command : Command} {commands : List Command} → printable_command n command ≡ true → refusal n (context_of n c) store command ≡ None
      → Runs n store (obeyed n c command) commands d → Runs n store c (command ∷ commands) d

module _ {n store : ℕ} where
  both_run : {c d e : Card} {first more : List Command} → Runs n store c first d → Runs n store d more e → Runs n store c (first ++ more) e
  both_run none later = later
  both_run (next prints free early) later = next prints free (both_run early later)

  only-runs : (test : Bool) (c : Card) (command : Command) → (test ≡ true → printable_command n command ≡ true)
      → (test ≡ true → refusal n (context_of n c) store command ≡ None)
      → Runs n store c (only test command) (cond test (obeyed n c command) c)
  only-runs true c command prints free = next (prints refl) (free refl) none
  only-runs false c command prints free = none

  runs-printable : {c d : Card} {commands : List Command} → Runs n store c commands d → every (printable_command n) commands ≡ true
  unfolding every
  runs-printable none = refl
  runs-printable (next prints free more) = rw prints (runs-printable more)

-- the settings that some commands reach
record Reaches (n store : ℕ) (c : Card) (commands : List Command) (t : ℕ) (cs : List Cell) (ks : List Connector) : Type 0 where
  card : Card
  runs : Runs n store c commands card
  trigger : card.trigger ≡ t
  cells : card.cells ≡ cs
  formed : well_formed card.connectors ≡ true
  connectors : each card.connectors ≡ ks

-- the line of a command that is not refused is accepted, and obeyed
module _ (n reply store : ℕ) (room : shortest_reply ≤ reply) where
  line-accepted : (c : Card) (command : Command) → printable_command n command ≡ true → refusal n (context_of n c) store command ≡ None
      → (line_outcome n c (command_text command) reply store).k ≡ 0
  unfolding line_decision line_outcome decision_for decision
  line-accepted c command prints free = rw (le-ltb reply shortest_reply room, text-parses n command prints, free)

  line-obeyed : (c : Card) (command : Command) → printable_command n command ≡ true → refusal n (context_of n c) store command ≡ None
      → (line_outcome n c (command_text command) reply store).card ≡ obeyed n c command
  unfolding line_decision line_outcome decision_for decision
  line-obeyed c command prints free = rw (le-ltb reply shortest_reply room, text-parses n command prints, free)

  fed-runs : {c d : Card} {commands : List Command} → Runs n store c commands d → fed n reply store c (map command_text commands) ≡ d
  unfolding fed
  fed-runs none = refl
  fed-runs {c} (next {command = command} {commands = commands} prints free more) =
      ap (λ (d : Card). fed n reply store d (map command_text commands)) (line-obeyed c command prints free) ∙ fed-runs more

  accepted-runs : {c d : Card} {commands : List Command} → Runs n store c commands d → all_accepted n reply store c (map command_text commands) ≡ true
  unfolding all_accepted
  accepted-runs none = refl
  accepted-runs {c} (next {command = command} prints free more) =
      rw (line-accepted c command prints free, line-obeyed c command prints free) (accepted-runs more)

-- ---- numbers

small-printable : (v : ℕ) → v ≤ largest_number → printable v ≡ true
small-printable v h = lt-ltb v (10 ^ max_digits) (omega arith)

small-fits : (v : ℕ) → v ≤ largest_number → too_large v ≡ false
small-fits v h = le-ltb largest_number v h

-- ---- the slots of a cell, as a line gives them

slot-given : (used : Bool) (a : ℕ) → is_some (slot_in used a) ≡ used
slot-given true a = refl
slot-given false a = refl

given-used : (cell : Cell) → given (pairs_in cell) ≡ (row_of cell.kind).used
given-used cell =
    let u = (row_of cell.kind).used in
    λ i. slots (slot-given u.x (get_or cell.slots 0 0) i) (slot-given u.y (get_or cell.slots 1 0) i) (slot-given u.z (get_or cell.slots 2 0) i)
    (slot-given u.f (get_or cell.slots 3 0) i)

slot-test : (bad : ℕ → Bool) (used : Bool) (a : ℕ) → given_and bad (slot_in used a) ≡ (used && bad a)
slot-test bad true a = refl
slot-test bad false a = refl

-- a test of the slots that are given
slots-test : (bad : ℕ → Bool) (cell : Cell) → let u = (row_of cell.kind).used in let s = cell.slots in any_given bad (pairs_in cell)
    ≡ (((u.x && bad (get_or s 0 0)) || (u.y && bad (get_or s 1 0))) || ((u.z && bad (get_or s 2 0)) || (u.f && bad (get_or s 3 0))))
slots-test bad cell =
    let u = (row_of cell.kind).used in
    let s = cell.slots in
    λ i. (slot-test bad u.x (get_or s 0 0) i || slot-test bad u.y (get_or s 1 0) i)
    || (slot-test bad u.z (get_or s 2 0) i || slot-test bad u.f (get_or s 3 0) i)

slot-printable : (n : ℕ) (used edge : Bool) (a : ℕ) → valid_slot n used edge a ≡ true → printable_slot (slot_in used a) ≡ true
slot-printable n true edge a ok =
    let most = slot-most n true edge a ok in
    small-printable a (omega arith)
slot-printable n false edge a ok = refl

-- of the slots of a valid cell
module _ (n : ℕ) (cell : Cell) (ok : valid_cell n cell ≡ true) where
  slots_small : any_too_large (pairs_in cell) ≡ false
  slots_small =
      let r = row_of cell.kind in
      let each = slots-each n cell ok in
      let x = slot-most n r.used.x r.edge.x _ each.0 in
      let y = slot-most n r.used.y r.edge.y _ each.1 in
      let z = slot-most n r.used.z r.edge.z _ each.2 in
      let f = slot-most n r.used.f r.edge.f _ each.3 in
      slots-test too_large cell
      ∙ rw (
        small-fits (get_or cell.slots 0 0) (omega arith),
        small-fits (get_or cell.slots 1 0) (omega arith),
        small-fits (get_or cell.slots 2 0) (omega arith),
        small-fits (get_or cell.slots 3 0) (omega arith),
        and-false r.used.x,
        and-false r.used.y,
        and-false r.used.z,
        and-false r.used.f,
      )

  slots-printable : any_slot (row_of cell.kind).used ≡ true → printable_command n (SetSlots (pairs_in cell)) ≡ true
  unfolding printable_command
  slots-printable some =
      let r = row_of cell.kind in
      let each = slots-each n cell ok in
      rw (
        ap any_slot (given-used cell) ∙ some,
        slot-printable n r.used.x r.edge.x (get_or cell.slots 0 0) each.0,
        slot-printable n r.used.y r.edge.y (get_or cell.slots 1 0) each.1,
        slot-printable n r.used.z r.edge.z (get_or cell.slots 2 0) each.2,
        slot-printable n r.used.f r.edge.f (get_or cell.slots 3 0) each.3,
      )

-- ---- one cell

-- the cell that the optional commands leave
whole-cell : (n : ℕ) (cell : Cell) → valid_cell n cell ≡ true → cond (any_slot (row_of cell.kind).used) (written cell) (configured_as cell) ≡ cleared_cell cell
whole-cell n cell ok = go (any_slot (row_of cell.kind).used) refl
  where
    go : (b : Bool) → any_slot (row_of cell.kind).used ≡ b → cond b (written cell) (configured_as cell) ≡ cleared_cell cell
    go true e = written_is n cell ok
    go false e = unslotted n cell ok e ∙ written_is n cell ok

-- a slot that is not given keeps what it holds, whatever address is given for it
slot-kept : (used edge : Bool) (v old : ℕ) → wired_slot used edge v old ≡ wired_slot used edge (wire_of (slot_in used v)) old
slot-kept true edge v old = refl
slot-kept false edge v old = refl

wired-given : (cell : Cell) (used : Slots) (v : List ℕ) → wired cell used v
    ≡ wired cell used
    (wire_of (slot_in used.x (get_or v 0 0)) ∷ wire_of (slot_in used.y (get_or v 1 0)) ∷ wire_of (slot_in used.z (get_or v 2 0)) ∷ wire_of (slot_in used.f (get_or v 3 0)) ∷ [])
unfolding wired
wired-given cell used v =
    let edge = (row_of cell.kind).edge in
    let x = slot-kept used.x edge.x (get_or v 0 0) (get_or cell.slots 0 0) in
    let y = slot-kept used.y edge.y (get_or v 1 0) (get_or cell.slots 1 0) in
    let z = slot-kept used.z edge.z (get_or v 2 0) (get_or cell.slots 2 0) in
    let f = slot-kept used.f edge.f (get_or v 3 0) (get_or cell.slots 3 0) in
    λ i. cell_of cell.kind cell.config (x i ∷ y i ∷ z i ∷ f i ∷ []) (state_of cell)

module _ (n store : ℕ) (apart : first_cell + n ≤ first_connector) where
  module _ (c : Card) (i : ℕ) (within : i < n) where
    move-free : refusal n (context_of n c) store (Move (first_cell + i)) ≡ None
    unfolding refusal
    move-free = rw (small-fits (first_cell + i) (omega arith), cell-place n i within)

    kind-free : (old : Cell) (d : Card) → CellWritten c i old d → (v : ℕ) → bad_cell_type v ≡ false → refusal n (context_of n d) store (SetKind v) ≡ None
    unfolding refusal
    kind-free old d w v known =
        let small = kind_fits v known in
        rw (at-cell n c i within d w.pointer, small-fits v (omega arith), known)

    kind-obeyed : (old : Cell) (d : Card) → CellWritten c i old d → (v : ℕ) → CellWritten c i (typed v) (obeyed n d (SetKind v))
    unfolding changed change_for
    kind-obeyed old d w v = rw (at-cell n c i within d w.pointer) (type-written n c i within old v d w)

    module _ (there : i < length c.cells) (old : Cell) (d : Card) (w : CellWritten c i old d) where
      kind-here : (current_cell n d).kind ≡ old.kind
      kind-here = ap (λ (cell : Cell). cell.kind) (current-written n c i within there old d w)

      config-free : (v : ℕ) → v ≤ largest_config → bad_config old.kind v ≡ false → refusal n (context_of n d) store (SetConfig v) ≡ None
      unfolding refusal
      config-free v small good = rw (at-cell n c i within d w.pointer, small-fits v small, kind-here, good)

      config-obeyed : (v : ℕ) → CellWritten c i (configured old v) (obeyed n d (SetConfig v))
      unfolding changed change_for
      config-obeyed v = rw (at-cell n c i within d w.pointer) (config-written n c i within there old d w v)

      -- the slots of a valid cell of this type
      module _ (cell : Cell) (ok : valid_cell n cell ≡ true) (same : old.kind ≡ cell.kind) where
        slots-free : refusal n (context_of n d) store (SetSlots (pairs_in cell)) ≡ None
        unfolding refusal
        slots-free =
            let kind = kind-here ∙ same in
            rw (slots_small n cell ok, at-cell n c i within d w.pointer, kind, given-used cell, used-given cell.kind, slots-test (bad_address n) cell, slots-permitted n cell ok)

        slots-obeyed : CellWritten c i (wired old (row_of cell.kind).used cell.slots) (obeyed n d (SetSlots (pairs_in cell)))
        unfolding changed change_for wired
        slots-obeyed =
            let used = (row_of cell.kind).used in
            let wires = wires_of (pairs_in cell) in
            rw (given-used cell, wired-given old used cell.slots)
            (slots-written n c i within there old d w used (wires.x ∷ wires.y ∷ wires.z ∷ wires.f ∷ []))

      -- one of two
      either-written : (test : Bool) (cell : Cell) (e : Card) → CellWritten c i cell e → CellWritten c i (cond test cell old) (cond test e d)
      either-written true cell e written = written
      either-written false cell e written = w

    -- the commands of a valid cell set it, and nothing else of the settings
    cell-reaches : i < length c.cells → well_formed c.connectors ≡ true → (cell : Cell) → valid_cell n cell ≡ true
        → Reaches n store c (cell_commands i cell) c.trigger (set c.cells i (cleared_cell cell)) (each c.connectors)
    unfolding cell_commands printable_command changed change_for typed configured_as written
    cell-reaches there whole cell ok =
        let kind = cell.kind in
        let row = row_of kind in
        let known = kind-known n cell ok in
        let low = kind_fits kind known in
        let small = cell-config n cell ok in
        let moved = move c (first_cell + i) in
        let w0 = move-written n c i within in
        let d1 = obeyed n moved (SetKind kind) in
        let w1 = kind-obeyed _ moved w0 kind in
        let config = SetConfig cell.config in
        let d2 = cond (is_some row.largest) (obeyed n d1 config) d1 in
        let w2 : CellWritten c i (configured_as cell) d2 =
        either-written there (typed kind) d1 w1 (is_some row.largest) _ _ (config-obeyed there (typed kind) d1 w1 cell.config) in
        let same = ap (λ (x : Cell). x.kind) (configured-is n cell ok) in
        let slots = SetSlots (pairs_in cell) in
        let d3 = cond (any_slot row.used) (obeyed n d2 slots) d2 in
        let w3 : CellWritten c i (cond (any_slot row.used) (written cell) (configured_as cell)) d3 =
        either-written there (configured_as cell) d2 w2 (any_slot row.used) _ _ (slots-obeyed there (configured_as cell) d2 w2 cell ok same) in
        record {
          card = d3;
          runs =
              next (small-printable (first_cell + i) (omega arith)) move-free
              (next (small-printable kind (omega arith)) (kind-free _ moved w0 kind known)
              (both_run
              (only-runs (is_some row.largest) d1 config (λ e. small-printable cell.config small)
              (λ e. config-free there (typed kind) d1 w1 cell.config small (config-permitted n cell ok e)))
              (only-runs (any_slot row.used) d2 slots (slots-printable n cell ok)
              (λ e. slots-free there (configured_as cell) d2 w2 cell ok same))));
          trigger = w3.trigger;
          cells = w3.cells ∙ ap (set c.cells i) (whole-cell n cell ok);
          formed = rw w3.connectors whole;
          connectors = ap each w3.connectors;
        }

  -- ---- one connector

  -- the commands of a valid connector set it, and nothing else of the settings; under trigger 0 no type is refused with 13
  module _ (c : Card) (k : ℕ) (within : k < connector_count) (whole : well_formed c.connectors ≡ true) (idle : c.trigger ≡ 0) where
    type-free : (old : Connector) (d : Card) → ConnectorWritten c k old d → (v : ℕ) → bad_connector_type v ≡ false
        → refusal n (context_of n d) store (SetKind v) ≡ None
    unfolding refusal front_driven
    type-free old d w v known =
        let small = connector_fits v known in
        let away = beside-cells c k within n apart d w.pointer in
        let off = w.trigger ∙ idle in
        rw (away, small-fits v (omega arith), known, off, and-false (eqb d.pointer first_connector))

    source_free : (old : Connector) (d : Card) → ConnectorWritten c k old d → (v : ℕ) → bad_address n v ≡ false
        → refusal n (context_of n d) store (SetConfig v) ≡ None
    unfolding refusal
    source_free old d w v good =
        let most = address-most n v good in
        rw (beside-cells c k within n apart d w.pointer, small-fits v (omega arith), good)

    connector-reaches : (connector : Connector) → valid_connector n connector ≡ true
        → Reaches n store c (connector_commands k connector) c.trigger c.cells (set (each c.connectors) k connector)
    unfolding connector_commands printable_command changed change_for refusal
    connector-reaches connector ok =
        let kind = connector.kind in
        let source = connector.source in
        let known = kind-good n connector ok in
        let good = source-good n connector ok in
        let low = connector_fits kind known in
        let most = address-most n source good in
        let moved = move c (first_connector + k) in
        let w0 = move-connector-written c k within whole in
        let w1 = connector-type-written c k within _ moved w0 kind known in
        let d1 = obeyed n moved (SetKind kind) in
        let v1 : ConnectorWritten c k (record { kind = kind; source = source_at c.connectors k }) d1 =
        rw (beside-cells c k within n apart moved w0.pointer) w1 in
        let d2 = obeyed n d1 (SetConfig source) in
        let v2 : ConnectorWritten c k connector d2 =
        rw (beside-cells c k within n apart d1 v1.pointer) (source-written c k within _ d1 v1 source) in
        let free : refusal n (context_of n c) store (Move (first_connector + k)) ≡ None =
        rw (small-fits (first_connector + k) (omega arith), connector-place n k within) in
        record {
          card = d2;
          runs =
              next (small-printable (first_connector + k) (omega arith)) free
              (next (small-printable kind (omega arith)) (type-free _ moved w0 kind known)
              (next (small-printable source (omega arith)) (source_free _ d1 v1 source good) none));
          trigger = v2.trigger;
          cells = v2.cells;
          formed = v2.formed;
          connectors = v2.connectors;
        }

  -- ---- all of them

  cells-reach : (cells : List Cell) (i : ℕ) (c : Card) → i + length cells ≤ n → n ≤ length c.cells → well_formed c.connectors ≡ true
      → every (valid_cell n) cells ≡ true
      → Reaches n store c (commands_from cell_commands i cells) c.trigger (sets c.cells i (map cleared_cell cells)) (each c.connectors)
  unfolding commands_from every
  cells-reach [] i c room count whole ok = record { card = c; runs = none; trigger = refl; cells = refl; formed = whole; connectors = refl }
  cells-reach (cell ∷ cells) i c room count whole ok =
      let first = cell-reaches c i (omega arith) (omega arith) whole cell (and_left (valid_cell n cell) _ ok) in
      let long : n ≤ length first.card.cells = omega (arith, count, ap length first.cells ∙ length-set c.cells i (cleared_cell cell)) in
      let more = cells-reach cells (suc i) first.card (omega arith) long first.formed (and_right (valid_cell n cell) _ ok) in
      record {
        card = more.card;
        runs = both_run first.runs more.runs;
        trigger = more.trigger ∙ first.trigger;
        cells = more.cells ∙ ap (λ (l : List Cell). sets l (suc i) (map cleared_cell cells)) first.cells;
        formed = more.formed;
        connectors = more.connectors ∙ first.connectors;
      }

  connectors-reach : (connectors : List Connector) (k : ℕ) (c : Card) → c.trigger ≡ 0 → k + length connectors ≤ connector_count
      → well_formed c.connectors ≡ true → every (valid_connector n) connectors ≡ true
      → Reaches n store c (commands_from connector_commands k connectors) c.trigger c.cells (sets (each c.connectors) k connectors)
  unfolding commands_from every
  connectors-reach [] k c idle room whole ok = record { card = c; runs = none; trigger = refl; cells = refl; formed = whole; connectors = refl }
  connectors-reach (connector ∷ connectors) k c idle room whole ok =
      let first = connector-reaches c k (omega arith) whole idle connector (and_left (valid_connector n connector) _ ok) in
      let off = first.trigger ∙ idle in
      let more = connectors-reach connectors (suc k) first.card off (omega arith) first.formed (and_right (valid_connector n connector) _ ok) in
      record {
        card = more.card;
        runs = both_run first.runs more.runs;
        trigger = more.trigger ∙ first.trigger;
        cells = more.cells ∙ first.cells;
        formed = more.formed;
        connectors = more.connectors ∙ ap (λ (l : List Connector). sets l (suc k) connectors) first.connectors;
      }

  -- a front that is set whole, and what follows it
  sets-front : (a b xs : List Cell) → length xs ≡ length a → sets (a ++ b) 0 xs ≡ xs ++ b
  sets-front a b xs e =
      let whole = length-append a b in
      sets-eq xs (a ++ b) 0 (omega arith) ∙ ap (λ (r : List Cell). xs ++ r) (drop_at a b (0 + length xs) (omega arith))

  -- from a fresh card
  wiring-reaches : (trigger : ℕ) (cells : List Cell) (connectors : List Connector) → valid n trigger cells connectors ≡ true
      → Reaches n store (fresh_of n) (wiring trigger (take n cells) connectors) trigger
      (map cleared_cell (take n cells) ++ replicate (cell_room - n) fresh_cell) connectors
  unfolding wiring changed change_for refusal printable_command set_trigger
  wiring-reaches trigger cells connectors ok =
      let s = split n trigger cells connectors ok in
      let count = s.cell-count in
      let others = s.connector-count in
      let start = length-replicate n fresh_cell in
      let behind = replicate (cell_room - n) fresh_cell in
      let all = length-append (replicate n fresh_cell) behind in
      let front = cells-reach (take n cells) 0 (fresh_of n) (omega arith) (omega arith) (formed n (fresh_of n) (fresh-valid n)) s.cells-pass in
      let back = connectors-reach connectors 0 front.card front.trigger (omega arith) front.formed s.connectors-pass in
      let set-cells : back.card.cells ≡ map cleared_cell (take n cells) ++ behind =
      back.cells
      ∙ front.cells
      ∙ sets-front (replicate n fresh_cell) behind (map cleared_cell (take n cells)) (length-map (take n cells) cleared_cell ∙ count ∙ sym start) in
      let long : length connectors ≡ length (each front.card.connectors) = others ∙ sym (length-each front.card.connectors) in
      let set-connectors : each back.card.connectors ≡ connectors = back.connectors ∙ sets-all (each front.card.connectors) connectors long in
      let sound : Sound n trigger cells (each back.card.connectors) = subst (Sound n trigger cells) (sym set-connectors) s in
      let low = clock_fits trigger s.clock in
      let free : refusal n (context_of n back.card) store (Trigger trigger) ≡ None = rw (small-fits trigger (omega arith), s.clock) in
      record {
        card = set_trigger back.card trigger;
        runs = both_run front.runs (both_run back.runs (next (small-printable trigger (omega arith)) free none));
        trigger = refl;
        cells = set-cells;
        formed = rw (trigger-leaves n trigger cells back.card back.formed sound) back.formed;
        connectors = ap each (trigger-leaves n trigger cells back.card back.formed sound) ∙ set-connectors;
      }

-- so every command of a wiring is printable, and its line reads back
pub wiring-printable : (n trigger : ℕ) (cells : List Cell) (connectors : List Connector) → first_cell + n ≤ first_connector
    → valid n trigger cells connectors ≡ true → every (printable_command n) (wiring trigger (take n cells) connectors) ≡ true
wiring-printable n trigger cells connectors apart ok = runs-printable (wiring-reaches n 0 apart trigger cells connectors ok).runs

pub settable : Settable
unfolding Settable
settable n reply store trigger cells connectors apart room ok =
    let whole = and_left (well_formed connectors) (valid n trigger cells (each connectors)) ok in
    let pass = and_right (well_formed connectors) (valid n trigger cells (each connectors)) ok in
    let r = wiring-reaches n store apart trigger cells (each connectors) pass in
    let end = fed-runs n reply store room r.runs in
    let long = length-map (take n cells) cleared_cell ∙ (split n trigger cells (each connectors) pass).cell-count in (
      accepted-runs n reply store room r.runs,
      record {
        trigger = ap (λ (c : Card). c.trigger) end ∙ r.trigger;
        cells = ap (λ (c : Card). take n c.cells) end ∙ ap (take n) r.cells
            ∙ take_at (map cleared_cell (take n cells)) (replicate (cell_room - n) fresh_cell) n long;
        connectors = ap (λ (c : Card). c.connectors) end ∙ each-unique r.card.connectors connectors r.formed whole r.connectors;
      },
    )
