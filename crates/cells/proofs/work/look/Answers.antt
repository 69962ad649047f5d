-- `cells::work::look` meets its contract: it stops where the definition does.
use mathlib.Core.Path.{◌≡◌, sym, ap, ◌∙◌}
use mathlib.Core.Bool.{Bool, beq}
use Rattle.cells.specs.Reading.{slots_at}
use Rattle.cells.proofs.Gates.{seen, stops-at-f, stops-at-z, stops-at-y, goes-to-x}
use Rattle.cells.proofs.work.look.Goals as goal

-- what the code read is what is in the slot
tested : (v read slot t : Bool) → read ≡ slot → beq read v ≡ t → beq slot v ≡ t
tested v read slot t e h = ap (λ (b : Bool). beq b v) (sym e) ∙ h

pub returns-then-read-deciding : goal.returns-then-read-deciding
returns-then-read-deciding c =
    let a = c.args in
    stops-at-f a.deciding (slots_at a.q.now a.slots) (tested _ _ _ _ c.read.ensures c.if-read-deciding.true)

pub returns-then-read-deciding-2 : goal.returns-then-read-deciding-2
returns-then-read-deciding-2 c =
    let a = c.args in
    stops-at-z a.deciding (slots_at a.q.now a.slots)
    (tested _ _ _ _ c.read.ensures c.if-read-deciding.false) (tested _ _ _ _ c.read-2.ensures c.if-read-deciding-2.true)

pub returns-then-read-deciding-3 : goal.returns-then-read-deciding-3
returns-then-read-deciding-3 c =
    let a = c.args in
    stops-at-y a.deciding (slots_at a.q.now a.slots)
    (tested _ _ _ _ c.read.ensures c.if-read-deciding.false) (tested _ _ _ _ c.read-2.ensures c.if-read-deciding-2.false)
    (tested _ _ _ _ c.read-3.ensures c.if-read-deciding-3.true)

pub returns : goal.returns
returns c =
    let a = c.args in
    ap (λ (b : Bool). seen b 4) c.read-4.ensures
    ∙ goes-to-x a.deciding (slots_at a.q.now a.slots)
    (tested _ _ _ _ c.read.ensures c.if-read-deciding.false) (tested _ _ _ _ c.read-2.ensures c.if-read-deciding-2.false)
    (tested _ _ _ _ c.read-3.ensures c.if-read-deciding-3.false)
