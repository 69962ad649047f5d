-- `wiring::print::print` meets its contract: the text is written where any fits, and copied where it has room.
use Prim.Native.Nat.{ℕ, ◌-◌, ◌≤◌, ◌<◌, zero-le}
use mathlib.Core.Path.{◌≡◌, ap, ◌∙◌}
use mathlib.Core.List.{List}
use native.Mathlib.Omega.{arith}
use lib.ListN.{length, take, replicate, length-replicate}
use lib.Seq.{sets, length-sets}
use borrow.Author.Tests.{lt-ltb, le-ltb}
use Rattle.text.proofs.Stores.{front}
use Rattle.card.specs.Address.{cells_for}
use Rattle.wiring.specs.Parts.{text_most}
use Rattle.wiring.specs.Print.{wiring_text}
use borrow.Author.Rules.{rules}
use Rattle.wiring.proofs.print.print.Statement.{statement}
use Rattle.wiring.proofs.print.print.Tie as tie

-- the text that is written has room for any
whole : (c : tie.After-put_wiring-len) → length c.put_wiring-len.new.out ≡ text_most
whole c =
    ap length c.put_wiring-len.ensures.0
    ∙ length-sets _ 0 (wiring_text (cells_for c.args.card.size) c.args.card)
    ∙ length-replicate {A = ℕ} text_most 0

returns : tie.Need-returns-then-buffer-len
returns c =
    let a = c.args in
    let p = c.put_wiring-len in
    let long : length a.buffer.now < length (wiring_text (cells_for a.card.size) a.card) = omega (arith, p.ensures.1.0, c.if-buffer-len.true) in
    let over = lt-ltb _ _ long in
    (rw over, (rw over, (rw over, zero-le)))

part-copy-end : tie.Need-slice_bounds-copy-end
part-copy-end c =
    let p = c.put_wiring-len in
    omega (arith, whole c.before.before, p.ensures.1.1)

returns-2 : tie.Need-returns
returns-2 c =
    let p = c.put_wiring-len in
    let a = c.args in
    let fits : length (wiring_text (cells_for a.card.size) a.card) ≤ length a.buffer.now = omega (arith, p.ensures.1.0, c.if-buffer-len.false) in
    let room = le-ltb _ _ fits in
    let all : p.result - 0 ≡ p.result = omega arith in
    let zeros : List ℕ = replicate text_most 0 in
    let long : length (wiring_text (cells_for a.card.size) a.card) ≤ length zeros = omega (arith, length-replicate {A = ℕ} text_most 0, p.ensures.1) in
    let text =
    ap (λ (n : ℕ). take n p.new.out) all ∙ ap (take p.result) p.ensures.0
    ∙ front zeros (wiring_text (cells_for a.card.size) a.card) p.result p.ensures.1.0 long in
    let copied = c.copy.ensures.0 ∙ ap (sets a.buffer.now 0) text in
    let size = ap length copied ∙ length-sets a.buffer.now 0 (wiring_text (cells_for a.card.size) a.card) in
    (rw room, (rw room p.ensures.1.0, (rw room copied, omega (arith, size, p.ensures.1.0))))

pub print_spec : {M : Type 1} → statement M
print_spec =
    tie.close
    (tie.spec
    (λ c κs. search rules)
    returns
    (λ c. search rules)
    (λ c. search rules)
    part-copy-end
    (λ c κs. search rules)
    (λ c. search rules)
    returns-2)
