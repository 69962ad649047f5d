-- `phrases::page::Page::put` meets its contract: `text::copy` stores the piece after what is written.
use Rattle.std.proofs.Common.{◌≡◌, ◌≤◌, ◌+◌, ℕ, List, ◌++◌, length, take, drop, arith, length-append, leb, true, refl}
use Rattle.std.proofs.Math.Seq.{sets}
use Rattle.std.proofs.lemmas.Bool.{le-leb}
use Rattle.std.proofs.lemmas.List.{length-take-le, take_at}
use Rattle.std.proofs.lemmas.List.Edits.{sets-eq}
use Rattle.phrases.proofs.page.Page.put.Goals as goal

-- what is at the front after a piece was stored at its end
stored : (l p : List ℕ) (at : ℕ) → at + length p ≤ length l → take (at + length p) (sets l at p) ≡ take at l ++ p
stored l p at h =
    let front : length (take at l) ≡ at = length-take-le at l (omega (arith, h)) in
    let whole : length (take at l ++ p) ≡ at + length p = omega (arith, length-append (take at l) p, front) in
    rw (sets-eq p l at h) (take_at (take at l ++ p) (drop (at + length p) l) (at + length p) whole)

pub returns-then-end-le-ROOM : goal.returns-then-end-le-ROOM
returns-then-end-le-ROOM c =
    let s = c.self.inside in
    let p = c.args.piece.now in
    let e = c.copy-self-inside.ensures in
    let room : s.len + length p ≤ length s.bytes = omega (arith, c.if-end-le-ROOM.true, c.self.told) in
    let size : length (take s.len s.bytes) ≡ s.len = length-take-le s.len s.bytes (omega (arith, room)) in
    let fits : length (take s.len s.bytes) + length p ≤ 65536 = omega (arith, c.if-end-le-ROOM.true, size) in
    let within : leb (length (take s.len s.bytes) + length p) 65536 ≡ true = le-leb (length (take s.len s.bytes) + length p) 65536 fits in
    rw (e.value, e.out_after, stored s.bytes p s.len room, ← c.self.view_is, within) refl
