-- `convert::convert` meets its contract: the tests one by one, and the settings that were loaded, written in the other form.
use Prim.Native.Nat.{ℕ, ◌-◌, ◌≤◌, zero-le}
use mathlib.Core.Path.{◌≡◌, refl, sym, ap, ap₂, ◌∙◌}
use mathlib.Core.Bool.{Bool, true, false, not, ◌&&◌, ◌||◌, cond}
use native.Mathlib.Omega.{arith}
use lib.Dec.{eqb}
use lib.ListN.{length, take, drop}
use lib.Seq.{sets}
use borrow.Author.Tests.{lt-ltb, le-ltb, ne_eqb}
use borrow.Author.Rules.{rules}
use Rattle.card.specs.declared.card.Card.{Card}
use Rattle.card.specs.Address.{cell_count, cell_room, cells_for}
use Rattle.card.specs.Connectors.{each}
use Rattle.text.specs.Digits.{every}
use Rattle.card.specs.Valid.{valid}
use Rattle.saved.specs.Record.{narrow_width, record_length, encode, record_of, load_number, loaded}
use Rattle.saved.proofs.Records.{loaded-cells}
use Rattle.convert.specs.Convert.{large_length, cells_of, other_width, other_length, short_for, loader_number, narrow_cell, too_long, is_blank, above_small}
use Rattle.convert.proofs.Laws.{number_is, number-loader, refused_as, converted_as}
use Rattle.convert.proofs.Above.{drop-taken, above-is, held-form}
use Rattle.convert.proofs.convert.Statement.{statement}
use Rattle.convert.proofs.convert.Tie as tie

-- the length is that of a form
known : (e : tie.Else-given) → other_length cell_count e.args.bytes.now ≡ false
known e = e.if-given.false

-- the buffer has room
enough : (e : tie.Else-buffer-to) → let a = e.args in
    short_for cell_count (length a.buffer.now) a.bytes.now ≡ false
enough e =
    let a = e.args in
    le-ltb (length a.buffer.now) (record_length cell_count (other_width cell_count a.bytes.now))
    (omega (arith, e.if-buffer-to.false, e.other_form-to.ensures.1.1))

-- the card that loads the record has its number of cells
size_is : (b : Bool) → cells_for (cells_for (cond b cell_room cell_count)) ≡ cond b cell_room cell_count
unfolding cells_for
size_is true = refl
size_is false = refl

sized : (f : tie.After-fresh_of) → cells_for f.fresh_of.result.size
    ≡ cells_of cell_count f.args.bytes.now
sized f =
    let bytes = f.args.bytes.now in
    ap (λ (c : Card). cells_for c.size) f.fresh_of.ensures
    ∙ ap (λ (k : ℕ). cells_for (cells_for k)) f.cells_of-n.ensures.0
    ∙ size_is (eqb (length bytes) large_length)

-- what the load gives
number_at : (l : tie.After-load-loaded) → l.load-loaded.result.k ≡ loader_number cell_count l.args.bytes.now
number_at l =
    let bytes = l.args.bytes.now in
    l.load-loaded.ensures.1 ∙ ap (λ (m : ℕ). load_number m bytes) (sized l.before)

card-at : (l : tie.After-load-loaded) → let bytes = l.args.bytes.now in
    l.load-loaded.result.card ≡ loaded (cells_of cell_count bytes) l.fresh_of.result bytes
card-at l =
    let bytes = l.args.bytes.now in
    l.load-loaded.ensures.0 ∙ ap (λ (m : ℕ). loaded m l.fresh_of.result bytes) (sized l.before)

taken : (e : tie.Else-k-ne0) → loader_number cell_count e.args.bytes.now ≡ 0
taken e = sym (number_at e.before) ∙ e.if-k-ne0.false

-- what the code found of its durations
found : (e : tie.After-all_narrow)
    → too_long cell_count e.args.bytes.now
    ≡ (eqb e.other_form-to.result.width narrow_width && not e.all_narrow.result)
unfolding too_long
found e =
    let count = e.cells_of-n.ensures.0 in
    let bytes = e.args.bytes.now in
    let cells = (λ i. take (count i) (card-at e.before.before.before.before.before.before i).cells)
    ∙ loaded-cells (cells_of cell_count bytes) _ bytes (taken e.before.before.before.before.before) in
    let all = e.all_narrow.ensures ∙ ap (every narrow_cell) cells in
    ap₂ (λ (w : ℕ) (q : Bool). eqb w narrow_width && not q) (sym e.other_form-to.ensures.0) (sym all)

-- the bounds of the number of cells
module _ (m n : ℕ) (e : n ≡ m) where
  at_least : cell_count ≤ n → cell_count ≤ m
  at_least h = omega arith

  at_most : n ≤ cell_room → m ≤ cell_room
  at_most h = omega arith

-- and of the cells above those of a small card
found-above : (v : tie.After-valid_settings)
    → above_small cell_count v.args.bytes.now
    ≡ (not v.all_blank.result || not v.valid_settings.result)
unfolding cells_for
found-above v =
    let count = v.cells_of-n.ensures in
    let bytes = v.args.bytes.now in
    let d = v.fresh_of.result in
    let m = cells_of cell_count bytes in
    let least = at_least m _ count.0 count.1.0 in
    let ok = taken v.before.before.before.before.before.before.before.before.before in
    let all = v.all_blank.ensures ∙ (λ i. every is_blank (take (count.0 i - cell_count) (drop cell_count (card-at v.before.before.before.before.before.before.before.before.before.before i).cells)))
    ∙ ap (every is_blank) (sym (drop-taken cell_count m (loaded m d bytes).cells least)) in
    let card = v.load-loaded.result.card in
    let rules = v.valid_settings.ensures ∙ ap (valid cell_count card.trigger card.cells) v.each_of-connectors.ensures
    ∙ ap (λ (c : Card). valid cell_count c.trigger c.cells (each c.connectors)) (card-at v.before.before.before.before.before.before.before.before.before.before) in
    above-is cell_count bytes d least (at_most m _ count.0 count.1.1) ok
    ∙ ap₂ (λ (p q : Bool). not p || not q) (sym all) (sym rules)

returns : tie.Need-returns-then-given
returns c =
    let a = c.args in
    let bytes = a.bytes.now in
    let buffer = a.buffer.now in
    let number = number_is cell_count (length buffer) bytes true _ _ _ _ c.if-given.true refl refl refl refl in
    let r = refused_as cell_count 14 bytes buffer number refl in
    (r.0, (r.1, (r.2, zero-le)))

returns-2 : tie.Need-returns-then-buffer-to
returns-2 c =
    let a = c.args in
    let bytes = a.bytes.now in
    let buffer = a.buffer.now in
    let len = c.other_form-to.ensures.1.1 in
    let short = lt-ltb (length buffer) (record_length cell_count (other_width cell_count bytes)) (omega (arith, c.if-buffer-to.true, len)) in
    let number = number_is cell_count (length buffer) bytes false true _ _ _ (known c.before.before.before) short refl refl refl in
    let r = refused_as cell_count 1 bytes buffer number refl in
    (r.0, (r.1, (r.2, zero-le)))

returns-3 : tie.Need-returns-then-k-ne0
returns-3 c =
    let a = c.args in
    let bytes = a.bytes.now in
    let buffer = a.buffer.now in
    let k = c.load-loaded.result.k in
    let other = ne_eqb k 0 c.if-k-ne0.true in
    let number = number-loader cell_count (length buffer) bytes k (known c.before.before.before.before.before.before.before) (enough c.before.before.before.before) (sym (number_at c.before)) other in
    let r = refused_as cell_count k bytes buffer number other in
    (r.0, (r.1, (r.2, zero-le)))

returns-4 : tie.Need-returns-then-to-all_narrow
returns-4 c =
    let a = c.args in
    let bytes = a.bytes.now in
    let buffer = a.buffer.now in
    let long = found c.before ∙ c.if-to-all_narrow.true in
    let number = number_is cell_count (length buffer) bytes false false true _ 0 (known c.before.before.before.before.before.before.before.before.before.before.before.before.before) (enough c.before.before.before.before.before.before.before.before.before.before) (taken c.before.before.before.before.before.before) long refl in
    let r = refused_as cell_count 17 bytes buffer number refl in
    (r.0, (r.1, (r.2, zero-le)))

returns-5 : tie.Need-returns-then-all_blank-valid_settings
returns-5 c =
    let a = c.args in
    let bytes = a.bytes.now in
    let buffer = a.buffer.now in
    let long = found c.before.before.before.before.before ∙ c.if-to-all_narrow.false in
    let above = found-above c.before ∙ c.if-all_blank-valid_settings.true in
    let number = number_is cell_count (length buffer) bytes false false false true 0 (known c.before.before.before.before.before.before.before.before.before.before.before.before.before.before.before.before.before) (enough c.before.before.before.before.before.before.before.before.before.before.before.before.before.before) (taken c.before.before.before.before.before.before.before.before.before.before) long above in
    let r = refused_as cell_count 18 bytes buffer number refl in
    (r.0, (r.1, (r.2, zero-le)))

returns-6 : tie.Need-returns
unfolding record_of
returns-6 c =
    let count = c.cells_of-n.ensures in
    let to = c.other_form-to in
    let a = c.args in
    let bytes = a.bytes.now in
    let buffer = a.buffer.now in
    let m = cells_of cell_count bytes in
    let long = found c.before.before.before.before.before.before.before.before.before ∙ c.if-to-all_narrow.false in
    let above = found-above c.before.before.before.before.before ∙ c.if-all_blank-valid_settings.false in
    let number = number_is cell_count (length buffer) bytes false false false false 0 (known c.before.before.before.before.before.before.before.before.before.before.before.before.before.before.before.before.before.before.before.before.before) (enough c.before.before.before.before.before.before.before.before.before.before.before.before.before.before.before.before.before.before)
    (taken c.before.before.before.before.before.before.before.before.before.before.before.before.before.before) long above in
    let is = converted_as cell_count bytes buffer number in
    let form = held-form cell_count bytes c.fresh_of.result (at_least m _ count.0 count.1.0) (at_most m _ count.0 count.1.1)
    (taken c.before.before.before.before.before.before.before.before.before.before.before.before.before.before) in
    let card = c.load-loaded.result.card in
    let listed-row = ap (encode to.result.width card.trigger (take cell_count card.cells)) c.each_of-connectors.ensures in
    let written = listed-row ∙ ap (record_of cell_count to.result.width) (card-at c.before.before.before.before.before.before.before.before.before.before.before.before.before.before.before) ∙ form to.result.width to.ensures.0 in (
      sym number,
      (
        to.ensures.1.1 ∙ is.0,
        (c.encode_to.ensures ∙ ap (sets buffer 0) written ∙ is.1, search rules),
      ),
    )

pub convert_spec : {M : Type 1} → statement M
convert_spec =
    tie.close
    (tie.spec
    returns
    (λ c κs. search rules)
    returns-2
    (λ c κs. search rules)
    (λ c κs. search rules)
    (λ c κs. search rules)
    returns-3
    (λ c. search rules)
    (λ c κs. search rules)
    returns-4
    (λ c κs. search rules)
    (λ c. search rules)
    (λ c. search rules)
    (λ c κs. search rules)
    (λ c κs. search rules)
    returns-5
    (λ c κs. search rules)
    (λ c. search rules)
    returns-6)
