-- `text::put_numbered` meets its contract: three stores, one after the other, make one text.
use Prim.Native.Nat.{◌+◌, ◌≤◌}
use native.Mathlib.Omega.{arith}
use lib.Dec.{lit≤}
use lib.ListN.{length}
use Rattle.text.specs.Decimal.{decimal, max_digits}
use Rattle.text.proofs.DecimalLaws.{decimal-length}
use Rattle.text.proofs.Stores.{stored-first, behind, three}
use borrow.Author.Rules.{rules}
use Rattle.text.proofs.put_numbered.Goals as goal

pub copy-requires : goal.copy-requires
copy-requires c =
    omega (
      arith,
      decimal-length c.args.n max_digits (lit≤ tt) (search rules),
      c.put_decimal-end.ensures.value,
      c.put_decimal-end.auto.out,
      c.copy-at.ensures.value,
      c.copy-at.auto.out,
      c.requires.ending_in_bounds,
    )

pub returns : goal.returns
returns c =
    let a = c.args in
    let word = stored-first a.out.now a.word.now (c.copy-at.ensures.out_after, c.copy-at.ensures.value) in
    let all = behind (behind word (decimal a.n) (c.put_decimal-end.ensures.out_after, c.put_decimal-end.ensures.value)) a.ending.now (c.copy.ensures.out_after, c.copy.ensures.value) in
    let whole = three a.word.now (decimal a.n) a.ending.now all in
    let digits = decimal-length a.n max_digits (lit≤ tt) (search rules) in
    let last = c.copy in
    let size : last.result ≤ length a.word.now + max_digits + length a.ending.now
    = omega (arith, digits, c.put_decimal-end.ensures.value, c.copy-at.ensures.value, last.ensures.value) in record {
      out_after = whole.0;
      value = whole.1;
      upper_bound = size;
    }
