-- `session::run::turn` meets its contract: the bytes read are taken on from an empty output, and the totals grow by what they are and print.
use Prim.Native.Nat.{ℕ, ◌≤◌, ◌+◌, ◌-◌, ◌*◌}
use mathlib.Core.Path.{◌≡◌, refl, ap, ◌∙◌}
use mathlib.Core.List.{List, []}
use native.Mathlib.Omega.{arith}
use lib.ListN.{length}
use Rattle.session.specs.Session.{longest_print}
use Rattle.input.specs.Lines.{takes_all, part, block_length}
use borrow.Author.Rules.{rules}
use Rattle.session.specs.Run.{enters, kept_of, state_of}
use Rattle.session.proofs.Turns.{counted-turn}
use Rattle.session.proofs.run.turn.Goals as goal

pub overflow_add-result : goal.overflow_add-result
overflow_add-result c =
    let few : c.unwrap_or-got.result ≤ block_length = search rules in
    omega (arith, few, c.requires.counted.by_reads, c.requires.left_nonzero)

pub overflow_add-result-2 : goal.overflow_add-result-2
overflow_add-result-2 c =
    let few : c.unwrap_or-got.result ≤ block_length = search rules in
    omega (arith, few, c.take_block-next.ensures.used_bound, c.requires.counted.by_reads, c.requires.counted.by_bytes, c.requires.left_nonzero)

pub overflow_sub-result : goal.overflow_sub-result
overflow_sub-result c =
    c.requires.left_nonzero

pub returns : goal.returns
returns c =
    let a = c.args in
    let got = c.read_behind-read.ensures in
    let took = c.take_block-next.ensures in
    let few : c.unwrap_or-got.result ≤ block_length = search rules in
    let any = c.requires.left_nonzero in
    let s = c.take_block-next.result in
    let last = c.take_block-next.new in
    let bytes = part a.run.len (a.run.len + c.unwrap_or-got.result) c.read_behind-read.new.block in
    let card = a.run.card in
    let line = ap (λ (l : List ℕ). kept_of (takes_all enters
    (record { done = record { card = card; store = a.store.now; printed = [] }; line = l }) bytes)) got.block_after in
    let within : a.run.len + c.unwrap_or-got.result ≤ length c.read_behind-read.new.block = omega (arith, c.before.before.before.before.before.before.before.before.before, few, c.requires.len_le_kept) in
    let left : (a.run.left - 1) + 1 ≡ a.run.left = omega (arith, any) in
    let prints : c.take_block-next.result.used ≤ longest_print * c.unwrap_or-got.result = omega (arith, took.used_bound) in
    let old = c.requires.counted in
    record {
      few = few;
      state = took.out_after ∙ line;
      going = refl;
      short = took.len_le_kept;
      whole = took.line_len;
      taken = refl;
      printed = refl;
      left = left;
      counted = counted-turn a.run _ old refl refl left few prints;
      within = within;
      fits = search rules;
    }
