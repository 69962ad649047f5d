-- `session::run::run_with` meets its contract: the invariant says where the run is between two turns, and the measure is the number of reads that are left.
use Prim.Native.Nat.{◌+◌, ◌<◌}
use mathlib.Core.Path.{◌≡◌}
use mathlib.Core.Bool.{true}
use native.Mathlib.Omega.{arith}
use lib.Seq.{length-take-le}
use Rattle.card.specs.Address.{cell_count}
use Rattle.card.specs.Fresh.{fresh}
use Rattle.input.specs.Lines.{part, most_reads}
use Rattle.input.proofs.Lines.{part_length}
use Rattle.session.specs.Run.{run_state_of}
use Rattle.session.proofs.Turns.{reached-start, reached-turn, ran, ended-run, gives_more}
use Rattle.session.proofs.run.run_with.Goals as goal

pub loop-r-init : goal.loop-r-init
unfolding fresh
loop-r-init c =
    let s = c.start-r.ensures in
    let n = s.taken_value in
    record {
      short = omega (arith, s.len_value);
      whole = c.requires;
      counted = record { by_reads = omega (arith, n); by_bytes = omega (arith, n) };
      reached = reached-start cell_count c.start-r.result _ _ s.card_value s.len_value n.0 n.1;
      first = λ _. s.going_value;
      later = λ h. absurd (omega (arith, n, h));
      gave = omega (arith, n);
      gives = λ _. omega (arith, n);
    }

pub turn-r-requires : goal.turn-r-requires
turn-r-requires c =
    let u = c.loop-r.invariant in record {
      len_le_kept = u.short;
      line_len = u.whole;
      left_nonzero = c.loop-r-test.true;
      counted = u.counted;
    }

pub loop-r-smaller : goal.loop-r-smaller
loop-r-smaller c = omega (arith, c.turn-r.ensures.left)

pub loop-r-preserved : goal.loop-r-preserved
loop-r-preserved c =
    let l = c.loop-r in
    let on = c.if-r.true in
    let u = l.invariant in
    let e = c.turn-r.ensures in
    let less : c.turn-r.result.left < most_reads = omega (arith, e.left, u.counted.by_reads) in
    let block = c.turn-r.new.block in
    let q = c.turn-r.result in
    let bytes = part_length block l.r.len (l.r.len + q.got) e.within in
    let printed = length-take-le q.used c.turn-r.new.out e.fits in
    record {
      short = e.short;
      whole = e.whole;
      counted = e.counted;
      reached =
          reached-turn cell_count (run_state_of l.r l.store l.line l.out) _ (part l.r.len (l.r.len + q.got) block)
          l.r.taken l.r.printed _ _ u.reached e.state (omega (arith, e.taken, bytes)) (omega (arith, e.printed, printed));
      first = λ h. absurd (omega (arith, h, less));
      later = λ _. e.going;
      gave = omega (arith, u.gives on, e.taken, e.left);
      gives = gives_more l.r q (u.gives on) e.taken e.left e.going;
    }

pub returns-else-r : goal.returns-else-r
returns-else-r c =
    let u = c.loop-r.invariant in
    let over : c.loop-r.r.going ≡ true → c.loop-r.r.left ≡ 0 = λ h. cc c.if-r.false in record {
      by_index = ran u;
      ended = ended-run u over;
    }

pub returns-after-loop-r : goal.returns-after-loop-r
returns-after-loop-r c =
    let u = c.loop-r.invariant in
    let over : c.loop-r.r.going ≡ true → c.loop-r.r.left ≡ 0 = λ h. omega (arith, c.loop-r-test.false) in record {
      by_index = ran u;
      ended = ended-run u over;
    }
