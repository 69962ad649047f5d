-- `session::feed::Feed::next` meets its contract: the line that is given leaves what the whole one does.
use Rattle.std.proofs.Common.{◌≡◌, length, arith}
use Rattle.input.specs.Lines.{kept}
use Rattle.session.proofs.Feeds.{fed_by}
use Rattle.session.proofs.feed.Feed.next.Goals as goal

pub returns : goal.returns
returns c =
    let e = c.next_line.ensures in
    let g = c.given.ensures in
    let whole : length c.args.buffers.now.line ≡ kept = omega arith in record {
      left_lt_left = rw g.reader_value.0 e.left_lt_left;
      fed = fed_by whole g.reader_value.0 g.reader_value.1 e.next (rw c.text.ensures at g.given);
    }
