use Rattle.std.proofs.Common.{ap}
use Rattle.sctp_send.specs.OutstandingFields.{item_meaning}
use Rattle.sctp_send.specs.inner.Counting.{reached}
use Rattle.sctp_send.proofs.kept.counts.Counts.add.Goals as goal

pub returns-then-ne : goal.returns-then-ne
returns-then-ne c =
    let size = c.args.size in
    let more = ap (reached c.args.at (item_meaning size c.args.entry.now)) c.enter.ensures in
    rw (c.furthest-self-then-ne-2.ensures, c.furthest-self-then-ne.ensures, c.furthest-self.ensures, c.is_repeat.ensures size, c.is_first_sending.ensures size) more
