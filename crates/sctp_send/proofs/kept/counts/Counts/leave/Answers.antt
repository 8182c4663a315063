use Rattle.std.proofs.Common.{refl}
use Rattle.sctp_send.proofs.kept.counts.Counts.leave.Goals as goal

pub returns : goal.returns
returns c = rw (c.one_if.ensures, c.land.ensures, c.weight.ensures.bytes, c.is_unsettled.ensures c.args.size) refl
