use Rattle.std.proofs.Common.{refl}
use Rattle.sctp_send.proofs.kept.outstanding.Outstanding.has_pending.Goals as goal

pub returns-then-is_all_out : goal.returns-then-is_all_out
returns-then-is_all_out c = rw (c.is_all_out.ensures.marked c.if-is_all_out.true, c.is_all_out.ensures.unsent c.if-is_all_out.true) refl
