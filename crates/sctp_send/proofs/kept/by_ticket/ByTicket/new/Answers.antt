use Rattle.std.proofs.Common.{arith}
use Rattle.sctp_send.proofs.kept.OrderLemmas.{order_none}
use Rattle.sctp_send.proofs.kept.by_ticket.ByTicket.new.Goals as goal

pub returns : goal.returns
returns c = order_none _ (omega arith) c.new.ensures
