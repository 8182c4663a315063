use Rattle.sctp_send.proofs.kept.OrderLemmas.{order_none}
use Rattle.sctp_send.proofs.kept.by_ticket.ByTicket.clear.Goals as goal

pub returns-clause-order : goal.returns-clause-order
returns-clause-order c = λ tickets h. order_none _ h.small c.clear.ensures.items
