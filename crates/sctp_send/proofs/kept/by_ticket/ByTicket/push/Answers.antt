use Rattle.std.proofs.Common.{sym, ◌∙◌}
use Rattle.sctp_send.proofs.kept.OrderLemmas.{order_risen}
use Rattle.sctp_send.proofs.kept.by_ticket.ByTicket.push.Goals as goal

pub returns-then-self-ticket-clause-order : goal.returns-then-self-ticket-clause-order
returns-then-self-ticket-clause-order c = λ tickets long h.
    order_risen tickets c.args.self.now c.args.ticket (sym c.len.ensures ∙ c.if-len-eq0.true) c.if-self-ticket.true h
