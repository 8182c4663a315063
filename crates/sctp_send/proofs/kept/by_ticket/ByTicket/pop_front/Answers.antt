use Rattle.std.proofs.Common.{◌<◌, ◌∷◌, length, refl, arith}
use Rattle.sctp_send.specs.inner.TicketOrder.{pairs_from}
use Rattle.sctp_send.proofs.kept.OrderLemmas.{order_less, order_unpaired, pair_in_front}
use Rattle.sctp_send.proofs.kept.by_ticket.ByTicket.pop_front.Goals as goal

pub returns-then-len-left-clause-order : goal.returns-then-len-left-clause-order
returns-then-len-left-clause-order c = λ tickets long h.
    let s = c.args.self.now in
    let more : length tickets < length s.pairs.items = omega (arith, c.if-len-left.true, c.len.ensures, long) in
    let there = c.remove-gone.ensures.there (pairs_from s.first (c.args.ticket ∷ tickets)) (pair_in_front tickets c.args.ticket s more h) (0, omega arith, refl) in
    order_unpaired tickets c.args.ticket s _ more refl (c.remove-gone.ensures.gone there) h

pub returns-else-len-left-clause-order : goal.returns-else-len-left-clause-order
returns-else-len-left-clause-order c = λ tickets long h.
    order_less tickets c.args.ticket c.args.self.now _ (omega (arith, c.if-len-left.false, c.len.ensures, long)) refl h
