use Rattle.std.proofs.Common.{ℕ, ◌+◌, ◌%◌, ◌^◌, refl, ap}
use Rattle.sctp_send.proofs.kept.OrderLemmas.{order_paired}
use Rattle.sctp_send.proofs.kept.by_ticket.ByTicket.pair.Goals as goal

pub returns-clause-order : goal.returns-clause-order
returns-clause-order c = λ tickets long h.
    let s = c.args.self.now in
    let at = ap (λ (n : ℕ). (s.first + n) % 2 ^ 64) long in
    order_paired tickets s (record s { pairs = c.insert_reserved.new.self }) c.args.ticket ((s.first + c.args.offset) % 2 ^ 64) at c.insert_reserved.ensures.items refl h
