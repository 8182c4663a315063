use Rattle.std.proofs.Common.{ℕ, ◌+◌, sym, subst, arith}
use Rattle.std.proofs.lemmas.List.{length-map}
use Rattle.sctp_send.specs.inner.TicketOrder.{ticket_of, tickets_of}
use Rattle.sctp_send.specs.inner.TicketHeads.{IsLower}
use Rattle.sctp_send.proofs.kept.HeadLemmas.{front_lower, pair_lower}
use Rattle.sctp_send.proofs.kept.by_ticket.ByTicket.lower.Goals as goal

pub returns-then-is_front_lower-clause-lower : goal.returns-then-is_front_lower-clause-lower
returns-then-is_front_lower-clause-lower c =
    let es = c.args.entries.now.items in
    front_lower (tickets_of es) c.args.self.now (omega (arith, length-map es ticket_of, c.args.entries.now.ok)) c.requires.order c.args.heads c.requires.heads c.if-is_front_lower.ensures

pub returns-clause-lower : goal.returns-clause-lower
returns-clause-lower c =
    let es = c.args.entries.now.items in
    let s = c.args.self.now in
    let d = c.args.heads in
    let long = length-map es ticket_of in
    let some = c.requires.some in
    let next = pair_lower (tickets_of es) s (omega (arith, long, c.args.entries.now.ok)) c.requires.order d c.requires.heads (omega (arith, some, long)) c.if-is_front_lower.ensures in
    subst (λ (n : ℕ). IsLower (tickets_of es) s.first s.pairs.items d (record { offset = n; heads = record { front = d.front; rank = d.rank + 1 } })) (sym c.offset.ensures) next.1
