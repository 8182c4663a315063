use Rattle.std.proofs.Common.{◌≡◌, ◌+◌, ◌-◌, ℕ, subst, arith}
use Rattle.std.proofs.lemmas.List.{length-map}
use Rattle.sctp_send.specs.inner.TicketOrder.{ticket_of, tickets_of}
use Rattle.sctp_send.specs.inner.TicketHeads.{IsRankTo}
use Rattle.sctp_send.proofs.kept.HeadLemmas.{are_above}
use Rattle.sctp_send.proofs.kept.by_ticket.ByTicket.heads_above.Goals as goal

pub returns-clause-above : goal.returns-clause-above
returns-clause-above c =
    let h = c.requires in
    let es = c.args.entries.now.items in
    let long = length-map es ticket_of in
    let whole = h.whole in
    let many : c.len.result - c.len-2.result ≡ h.unpaired = omega (arith, c.len.ensures, c.len-2.ensures, c.args.entries.now.ok, long, whole) in
    let front = subst (λ (n : ℕ). IsRankTo (c.args.last + 1) n (tickets_of es) c.front_upto.result) many c.front_upto.ensures in
    are_above (tickets_of es) c.args.self.now (omega (arith, long, c.args.entries.now.ok)) h c.args.last c.front_upto.result c.rank_above.result front c.rank_above.ensures.rank
