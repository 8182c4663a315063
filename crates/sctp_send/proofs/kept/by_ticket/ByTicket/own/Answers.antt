use Rattle.std.proofs.Common.{◌≡◌, ◌+◌, ◌-◌, ℕ, subst, arith}
use Rattle.std.proofs.lemmas.List.{length-map}
use Rattle.sctp_send.specs.inner.TicketOrder.{ticket_of, tickets_of}
use Rattle.sctp_send.specs.inner.TicketHeads.{IsRankTo}
use Rattle.sctp_send.proofs.kept.HeadLemmas.{are_own, are_own_alone}
use Rattle.sctp_send.proofs.kept.by_ticket.ByTicket.own.Goals as goal

pub returns-then-len-eq0 : goal.returns-then-len-eq0
returns-then-len-eq0 c =
    let h = c.requires in
    let s = c.args.self.now in
    let es = c.args.entries.now.items in
    let ticket = c.args.ticket in
    let from = c.front_from-from.result in
    let front = c.many_from-front.result in
    let long = length-map es ticket_of in
    let whole = h.whole in
    let many : c.len.result - c.len-2.result ≡ h.unpaired = omega (arith, c.len.ensures, c.len-2.ensures, c.args.entries.now.ok, long, whole) in
    let lower = subst (λ (n : ℕ). IsRankTo ticket n (tickets_of es) from) many c.front_from-from.ensures in
    let upto = subst (λ (n : ℕ). IsRankTo (ticket + 1) n (tickets_of es) (from + front)) many c.many_from-front.ensures in
    are_own_alone (tickets_of es) s (omega (arith, long, c.args.entries.now.ok)) h ticket from front (omega (arith, c.len-3.ensures, c.if-len-eq0.true)) lower upto

pub returns : goal.returns
returns c =
    let h = c.requires in
    let s = c.args.self.now in
    let es = c.args.entries.now.items in
    let ticket = c.args.ticket in
    let from = c.front_from-from.result in
    let front = c.many_from-front.result in
    let long = length-map es ticket_of in
    let whole = h.whole in
    let many : c.len.result - c.len-2.result ≡ h.unpaired = omega (arith, c.len.ensures, c.len-2.ensures, c.args.entries.now.ok, long, whole) in
    let lower = subst (λ (n : ℕ). IsRankTo ticket n (tickets_of es) from) many c.front_from-from.ensures in
    let upto = subst (λ (n : ℕ). IsRankTo (ticket + 1) n (tickets_of es) (from + front)) many c.many_from-front.ensures in
    rw c.saturating_sub-paired.ensures
    (are_own (tickets_of es) s (omega (arith, long, c.args.entries.now.ok)) h ticket from front c.rank_from-rank.result c.rank_above.result lower upto c.rank_from-rank.ensures c.rank_above.ensures.rank)
