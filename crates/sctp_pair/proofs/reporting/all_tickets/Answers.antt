use Rattle.std.proofs.Common.{◌≡◌, ◌++◌, arith}
use Rattle.std.proofs.lemmas.Grind.{common_steps}
use Rattle.sctp_pair.proofs.ReportLemmas.{tickets_more}
use Rattle.sctp_pair.proofs.reporting.all_tickets.Goals as goal

pub loop-tickets-preserved : goal.loop-tickets-preserved
loop-tickets-preserved c =
    let p = c.tickets-item.result in
    let put : c.extend_from_slice.new.self.items ≡ c.loop-tickets.all.items ++ p.items = grind (arith, common_steps) in
    tickets_more c.args.packets.now c.loop-tickets.tickets-index p c.loop-tickets.all.items _ c.loop-tickets-test.true c.tickets-item.is c.loop-tickets.invariant put
