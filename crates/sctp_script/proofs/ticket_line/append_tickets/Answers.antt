use Rattle.std.proofs.Common.{arith}
use Rattle.std.proofs.lemmas.Grind.{common_steps}
use Rattle.sctp_script.proofs.TicketLemmas.{behind_more}
use Rattle.sctp_script.proofs.ticket_line.append_tickets.Goals as goal

pub loop-ticket-preserved : goal.loop-ticket-preserved
loop-ticket-preserved c =
    rw (← behind_more c.args.tickets.now c.loop-ticket.ticket-index (record { 0 = 0 }) _ _ c.loop-ticket-test.true c.loop-ticket.invariant) (grind (arith, common_steps))

pub returns-in_err-append_number-clause-part : goal.returns-in_err-append_number-clause-part
returns-in_err-append_number-clause-part c = grind (arith, common_steps)

pub returns-in_err-append_number-clause-put : goal.returns-in_err-append_number-clause-put
returns-in_err-append_number-clause-put c = grind (arith, common_steps)
