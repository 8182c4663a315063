use Rattle.std.proofs.Common.{◌≡◌, take, map}
use Rattle.sctp_script.specs.ReportText.{ticket_number}
use Rattle.sctp_pair.specs.Noted.{tickets_noted}
use Rattle.sctp_pair.proofs.reporting.all_tickets.Given as goal

-- the tickets of the packets so far
abbrev pub invariant-loop-tickets : goal.invariant-loop-tickets
invariant-loop-tickets l = map ticket_number l.all.items ≡ tickets_noted (take l.tickets-index l.packets)
