use Rattle.std.proofs.Common.{◌≡◌, ◌++◌, take, map, decimal}
use Rattle.sctp_script.specs.ReportText.{ticket_number}
use Rattle.sctp_text.specs.SpacedWords.{each_behind_space}
use Rattle.sctp_script.proofs.ticket_line.append_tickets.Given as goal

abbrev pub invariant-loop-ticket : goal.invariant-loop-ticket
invariant-loop-ticket l = l.out.items ≡ l.fn.out.items ++ each_behind_space (map decimal (map ticket_number (take l.ticket-index l.tickets)))
