use Rattle.std.proofs.Common.{◌≡◌, ◌+◌, ◌≤◌, ◌++◌, length, take, map, filter}
use Rattle.std.specs.Prelude.{vec_capacity}
use Rattle.sctp_model.specs.sender.Readers.{abandoned}
use Rattle.sctp_model.specs.end.EndView.{EndView}
use Rattle.sctp_endpoint.specs.EndpointStands.{EndpointStands}
use Rattle.sctp_script.specs.ReportText.{ticket_number}
use Rattle.sctp_pair.proofs.moments.note.Given as goal

-- there is room for the tickets that are left, and of those so far the abandoned ones are noted
abbrev pub invariant-loop-ticket : goal.invariant-loop-ticket
invariant-loop-ticket l =
    (length l.log.items + length l.before ≤ vec_capacity l.log + l.ticket-index)
    × ((v : EndView) → EndpointStands l.end v
    → map ticket_number l.log.items ≡ map ticket_number l.fn.log.items ++ filter (λ k. abandoned v.sender k) (map ticket_number (take l.ticket-index l.before)))
