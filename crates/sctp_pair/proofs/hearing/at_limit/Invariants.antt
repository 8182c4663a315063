use Rattle.std.proofs.Common.{◌≡◌, ◌≤◌, map}
use Rattle.sctp_model.specs.end.EndView.{EndView}
use Rattle.sctp_send.specs.SenderAnswers.{is_at_limit}
use Rattle.sctp_endpoint.specs.EndpointStands.{EndpointStands}
use Rattle.sctp_script.specs.ReportText.{ticket_number}
use Rattle.sctp_pair.proofs.ListedLemmas.{listed_to}
use Rattle.sctp_pair.proofs.hearing.at_limit.Given as goal

-- the tickets at their limit, as far as the last one, are there
abbrev pub invariant-loop : goal.invariant-loop
invariant-loop l =
    (v : EndView) → EndpointStands l.fn.end v → (l.counter ≤ l.last.0) × (l.last.0 ≤ v.sender.tickets) × (map ticket_number l.tickets.items ≡ listed_to (is_at_limit v.sender) l.last.0)
