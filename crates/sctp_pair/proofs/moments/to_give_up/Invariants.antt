use Rattle.std.proofs.Common.{◌≡◌, ◌≤◌, map}
use Rattle.sctp_model.specs.end.EndView.{EndView}
use Rattle.sctp_model.specs.end.Clock.{at_moment}
use Rattle.sctp_association.specs.GivenUp.{is_to_give_up}
use Rattle.sctp_endpoint.specs.EndpointStands.{EndpointStands}
use Rattle.sctp_script.specs.ReportText.{ticket_number}
use Rattle.sctp_pair.proofs.ListedLemmas.{listed_to}
use Rattle.sctp_pair.proofs.moments.to_give_up.Given as goal

-- the tickets to give up, as far as the last one, are there
abbrev pub invariant-loop : goal.invariant-loop
invariant-loop l =
    (v : EndView) → EndpointStands l.fn.end v → (l.counter ≤ l.last.0) × (l.last.0 ≤ v.sender.tickets) × (map ticket_number l.tickets.items ≡ listed_to (is_to_give_up (at_moment v l.now)) l.last.0)
