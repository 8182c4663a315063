-- What each call leaves of what an endpoint's user notes of it: tickets given, tickets numbered, messages taken (RFC 9260, 11.1).
use Rattle.std.specs.Prelude.{◌≡◌, ℕ, ◌++◌, map, Option, Some, None, Result, Ok, Err}
use Rattle.sctp_model.specs.end.EndView.{EndView}
use Rattle.sctp_values.specs.declared.ticket.Ticket.{Ticket}
use Rattle.sctp_recv.specs.HandedOf.{handed_of}
use Rattle.sctp_recv.specs.declared.message.Message.{Message}
use Rattle.sctp_association.specs.declared.user.calls.Refused.{Refused}
use Rattle.sctp_outcomes.specs.Kept.{numbered, KeepsLogs, AddsNumbers, AddsTicket, AddsTaken}
use Rattle.sctp_outcomes.specs.ToldOnce.{NoTicketTwice}
use Rattle.sctp_endpoint.specs.EndpointStands.{EndpointStands}
use Rattle.sctp_endpoint.specs.declared.transmit.Sent.{Sent}
use Rattle.sctp_endpoint.specs.declared.endpoint.Endpoint.{Endpoint}

-- all that was noted stays, and nothing more is
abbrev pub LeavesLogs : EndView → Endpoint → Type 0
LeavesLogs v e = (t : EndView) × KeepsLogs v t × EndpointStands e t

-- With a packet to send its tickets are noted as numbered, after all before them, and nothing else; without a packet nothing.
abbrev pub SendsLogs : EndView → Option Sent → Endpoint → Type 0
SendsLogs v None e = LeavesLogs v e
SendsLogs v (Some s) e = (t : EndView) × AddsNumbers v t × (numbered t ≡ numbered v ++ map (λ t. t.0) s.tickets.items) × EndpointStands e t

-- The tickets of a packet to send are returned for the first time: among those numbered before and these there is none twice.
abbrev pub TellsAnew : EndView → Option Sent → Type 0
TellsAnew v None = Unit {0}
TellsAnew v (Some s) = NoTicketTwice (numbered v ++ map (λ t. t.0) s.tickets.items)

-- Of an accepted message one ticket more is noted, and nothing else; of a refused one nothing.
abbrev pub GivesLogs : EndView → Result Ticket Refused → Endpoint → Type 0
GivesLogs v (Ok ticket) e = (t : EndView) × AddsTicket v t × EndpointStands e t
GivesLogs v (Err why) e = LeavesLogs v e

-- With a message taken it alone is noted, on its stream; without one nothing.
abbrev pub TakesLogs : EndView → (stream : ℕ) → Option Message → Endpoint → Type 0
TakesLogs v stream (Some m) e = (t : EndView) × AddsTaken v stream (handed_of m) t × EndpointStands e t
TakesLogs v stream None e = LeavesLogs v e
