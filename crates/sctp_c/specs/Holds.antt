-- Which view of an endpoint a handle stands for, and what its user notes of it.
use Rattle.std.specs.Prelude.{ℕ, Option, None, Some, Result}
use Rattle.sctp_model.specs.wire.Packet.{Packet}
use Rattle.sctp_model.specs.receiver.ReceiverView.{Handed}
use Rattle.sctp_model.specs.end.EndView.{Draw, EndView}
use Rattle.sctp_values.specs.declared.no_memory.NoMemory.{NoMemory}
use Rattle.sctp_values.specs.declared.ticket.Ticket.{Ticket}
use Rattle.sctp_association.specs.declared.user.calls.Refused.{Refused}
use Rattle.sctp_outcomes.specs.Kept.{AddsTaken}
use Rattle.sctp_endpoint.specs.EndpointStands.{EndpointStands}
use Rattle.sctp_endpoint.specs.Handled.{Handled}
use Rattle.sctp_endpoint.specs.Transmitted.{Transmits}
use Rattle.sctp_endpoint.specs.Logs.{LeavesLogs, SendsLogs, GivesLogs}
use Rattle.sctp_endpoint.specs.declared.after.Verdict.{Verdict}
use Rattle.sctp_endpoint.specs.declared.transmit.Sent.{Sent}
use Rattle.sctp_endpoint.specs.declared.endpoint.Endpoint.{Endpoint}

-- there is an endpoint, and it stands for this view
abbrev pub Holds : Option Endpoint → EndView → Type 0
Holds None v = ⊥
Holds (Some e) v = EndpointStands e v

-- it is left as this packet leaves it, or as it is left if there is none
abbrev pub TransmitsIn : EndView → Option Sent → Option Endpoint → Type 0
TransmitsIn v s None = ⊥
TransmitsIn v s (Some e) = Transmits v s e

-- it is left as a received packet leaves it, for which this is returned
abbrev pub HandledIn : EndView → (now : ℕ) → Draw → Option Packet → Result Verdict NoMemory → Option Endpoint → Type 0
HandledIn v now d o r None = ⊥
HandledIn v now d o r (Some e) = Handled v now d o r e

-- ---- notes: tickets given, tickets numbered, messages taken

-- all that was noted of this view stays, and nothing more is noted
abbrev pub KeepsNotes : EndView → Option Endpoint → Type 0
KeepsNotes v None = ⊥
KeepsNotes v (Some e) = LeavesLogs v e

-- of a packet to send its tickets are noted as numbered, and nothing else
abbrev pub SendsNotes : EndView → Option Sent → Option Endpoint → Type 0
SendsNotes v s None = ⊥
SendsNotes v s (Some e) = SendsLogs v s e

-- of an accepted message one ticket more is noted, of a refused one nothing
abbrev pub GivesNotes : EndView → Result Ticket Refused → Option Endpoint → Type 0
GivesNotes v r None = ⊥
GivesNotes v r (Some e) = GivesLogs v r e

-- of a message taken it alone is noted, on its stream
abbrev pub TakesNote : EndView → (stream : ℕ) → Handed → Option Endpoint → Type 0
TakesNote v stream h None = ⊥
TakesNote v stream h (Some e) = (t : EndView) × AddsTaken v stream h t × EndpointStands e t
