-- What the user's calls answer, in terms of an end's view, and what they leave (RFC 9260, 11.1).
use Rattle.std.specs.Prelude.{◌≡◌, ℕ, true, List, Option, None, Some, Result, Ok, Err}
use Rattle.sctp_model.specs.messages.Format.{Lane}
use Rattle.sctp_model.specs.world.Calls.{Call}
use Rattle.sctp_model.specs.sender.Queueing.{refusal}
use Rattle.sctp_model.specs.end.EndView.{EndView, Draw}
use Rattle.sctp_model.specs.end.Clock.{at_moment}
use Rattle.sctp_model.specs.end.Closing.{hears}
use Rattle.sctp_model.specs.end.UserCalls as model
use Rattle.sctp_model.specs.end.UserCalls.{ShutdownAnswer, Shut, NotShut, ConnectAnswer, Called, NotIdle, called, send_answer, send_leaves}
use Rattle.sctp_send.specs.SenderAnswers.{refused_with}
use Rattle.sctp_values.specs.declared.ticket.Ticket.{Ticket}
use Rattle.sctp_terms.specs.declared.calls.ConnectFault.{ConnectFault}
use Rattle.sctp_terms.specs.declared.calls.ShutdownFault.{ShutdownFault}
use Rattle.sctp_association.specs.declared.user.calls.Refused.{Refused}
use Rattle.sctp_association.specs.declared.user.calls.Refused.TheVariants.{NotOpen, Fault}

-- shutdown, by its answer's name in the machine (11.1.3)
abbrev pub shutdown_meaning : Result (Unit {0}) ShutdownFault → ShutdownAnswer
shutdown_meaning (Ok _) = Shut
shutdown_meaning (Err fault) = NotShut

-- connect (11.1.2)
abbrev pub connect_meaning : Result (Unit {0}) ConnectFault → ConnectAnswer
connect_meaning (Ok _) = Called
connect_meaning (Err fault) = NotIdle

-- only a call that is taken takes its moment
abbrev pub connected : EndView → (now : ℕ) → Draw → Result (Unit {0}) ConnectFault → EndView
connected v now d (Ok _) = called (at_moment v now) d
connected v now d (Err fault) = v

-- a message as it is handed in, with the end of its lifetime and its limit of retransmissions, if it has them (RFC 7496, 3.1)
abbrev pub call_with : Lane → (payload : ℕ) → List ℕ → (until limit : Option ℕ) → Call
call_with lane payload bytes until limit = record { lane = lane; payload = payload; bytes = bytes; until = until; limit = limit }

-- one that may be retransmitted without limit
abbrev pub call_of : Lane → ℕ → List ℕ → Option ℕ → Call
call_of lane payload bytes until = call_with lane payload bytes until None

-- one each of whose fragments may be retransmitted so many times
abbrev pub limited_call_of : Lane → (payload : ℕ) → List ℕ → (until : Option ℕ) → (limit : ℕ) → Call
limited_call_of lane payload bytes until limit = call_with lane payload bytes until (Some limit)

-- A ticket is the machine's answer, a refusal the machine's; want of memory is told only where it gives a ticket.
abbrev pub SendAnswers : EndView → Call → Result Ticket Refused → Type 0
SendAnswers v c (Ok ticket) = send_answer v c ≡ model.Ticket ticket.0
SendAnswers v c (Err NotOpen) = send_answer v c ≡ model.NotOpen
SendAnswers v c (Err (Fault fault)) = (hears model.is_established v.phase ≡ true) × refused_with (refusal v.sender c.lane.stream c.bytes) fault

-- only a ticket leaves another view
abbrev pub sent_view : EndView → Call → Result Ticket Refused → EndView
sent_view v c (Ok ticket) = send_leaves (model.Ticket ticket.0) v c
sent_view v c (Err why) = v
