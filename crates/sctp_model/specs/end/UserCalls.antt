-- What the user of an endpoint calls, and what each call returns (RFC 9260, 11.1).
use Rattle.std.specs.Prelude.{◌≡◌, ℕ, suc, ◌+◌, nat_le, Bool, true, false, not, ◌&&◌, ◌||◌, if◌then◌else◌, List, find, Option, Some, None, is_some}
use Rattle.std.specs.Int.{div_ceil}
use Rattle.sctp_model.specs.wire.Packet.{Packet, size_of_packet}
use Rattle.sctp_model.specs.world.Calls.{Call}
use Rattle.sctp_model.specs.receiver.ReceiverView.{Handed, ReceiverView, room_left}
use Rattle.sctp_model.specs.sender.Queueing.{Refusal, refusal, queued}
use Rattle.sctp_model.specs.sender.Abandoning.{AbandonAnswer, abandon_answer, abandon_after}
use Rattle.sctp_model.specs.receiver.SackMade.{TakeLeaves}
use Rattle.sctp_model.specs.receiver.ResetTaken.{told_of}
use Rattle.sctp_model.specs.sender.Words.{count_up}
use Rattle.sctp_model.specs.sender.Resetting.{resetting}
use Rattle.sctp_model.specs.end.EndView.{Draw, AbortedHere, Stage, Established, ShutdownPending, ShutdownSent, ShutdownReceived, ShutdownAckSent, Phase}
use Rattle.sctp_model.specs.end.EndView.{Idle, Listening, Calling, Echoing, Open, Over, EndView}
use Rattle.sctp_model.specs.end.Clock.{turned, closed}
use Rattle.sctp_model.specs.end.Closing.{with_due, takes_data, rested, hears}
use Rattle.sctp_model.specs.end.Reports.{item, USER_ABORT}
use Rattle.sctp_model.specs.end.PeerFaults.{packet_to, abort_for}
use Rattle.sctp_model.specs.end.Moments.{after_abandoning}

-- ---- connect: once, by a caller that hasn't called yet (11.1.2)

-- What is answered to connect (RFC 9260, 11.1.2).
pub data ConnectAnswer : Type 0 where
  Called NotIdle : ConnectAnswer

-- only an endpoint that nothing has happened to yet may call
abbrev pub connect_answer : Phase → ConnectAnswer
connect_answer Idle = Called
connect_answer Listening = NotIdle
connect_answer (Calling d) = NotIdle
connect_answer (Echoing t xs) = NotIdle
connect_answer (Open t g) = NotIdle
connect_answer (Over why) = NotIdle

-- INIT is due (5.1, A)
abbrev pub called : EndView → Draw → EndView
called e d = with_due (record (turned (Calling d) e).due { init = true }) (turned (Calling d) e)

-- ---- send (11.1.5)

-- that the endpoint isn't established is looked at before every other reason
pub data SendAnswer : Type 0 where
  Ticket : ℕ → SendAnswer
  Refused : Refusal → SendAnswer
  NotOpen : SendAnswer

-- the association is established
abbrev pub is_established : Stage → Bool
is_established Established = true
is_established ShutdownPending = false
is_established ShutdownSent = false
is_established ShutdownReceived = false
is_established ShutdownAckSent = false

-- the next ticket, or the refusal
abbrev pub answer_for : EndView → Option Refusal → SendAnswer
answer_for e None = Ticket (suc e.sender.tickets)
answer_for e (Some r) = Refused r

-- What is answered to send (11.1.5): that the endpoint isn't established first, then the refusals in their order.
abbrev pub send_answer : EndView → Call → SendAnswer
send_answer e c =
    if hears is_established e.phase then answer_for e (refusal e.sender c.lane.stream c.bytes) else NotOpen

-- the message waits for its number; a refusal drops the bytes
abbrev pub send_leaves : SendAnswer → EndView → Call → EndView
send_leaves (Ticket t) e c = record e { sender = queued e.sender c.lane c.payload c.bytes c.until c.limit }
send_leaves (Refused r) e c = e
send_leaves NotOpen e c = e

-- ---- abandon (RFC 3758, 3.5)

-- the association is open
abbrev pub is_open : Phase → Bool
is_open h = hears (λ g. true) h

-- what the sender of an endpoint answers to abandon (RFC 3758, 3.5), whether it is open or closed
abbrev pub abandons : EndView → ℕ → AbandonAnswer
abandons e ticket = abandon_answer e.sender ticket

-- a closed endpoint sends nothing more, so nothing is due there
abbrev pub abandoned_at : EndView → ℕ → EndView
abandoned_at e ticket =
    if is_open e.phase then after_abandoning e (abandon_after e.sender ticket) else record e { sender = abandon_after e.sender ticket }

-- ---- take (11.1.6)

-- The window has grown by a quarter of the buffer at least since it was advertised last (6.2), and the peer may still send.
abbrev pub is_update : EndView → Bool
is_update e = e.configuration.updates && (hears takes_data e.phase && nat_le (e.offered + div_ceil e.configuration.buffer 4) (room_left e.receiver))

-- then a SACK is due
abbrev pub updating : EndView → EndView
updating e = record e { due = record e.due { sack = e.due.sack || is_update e } }

-- What taking a message leaves (11.1.6).
pub record UserTakes (e : EndView) (stream : ℕ) (answer : Option Handed) (t : EndView) : Type 0 where
  pub receiver : ReceiverView
  pub takes : TakeLeaves e.receiver stream answer receiver
  pub leaves : t ≡ updating (record e { receiver = receiver })

-- ---- shutdown (11.1.3)

-- What is answered to shutdown (11.1.3).
pub data ShutdownAnswer : Type 0 where
  Shut NotShut : ShutdownAnswer

-- an association that is open may be shut
abbrev pub shutdown_answer : Phase → ShutdownAnswer
shutdown_answer Idle = NotShut
shutdown_answer Listening = NotShut
shutdown_answer (Calling d) = NotShut
shutdown_answer (Echoing t xs) = NotShut
shutdown_answer (Open t g) = Shut
shutdown_answer (Over why) = NotShut

-- the association is shut (9.2); once that is begun, the call changes nothing
abbrev pub shut_in : Phase → EndView → EndView
shut_in (Open t Established) e = rested (turned (Open t ShutdownPending) e)
shut_in h e = e

-- the endpoint after shutdown
abbrev pub shut : EndView → EndView
shut e = shut_in e.phase e

-- ---- reset (RFC 6525, 5.1)

-- What `reset` returns.
pub data ResetCall : Type 0 where
  Begun NotAgreed NoStream : ResetCall

-- an endpoint in ESTABLISHED that has agreed on it may reset each of its outgoing streams
abbrev pub reset_call : EndView → (stream : ℕ) → ResetCall
reset_call e s =
    if not (e.terms.reset && hears is_established e.phase) then NotAgreed
    else if nat_le e.sender.streams s then NoStream
    else Begun

-- the endpoint after it
abbrev pub reset_leaves : ResetCall → EndView → (stream : ℕ) → EndView
reset_leaves Begun e s = record e { sender = resetting e.sender s }
reset_leaves NotAgreed e s = e
reset_leaves NoStream e s = e

-- the lowest stream of which a reset by the peer wasn't reported to the user
abbrev pub reset_there : EndView → Option ℕ
reset_there e = find (λ s. is_some (e.receiver.resets.told s)) (count_up 0 e.receiver.streams)

-- the endpoint once it was reported
abbrev pub told_leaves : Option ℕ → EndView → EndView
told_leaves None e = e
told_leaves (Some s) e = record e { receiver = told_of e.receiver s }

-- ---- abort (11.1.4)

-- What is answered to abort (11.1.4).
pub data AbortAnswer : Type 0 where
  Aborts : Packet → AbortAnswer
  NoPeer TooLong : AbortAnswer

-- the tag of a peer that is known
abbrev pub peer_tag : Phase → Option ℕ
peer_tag Idle = None
peer_tag Listening = None
peer_tag (Calling d) = None
peer_tag (Echoing t xs) = Some t.peer
peer_tag (Open t g) = Some t.peer
peer_tag (Over why) = None

-- the ABORT of the user (3.3.10.12), with the reason
abbrev pub abort_packet : EndView → ℕ → List ℕ → Packet
abort_packet e tag reason = packet_to e.configuration tag (abort_for (item USER_ABORT reason))

-- the packet to a known peer, if it fits
abbrev pub abort_answer_to : EndView → List ℕ → Option ℕ → AbortAnswer
abort_answer_to e reason None = NoPeer
abort_answer_to e reason (Some tag) =
    if nat_le (size_of_packet (abort_packet e tag reason).chunks) e.configuration.limit then Aborts (abort_packet e tag reason) else TooLong

-- what is answered to abort at this endpoint
abbrev pub abort_answer : EndView → List ℕ → AbortAnswer
abort_answer e reason = abort_answer_to e reason (peer_tag e.phase)

-- the endpoint after abort
abbrev pub abort_leaves : AbortAnswer → EndView → EndView
abort_leaves (Aborts p) e = closed AbortedHere e
abort_leaves NoPeer e = e
abort_leaves TooLong e = e
