-- What C gets of a packet, of a message, of a result, and what a call leaves.
use Rattle.std.specs.Prelude.{◌≡◌, ℕ, ◌-◌, ◌^◌, ◌<◌, ◌≤◌, min, not, false, if◌then◌else◌, List, [], ◌∷◌, ◌++◌, length, map, take, drop, Option, Some, None, Result, Ok, Err, IfOk, OnErr}
use Rattle.std.specs.declared.vec.Vec.{Vec}
use Rattle.std.specs.declared.alloc.Global.{Global}
use Rattle.sctp_model.specs.world.Calls.{Call}
use Rattle.sctp_model.specs.wire.Packet.{Packet}
use Rattle.sctp_model.specs.wire.Typed.{Typed}
use Rattle.sctp_model.specs.receiver.ReceiverView.{Handed}
use Rattle.sctp_model.specs.receiver.Reading.{lane_of}
use Rattle.sctp_model.specs.end.EndView.{Draw, EndView}
use Rattle.sctp_model.specs.end.Clock.{at_moment}
use Rattle.sctp_model.specs.end.UserCalls.{UserTakes}
use Rattle.sctp_values.specs.declared.no_memory.NoMemory.{NoMemory}
use Rattle.sctp_values.specs.declared.ticket.Ticket.{Ticket}
use Rattle.sctp_terms.specs.Meanings.{reason_code}
use Rattle.sctp_terms.specs.declared.calls.AbortFault.{AbortFault}
use Rattle.sctp_terms.specs.declared.calls.AbortFault.TheVariants as abort
use Rattle.sctp_terms.specs.declared.calls.ResetFault.{ResetFault}
use Rattle.sctp_recv.specs.declared.restart.Reset.{Reset}
use Rattle.sctp_association.specs.AbortAnswers.{AbortAnswers, aborted_view}
use Rattle.sctp_association.specs.CallAnswers.{SendAnswers, sent_view}
use Rattle.sctp_association.specs.ResetAnswers.{ResetAnswers, reset_view, ToldAnswers, told_view}
use Rattle.sctp_association.specs.declared.user.calls.Refused.{Refused}
use Rattle.sctp_endpoint.specs.Counted.{Counted, heard_counts, sacks_read, aborted_counts}
use Rattle.sctp_endpoint.specs.Logs.{TellsAnew}
use Rattle.sctp_endpoint.specs.declared.after.Verdict.{Verdict}
use Rattle.sctp_endpoint.specs.declared.after.Verdict.TheVariants.{Taken, Dropped, Answer}
use Rattle.sctp_endpoint.specs.declared.transmit.Sent.{Sent}
use Rattle.sctp_endpoint.specs.declared.endpoint.Endpoint.{Endpoint}
use Rattle.sctp_c.specs.Codes.{refused_code, reset_code}
use Rattle.sctp_c.specs.Counts.{counted_in, CountsIn}
use Rattle.sctp_c.specs.Holds.{Holds, TransmitsIn, HandledIn, SendsNotes, GivesNotes, TakesNote}
use Rattle.sctp_c.specs.declared.codes.TheConstants.{OK, TOO_LONG, NO_MEMORY, BAD_STATE, NOTHING, NEEDS_ROOM}
use Rattle.sctp_c.specs.declared.crossing.SctpMessage.{SctpMessage}
use Rattle.sctp_c.specs.declared.crossing.SctpSent.{SctpSent}
use Rattle.sctp_c.specs.declared.crossing.SctpVerdict.{SctpVerdict}

-- ---- bytes in a buffer

-- the count is that of these bytes, which are at the beginning of the buffer; after them it is as it was
abbrev pub IsPut : (bytes : List ℕ) → (count : ℕ) → (old new : List ℕ) → Type 0
IsPut bytes n old new = (n ≡ length bytes) × (new ≡ bytes ++ drop n old)

-- ---- a packet to send

-- the count is that of these tickets, and as many as the buffer has space for are at its beginning: all of them if it has space for all; after them
-- it is as it was
abbrev pub AreTold : List Ticket → (count : ℕ) → (old new : List ℕ) → Type 0
AreTold ts n old new = (n ≡ length ts) × (new ≡ take (min n (length old)) (map (λ t. t.0) ts) ++ drop (min n (length old)) old)

-- what C gets of the next packet: if there is none, both buffers are as they were
abbrev pub PollTold : Result (Option Sent) NoMemory → (code : ℕ) → SctpSent → (buffer_old buffer tickets_old tickets : List ℕ) → Type 0
PollTold (Err e) n s r buffer t tickets = (n ≡ NO_MEMORY) × (s.length ≡ 0) × (s.tickets ≡ 0) × (buffer ≡ r) × (tickets ≡ t)
PollTold (Ok None) n s r buffer t tickets = (n ≡ OK) × (s.length ≡ 0) × (s.tickets ≡ 0) × (buffer ≡ r) × (tickets ≡ t)
PollTold (Ok (Some p)) n s r buffer t tickets = (n ≡ OK) × IsPut p.packet.items s.length r buffer × AreTold p.tickets.items s.tickets t tickets

-- The endpoint, which had counted this before, returned this as its next packet, C gets it, and the endpoint is left so.
pub record Polled (v : EndView) (now : ℕ) (before : Counted) (e : Option Endpoint) (code : ℕ) (s : SctpSent) (buffer_old buffer tickets_old tickets : List ℕ) : Type 0 where
  pub answer : Result (Option Sent) NoMemory
  pub step : IfOk answer (λ sent. TransmitsIn (at_moment v now) sent e)
  pub refused : OnErr answer (Holds e v)
  pub notes : IfOk answer (λ sent. SendsNotes v sent e)
  pub anew : IfOk answer (λ sent. TellsAnew v sent)
  pub counts : CountsIn (at_moment v now) answer e before
  pub told : PollTold answer code s buffer_old buffer tickets_old tickets

-- ---- a received packet

-- what C gets of it: if there is no answer, the buffer is as it was
abbrev pub HeardTold : Result Verdict NoMemory → (code : ℕ) → SctpVerdict → (old new : List ℕ) → Type 0
HeardTold (Err e) n w old new = (n ≡ NO_MEMORY) × (w.verdict ≡ 0) × (w.reason ≡ 0) × (w.length ≡ 0) × (new ≡ old)
HeardTold (Ok Taken) n w old new = (n ≡ OK) × (w.verdict ≡ 0) × (w.reason ≡ 0) × (w.length ≡ 0) × (new ≡ old)
HeardTold (Ok (Answer bytes)) n w old new = (n ≡ OK) × (w.verdict ≡ 1) × (w.reason ≡ 0) × IsPut bytes.items w.length old new
HeardTold (Ok (Dropped reason)) n w old new = (n ≡ OK) × (w.verdict ≡ 2) × (w.reason ≡ reason_code reason) × (w.length ≡ 0) × (new ≡ old)

-- The endpoint, which had counted this before, returned this for the packet of so many bytes, C gets it, and the endpoint is left so.
pub record Heard (v : EndView) (now : ℕ) (d : Draw) (bytes : ℕ) (o : Option Packet) (before : Counted) (e : Option Endpoint) (code : ℕ) (w : SctpVerdict) (old new : List ℕ) : Type 0 where
  pub answer : Result Verdict NoMemory
  pub step : HandledIn v now d o answer e
  pub counts : counted_in e ≡ heard_counts bytes (sacks_read o) answer before
  pub told : HeardTold answer code w old new

-- ---- an ABORT

-- the result for a refusal
abbrev pub abort_code : AbortFault → ℕ
abort_code abort.State = BAD_STATE
abort_code abort.TooLong = TOO_LONG
abort_code abort.NoMemory = NO_MEMORY

-- what C gets of it: if it is refused, no bytes, and the buffer is as it was
abbrev pub AbortTold : Result (Vec ℕ Global) AbortFault → (code count : ℕ) → (old new : List ℕ) → Type 0
AbortTold (Ok bytes) n k old new = (n ≡ OK) × IsPut bytes.items k old new
AbortTold (Err why) n k old new = (n ≡ abort_code why) × (k ≡ 0) × (new ≡ old)

-- The endpoint, which had counted this before, returned this to abort, C gets it, and the endpoint is left so.
pub record Aborted (v : EndView) (reason : List ℕ) (before : Counted) (e : Option Endpoint) (code count : ℕ) (old new : List ℕ) : Type 0 where
  pub answer : Result (Vec ℕ Global) AbortFault
  pub answers : AbortAnswers v reason answer
  pub step : Holds e (aborted_view v reason answer)
  pub counts : counted_in e ≡ aborted_counts answer before
  pub told : AbortTold answer code count old new

-- ---- the cause of an ABORT in a packet

-- its code and length, and its information at the beginning of the buffer if that has space for it; else the buffer is as it was
pub record IsCause (t : Typed) (code cause count : ℕ) (old new : List ℕ) : Type 0 where
  pub kind : cause ≡ t.kind
  pub size : count ≡ length t.value
  pub narrow : length old < length t.value → (code ≡ NEEDS_ROOM) × (new ≡ old)
  pub put : length t.value ≤ length old → (code ≡ OK) × (new ≡ t.value ++ drop (length t.value) old)

-- what C gets of it: if there is none, all is as it was
abbrev pub CauseTold : Option Typed → (code cause_old cause count_old count : ℕ) → (old new : List ℕ) → Type 0
CauseTold None n cause_old cause count_old count old new = (n ≡ NOTHING) × (cause ≡ cause_old) × (count ≡ count_old) × (new ≡ old)
CauseTold (Some t) n cause_old cause count_old count old new = IsCause t n cause count old new

-- ---- a message that C sends

-- what C gets of it
abbrev pub SendTold : Result Ticket Refused → (code ticket : ℕ) → Type 0
SendTold (Ok given) n t = (n ≡ OK) × (t ≡ given.0)
SendTold (Err why) n t = n ≡ refused_code why

-- The endpoint returned this, C gets it, and the endpoint is left so.
pub record Sends (v : EndView) (c : Call) (e : Option Endpoint) (code ticket : ℕ) : Type 0 where
  pub answer : Result Ticket Refused
  pub answers : SendAnswers v c answer
  pub step : Holds e (sent_view v c answer)
  pub notes : GivesNotes v answer e
  pub told : SendTold answer code ticket

-- ---- resets

-- The endpoint returned this to a request for a reset, C gets it, and the endpoint is left so.
pub record Resets (v : EndView) (stream : ℕ) (e : Option Endpoint) (code : ℕ) : Type 0 where
  pub answer : Result (Unit {0}) ResetFault
  pub answers : ResetAnswers v stream answer
  pub step : Holds e (reset_view v stream answer)
  pub told : code ≡ reset_code answer

-- what C gets of a reset by the peer: if there is none, both numbers are as they were
abbrev pub ResetTold : Option Reset → (code stream_old stream earlier_old earlier : ℕ) → Type 0
ResetTold None n stream_old stream earlier_old earlier = (n ≡ NOTHING) × (stream ≡ stream_old) × (earlier ≡ earlier_old)
ResetTold (Some r) n stream_old stream earlier_old earlier = (n ≡ OK) × (stream ≡ r.stream) × (earlier ≡ r.count)

-- The endpoint returned this reset by the peer, or that there is none, C gets it, and the endpoint is left so.
pub record TakesReset (v : EndView) (e : Option Endpoint) (code stream_old stream earlier_old earlier : ℕ) : Type 0 where
  pub answer : Option Reset
  pub answers : ToldAnswers v answer
  pub step : Holds e (told_view v answer)
  pub told : ResetTold answer code stream_old stream earlier_old earlier

-- ---- a message that is ready or was taken

-- all but its bytes; a message without a number has the number 0
pub record IsHead (m : SctpMessage) (h : Handed) : Type 0 where
  pub length : m.length ≡ min (length h.bytes) (2 ^ 64 - 1)
  pub payload : m.payload_id ≡ h.payload
  pub lane : lane_of m.stream (not m.ordered) ≡ h.lane
  pub number : (if m.numbered then Some m.number else None) ≡ h.number
  pub unnumbered : m.numbered ≡ false → m.number ≡ 0
  pub reserved : m.reserved ≡ 0 ∷ 0 ∷ 0 ∷ 0 ∷ []

-- the whole message is at the beginning of the buffer; after it that is as it was
pub record IsTold (m : SctpMessage) (old new : List ℕ) (h : Handed) : Type 0 where
  pub head : IsHead m h
  pub bytes : new ≡ h.bytes ++ drop (length h.bytes) old

-- This message was taken, C gets it, the endpoint is left so, and its user notes the message.
pub record Takes (v : EndView) (stream : ℕ) (h : Handed) (e : Option Endpoint) (m : SctpMessage) (old new : List ℕ) : Type 0 where
  pub after : EndView
  pub takes : UserTakes v stream (Some h) after
  pub step : Holds e after
  pub notes : TakesNote v stream h e
  pub told : IsTold m old new h
