-- The calls of the association that a user's calls make, and the streams after them (RFC 8831, 6; RFC 8832, 6).
use Rattle.std.specs.Prelude.{ℕ, ◌+◌, min, nat_lt, nat_le, Bool, true, not, ◌&&◌, if◌then◌else◌, length, Option, None, Some, Result, Ok, Err}
use Rattle.sctp_model.specs.numbers.Limits.{LAST_MOMENT, LONGEST_MESSAGE}
use Rattle.sctp_model.specs.world.Calls.{Call}
use Rattle.sctp_model.specs.end.EndView.{EndView}
use Rattle.sctp_send.specs.SenderAnswers.{lane_for}
use Rattle.sctp_dcep.specs.Content.{Content, DCEP, id_of, carried}
use Rattle.sctp_dcep.specs.Dcep.{Reliability, Parameters, value_of, opening, acknowledgement}
use Rattle.sctp_channels.specs.declared.fault.OpenFault.{OpenFault}
use Rattle.sctp_channels.specs.declared.fault.OpenFault.TheVariants.{TooLong, OutOfRange, NoStream, WrongHalf, Used}
use Rattle.sctp_channels.specs.declared.stream.ChannelType.{ChannelType}
use Rattle.sctp_channels.specs.declared.stream.ChannelType.TheVariants as channel
use Rattle.sctp_channels.specs.declared.stream.State.{State}
use Rattle.sctp_channels.specs.declared.stream.State.TheVariants.{Unused, Connecting, Unanswered, Open, Closing, Refused, Silent}
use Rattle.sctp_channels.specs.declared.stream.Stream.{Stream}
use Rattle.sctp_channels.specs.Streams.{is_free, is_ordered, Table, stream_at, is_own, first_from}

-- ---- what is sent

-- an OPEN, ordered and reliable (RFC 8832, 6)
abbrev pub open_call : (stream : ℕ) → Parameters → Call
open_call s p = record { lane = lane_for s true; payload = DCEP; bytes = opening p; until = None; limit = None }

-- an ACK, too
abbrev pub ack_call : (stream : ℕ) → Call
ack_call s = record { lane = lane_for s true; payload = DCEP; bytes = acknowledgement; until = None; limit = None }

-- when the lifetime of a message sent at this time is over: LAST_MOMENT at the latest
abbrev pub until_by : ChannelType → (parameter now : ℕ) → Option ℕ
until_by channel.Reliable n now = None
until_by channel.ReliableUnordered n now = None
until_by channel.Rexmit n now = None
until_by channel.RexmitUnordered n now = None
until_by channel.Timed n now = Some (min (now + n) LAST_MOMENT)
until_by channel.TimedUnordered n now = Some (min (now + n) LAST_MOMENT)

-- how often it may be retransmitted: 65,535 times at most, if that is limited
abbrev pub limit_by : ChannelType → (parameter : ℕ) → Option ℕ
limit_by channel.Reliable n = None
limit_by channel.ReliableUnordered n = None
limit_by channel.Rexmit n = Some (min n 65_535)
limit_by channel.RexmitUnordered n = Some (min n 65_535)
limit_by channel.Timed n = None
limit_by channel.TimedUnordered n = None

-- messages are sent in order on an ordered channel, and before anything was received on it (RFC 8832, 6)
abbrev pub goes_ordered : State → ChannelType → Bool
goes_ordered Unused kind = is_ordered kind
goes_ordered Connecting kind = true
goes_ordered Unanswered kind = is_ordered kind
goes_ordered Open kind = is_ordered kind
goes_ordered Closing kind = is_ordered kind
goes_ordered Refused kind = is_ordered kind
goes_ordered Silent kind = is_ordered kind

-- a content, sent at this time on the channel of a stream
abbrev pub content_call : (stream : ℕ) → Stream → (now : ℕ) → Content → Call
content_call s x now c = record {
  lane = lane_for s (goes_ordered x.state x.kind);
  payload = id_of c.text c.bytes;
  bytes = carried c.bytes;
  until = until_by x.kind x.parameter now;
  limit = limit_by x.kind x.parameter;
}

-- ---- which stream a channel is opened on

-- So many streams, from 0 on, go out.
abbrev pub outgoing : EndView → Table → ℕ
outgoing v x = min v.terms.outbound (length x.streams)

-- and so many go both ways: the peer may send on them, too
abbrev pub both_ways : EndView → Table → ℕ
both_ways v x = min v.receiver.streams (outgoing v x)

-- the OPEN of these parameters is longer than a message: its fields take 12 bytes (RFC 8832, 5.1)
abbrev pub is_too_long : Parameters → Bool
is_too_long p = nat_lt LONGEST_MESSAGE (12 + (length p.label + length p.protocol))

-- a number that some peers, which keep 16 bits, would not keep
abbrev pub is_out_of_range : Reliability → Bool
is_out_of_range r = nat_lt 65_535 (value_of r)

-- a channel may be opened on the stream without DCEP: the first reason why not
abbrev pub free_stream : EndView → Table → (stream : ℕ) → Result ℕ OpenFault
free_stream v x s = if nat_le (both_ways v x) s then Err NoStream else if is_free (stream_at x s) then Ok s else Err Used

-- by an OPEN, on one of this side's
abbrev pub own_stream : EndView → Table → (stream : ℕ) → Result ℕ OpenFault
own_stream v x s =
    if nat_le (both_ways v x) s then Err NoStream
    else if not (is_own x.role s) then Err WrongHalf
    else if is_free (stream_at x s) then Ok s
    else Err Used

-- this, if there is one
abbrev pub found_stream : Option ℕ → Result ℕ OpenFault
found_stream (Some s) = Ok s
found_stream None = Err NoStream

-- the given stream, or the lowest that is free of this side's
abbrev pub stream_for : EndView → Table → Option ℕ → Result ℕ OpenFault
stream_for v x (Some s) = own_stream v x s
stream_for v x None = found_stream (first_from (λ s. is_own x.role s && is_free (stream_at x s)) 0 (both_ways v x))

-- The stream for an OPEN, or the first reason why there is none.
abbrev pub open_choice : EndView → Table → Parameters → Option ℕ → Result ℕ OpenFault
open_choice v x p o =
    if is_too_long p then Err TooLong else if is_out_of_range p.reliability then Err OutOfRange else stream_for v x o

-- that for a channel that both applications agreed on (RFC 8831, 6.4)
abbrev pub negotiated_choice : EndView → Table → Reliability → (stream : ℕ) → Result ℕ OpenFault
negotiated_choice v x r s = if is_out_of_range r then Err OutOfRange else free_stream v x s
