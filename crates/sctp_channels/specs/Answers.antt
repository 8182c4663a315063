-- What the user's calls return, and what they leave (RFC 8831, 6.4 to 6.7; RFC 8832, 6).
use Rattle.std.specs.Prelude.{◌≡◌, ℕ, ◌⊎◌, Bool, true, false, if◌then◌else◌, Option, Result, Ok, Err}
use Rattle.sctp_model.specs.end.EndView.{EndView}
use Rattle.sctp_model.specs.end.UserCalls.{send_answer}
use Rattle.sctp_values.specs.declared.ticket.Ticket.{Ticket}
use Rattle.sctp_send.specs.declared.queueing.SendFault.TheVariants.{NoMemory}
use Rattle.sctp_association.specs.CallAnswers.{SendAnswers, sent_view}
use Rattle.sctp_association.specs.ResetAnswers.{ResetAnswers, reset_view}
use Rattle.sctp_association.specs.declared.user.calls.Refused.{Refused}
use Rattle.sctp_association.specs.declared.user.calls.Refused.TheVariants.{Fault}
use Rattle.sctp_dcep.specs.Content.{Content}
use Rattle.sctp_dcep.specs.Dcep.{Reliability, Parameters}
use Rattle.sctp_channels.specs.declared.channels.Channels.{Channels}
use Rattle.sctp_channels.specs.declared.fault.CloseFault.{CloseFault}
use Rattle.sctp_channels.specs.declared.fault.CloseFault.TheVariants as close
use Rattle.sctp_channels.specs.declared.fault.OpenFault.{OpenFault}
use Rattle.sctp_channels.specs.declared.fault.OpenFault.TheVariants as opening
use Rattle.sctp_channels.specs.declared.fault.SendFault.{SendFault}
use Rattle.sctp_channels.specs.declared.fault.SendFault.TheVariants as send
use Rattle.sctp_channels.specs.declared.fault.ThresholdFault.{ThresholdFault}
use Rattle.sctp_channels.specs.declared.fault.ThresholdFault.TheVariants as threshold
use Rattle.sctp_channels.specs.declared.stream.Due.{Due}
use Rattle.sctp_channels.specs.declared.stream.Due.TheVariants.{Nothing, Acknowledgement, Reset}
use Rattle.sctp_channels.specs.declared.stream.State.TheVariants.{Connecting, Open, Closing}
use Rattle.sctp_channels.specs.declared.stream.Stream.{Stream}
use Rattle.sctp_channels.specs.Streams.{may_send, with_channel, Table, stream_at, with_stream}
use Rattle.sctp_channels.specs.Buffered.{with_look, threshold_set}
use Rattle.sctp_channels.specs.Calling.{open_call, ack_call, content_call, open_choice, negotiated_choice}
use Rattle.sctp_channels.specs.Settling.{Settled, acknowledged}
use Rattle.sctp_channels.specs.ChannelsStand.{ChannelsStand}

-- the endpoint refuses a message for this reason, or an allocation failed
abbrev pub Refuses : EndView → (ticket : Result Ticket Refused → Type 0) → Refused → Type 0
Refuses v answers why = answers (Err why) ⊎ (why ≡ Fault NoMemory)

-- ---- open

-- The choice is this stream, the OPEN was queued there, and the channel waits for its ACK; or this is the first reason against it, and nothing changed.
abbrev pub Opens : EndView → Table → Parameters → Option ℕ → Result ℕ OpenFault → Channels → Type 0
Opens v x p o (Ok s) c =
    (ticket : Ticket) × (open_choice v x p o ≡ Ok s) × SendAnswers v (open_call s p) (Ok ticket)
    × ChannelsStand c (sent_view v (open_call s p) (Ok ticket)) (with_stream x s (with_channel Connecting p.ordered p.reliability (stream_at x s)))
Opens v x p o (Err (opening.Refused why)) c =
    (s : ℕ) × (open_choice v x p o ≡ Ok s) × Refuses v (SendAnswers v (open_call s p)) why × ChannelsStand c v x
Opens v x p o (Err fault) c = (open_choice v x p o ≡ Err fault) × ChannelsStand c v x

-- A channel that both applications agreed on is open at once, without a message.
abbrev pub OpensNegotiated : EndView → Table → (ordered : Bool) → Reliability → (stream : ℕ) → Result (Unit {0}) OpenFault → Channels → Type 0
OpensNegotiated v x ordered r s (Ok _) c =
    (negotiated_choice v x r s ≡ Ok s) × ChannelsStand c v (with_stream x s (with_channel Open ordered r (stream_at x s)))
OpensNegotiated v x ordered r s (Err fault) c = (negotiated_choice v x r s ≡ Err fault) × ChannelsStand c v x

-- ---- send

-- the ACK is due
abbrev pub is_ack_due : Due → Bool
is_ack_due Nothing = false
is_ack_due Acknowledgement = true
is_ack_due Reset = false

-- the endpoint and the stream once an ACK that was due was queued
abbrev pub with_ack_sent : EndView → (stream : ℕ) → Stream → Settled
with_ack_sent v s x = if is_ack_due x.due then acknowledged (send_answer v (ack_call s)) v s x else record { view = v; stream = x }

-- the ACK is due, and the endpoint refuses it
abbrev pub AckRefused : EndView → (stream : ℕ) → Stream → Refused → Type 0
AckRefused v s x why = (is_ack_due x.due ≡ true) × Refuses v (SendAnswers v (ack_call s)) why

-- the channels, once the buffered amount of this stream was looked at
abbrev pub StandLooked : EndView → (stream : ℕ) → Table → Channels → Type 0
StandLooked v s x c = ChannelsStand c v (with_look v s x)

-- A message was queued, behind the ACK if that was due; or it wasn't for this reason, and at most the ACK was.
abbrev pub Sends : EndView → Table → (now stream : ℕ) → Content → Result Ticket SendFault → Channels → Type 0
Sends v x now s k (Ok ticket) c =
    let t = with_ack_sent v s (stream_at x s) in
    (may_send (stream_at x s).state ≡ true) × (is_ack_due t.stream.due ≡ false) × SendAnswers t.view (content_call s t.stream now k) (Ok ticket)
    × StandLooked (sent_view t.view (content_call s t.stream now k) (Ok ticket)) s (with_stream x s t.stream) c
Sends v x now s k (Err send.NoChannel) c = (may_send (stream_at x s).state ≡ false) × ChannelsStand c v x
Sends v x now s k (Err (send.Refused why)) c =
    let t = with_ack_sent v s (stream_at x s) in
    (may_send (stream_at x s).state ≡ true)
    × ((AckRefused v s (stream_at x s) why × ChannelsStand c v x)
    ⊎ ((is_ack_due t.stream.due ≡ false) × Refuses t.view (SendAnswers t.view (content_call s t.stream now k)) why × ChannelsStand c t.view (with_stream x s t.stream)))

-- ---- close

-- this side's half of the channel is being closed
abbrev pub closing : Stream → Stream
closing x = record x { state = Closing; due = Nothing }

-- The reset of this side's half was asked for; or it wasn't for this reason, and nothing changed.
abbrev pub Closes : EndView → Table → (stream : ℕ) → Result (Unit {0}) CloseFault → Channels → Type 0
Closes v x s (Ok y) c =
    (may_send (stream_at x s).state ≡ true) × ResetAnswers v s (Ok y) × ChannelsStand c (reset_view v s (Ok y)) (with_stream x s (closing (stream_at x s)))
Closes v x s (Err close.NoChannel) c = (may_send (stream_at x s).state ≡ false) × ChannelsStand c v x
Closes v x s (Err (close.Refused why)) c = (may_send (stream_at x s).state ≡ true) × ResetAnswers v s (Err why) × ChannelsStand c v x

-- ---- the low threshold of the buffered amount

-- It is set; or there is no channel on the stream, or an allocation failed, and nothing changed.
abbrev pub SetsThreshold : EndView → Table → (stream bytes : ℕ) → Result (Unit {0}) ThresholdFault → Channels → Type 0
SetsThreshold v x s n (Ok y) c = (may_send (stream_at x s).state ≡ true) × ChannelsStand c v (threshold_set v s n x)
SetsThreshold v x s n (Err threshold.NoChannel) c = (may_send (stream_at x s).state ≡ false) × ChannelsStand c v x
SetsThreshold v x s n (Err threshold.NoMemory) c = (may_send (stream_at x s).state ≡ true) × ChannelsStand c v x
