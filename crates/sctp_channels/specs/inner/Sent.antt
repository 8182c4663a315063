-- A message is queued, on a channel or for its opening.
use Rattle.std.specs.Prelude.{◌≡◌, ℕ, ◌⊎◌, false, Result, Ok, Err}
use Rattle.sctp_model.specs.world.Calls.{Call}
use Rattle.sctp_model.specs.end.EndView.{EndView}
use Rattle.sctp_values.specs.declared.ticket.Ticket.{Ticket}
use Rattle.sctp_association.specs.CallAnswers.{SendAnswers, sent_view}
use Rattle.sctp_association.specs.declared.user.calls.Refused.{Refused}
use Rattle.sctp_dcep.specs.Content.{Content}
use Rattle.sctp_channels.specs.declared.channels.Channels.{Channels}
use Rattle.sctp_channels.specs.declared.stream.Stream.{Stream}
use Rattle.sctp_channels.specs.Streams.{Table, with_stream}
use Rattle.sctp_channels.specs.Calling.{ack_call, content_call}
use Rattle.sctp_channels.specs.Settling.{without_due}
use Rattle.sctp_channels.specs.Answers.{Refuses, is_ack_due, with_ack_sent, AckRefused}
use Rattle.sctp_channels.specs.ChannelsStand.{ChannelsStand}

-- The ACK of a stream was queued, and isn't due any more; or it was refused, and nothing changed.
abbrev pub AcksOn : EndView → Table → (stream : ℕ) → Stream → Result Stream Refused → Channels → Type 0
AcksOn v x s y (Ok z) c =
    (ticket : Ticket) × SendAnswers v (ack_call s) (Ok ticket) × (z ≡ without_due y)
    × ChannelsStand c (sent_view v (ack_call s) (Ok ticket)) (with_stream x s (without_due y))
AcksOn v x s y (Err why) c = Refuses v (SendAnswers v (ack_call s)) why × ChannelsStand c v x

-- This call was made, and the streams stay; or it was refused, and nothing changed.
abbrev pub SendsOn : EndView → Table → Call → Result Ticket Refused → Channels → Type 0
SendsOn v x k (Ok ticket) c = SendAnswers v k (Ok ticket) × ChannelsStand c (sent_view v k (Ok ticket)) x
SendsOn v x k (Err why) c = Refuses v (SendAnswers v k) why × ChannelsStand c v x

-- The same behind the ACK of the stream, of which this is kept, if that is due.
abbrev pub SendsBehind : EndView → Table → (now stream : ℕ) → Stream → Content → Result Ticket Refused → Channels → Type 0
SendsBehind v x now s y k (Ok ticket) c =
    let t = with_ack_sent v s y in
    (is_ack_due t.stream.due ≡ false) × SendAnswers t.view (content_call s t.stream now k) (Ok ticket)
    × ChannelsStand c (sent_view t.view (content_call s t.stream now k) (Ok ticket)) (with_stream x s t.stream)
SendsBehind v x now s y k (Err why) c =
    let t = with_ack_sent v s y in
    (AckRefused v s y why × ChannelsStand c v x)
    ⊎ ((is_ack_due t.stream.due ≡ false) × Refuses t.view (SendAnswers t.view (content_call s t.stream now k)) why × ChannelsStand c t.view (with_stream x s t.stream))
