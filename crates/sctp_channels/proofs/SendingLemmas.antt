-- A message is sent, behind the ACK of its channel.
use Rattle.std.proofs.Common.{◌≡◌, ℕ, Bool, false, Result, Ok, Err, inr, refl, sym, ap, ◌∙◌, subst}
use Rattle.std.specs.Prelude.{if◌then◌else◌}
use Rattle.sctp_model.specs.end.EndView.{EndView}
use Rattle.sctp_model.specs.end.UserCalls.{SendAnswer, send_answer}
use Rattle.sctp_values.specs.declared.ticket.Ticket.{Ticket}
use Rattle.sctp_association.specs.CallAnswers.{SendAnswers, sent_view}
use Rattle.sctp_association.specs.declared.user.calls.Refused.{Refused}
use Rattle.sctp_dcep.specs.Content.{Content}
use Rattle.sctp_channels.specs.declared.channels.Channels.{Channels}
use Rattle.sctp_channels.specs.declared.stream.Due.{Due}
use Rattle.sctp_channels.specs.declared.stream.Due.TheVariants.{Acknowledgement}
use Rattle.sctp_channels.specs.declared.stream.Stream.{Stream}
use Rattle.sctp_channels.specs.Streams.{Table, stream_at, with_stream}
use Rattle.sctp_channels.specs.Calling.{ack_call, content_call}
use Rattle.sctp_channels.specs.Settling.{Settled, without_due, acknowledged}
use Rattle.sctp_channels.specs.Answers.{Refuses, is_ack_due, with_ack_sent}
use Rattle.sctp_channels.specs.inner.Sent.{SendsOn, SendsBehind}
use Rattle.sctp_channels.proofs.SettlingLemmas.{settled_none}

-- behind what was sent
behind : (v : EndView) (x : Table) (now s : ℕ) (y : Stream) (k : Content) (t : Settled) (r : Result Ticket Refused) (c : Channels)
    → with_ack_sent v s y ≡ t → is_ack_due t.stream.due ≡ false → SendsOn t.view (with_stream x s t.stream) (content_call s t.stream now k) r c → SendsBehind v x now s y k r c
behind v x now s y k t (Ok ticket) c is free told =
    subst (λ (u : Settled). (is_ack_due u.stream.due ≡ false) × SendAnswers u.view (content_call s u.stream now k) (Ok ticket)
    × Rattle.sctp_channels.specs.ChannelsStand.ChannelsStand c (sent_view u.view (content_call s u.stream now k) (Ok ticket)) (with_stream x s u.stream)) (sym is) (free, told.0, told.1)
behind v x now s y k t (Err why) c is free told =
    inr (subst (λ (u : Settled). (is_ack_due u.stream.due ≡ false) × Refuses u.view (SendAnswers u.view (content_call s u.stream now k)) why
    × Rattle.sctp_channels.specs.ChannelsStand.ChannelsStand c u.view (with_stream x s u.stream)) (sym is) (free, told.0, told.1))

-- behind the ACK
pub behind_acked : (v : EndView) (x : Table) (now s : ℕ) (y z : Stream) (k : Content) (ticket : Ticket) (r : Result Ticket Refused) (c : Channels)
    → y.due ≡ Acknowledgement → SendAnswers v (ack_call s) (Ok ticket) → z ≡ without_due y
    → SendsOn (sent_view v (ack_call s) (Ok ticket)) (with_stream x s (without_due y)) (content_call s z now k) r c → SendsBehind v x now s y k r c
behind_acked v x now s y z k ticket r c due queued same told =
    let is : with_ack_sent v s y ≡ record { view = sent_view v (ack_call s) (Ok ticket); stream = without_due y } =
    ap (λ (d : Due). if is_ack_due d then acknowledged (send_answer v (ack_call s)) v s y else record { view = v; stream = y }) due
    ∙ ap (λ (a : SendAnswer). acknowledged a v s y) queued in
    behind v x now s y k _ r c is refl (subst (λ (w : Stream). SendsOn (sent_view v (ack_call s) (Ok ticket)) (with_stream x s (without_due y)) (content_call s w now k) r c) same told)

-- where no ACK is due
pub behind_none : (v : EndView) (x : Table) (now s : ℕ) (y : Stream) (k : Content) (r : Result Ticket Refused) (c : Channels)
    → is_ack_due y.due ≡ false → y ≡ stream_at x s → SendsOn v x (content_call s y now k) r c → SendsBehind v x now s y k r c
behind_none v x now s y k r c free there told =
    let is : with_ack_sent v s y ≡ record { view = v; stream = y } =
    ap (λ (b : Bool). if b then acknowledged (send_answer v (ack_call s)) v s y else record { view = v; stream = y }) free in
    let kept : with_stream x s y ≡ x = ap (λ (w : Stream). with_stream x s w) there ∙ settled_none x s in
    behind v x now s y k _ r c is free (subst (λ (t : Table). SendsOn v t (content_call s y now k) r c) (sym kept) told)
