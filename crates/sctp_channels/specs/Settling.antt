-- What is due is passed to the endpoint: ACKs, and resets of this side's half of a channel (RFC 8832, 6; RFC 8831, 6.7).
use Rattle.std.specs.Prelude.{ℕ, suc, Bool, true, false, not, ◌&&◌, nat_lt, List, [], ◌∷◌, ◌++◌, length, take, drop}
use Rattle.sctp_model.specs.sender.Outgoing.{is_resetting}
use Rattle.sctp_model.specs.end.EndView.{EndView}
use Rattle.sctp_model.specs.end.UserCalls.{SendAnswer, Ticket, Refused, NotOpen, send_answer, send_leaves, ResetCall, Begun, NotAgreed, NoStream, reset_call, reset_leaves}
use Rattle.sctp_channels.specs.declared.stream.Due.{Due}
use Rattle.sctp_channels.specs.declared.stream.Due.TheVariants.{Nothing, Acknowledgement, Reset}
use Rattle.sctp_channels.specs.declared.stream.State.{State}
use Rattle.sctp_channels.specs.declared.stream.State.TheVariants as state
use Rattle.sctp_channels.specs.declared.stream.Stream.{Stream}
use Rattle.sctp_channels.specs.Streams.{is_silent, is_drained, Table, stream_at}
use Rattle.sctp_channels.specs.Calling.{ack_call}

-- ---- one stream

-- an endpoint, and a stream
pub record Settled : Type 0 where
  pub view : EndView
  pub stream : Stream

-- nothing is due on it any more
abbrev pub without_due : Stream → Stream
without_due x = record x { due = Nothing }

-- The ACK was queued; or it was refused, as by a full queue, and is still due.
abbrev pub acknowledged : SendAnswer → EndView → (stream : ℕ) → Stream → Settled
acknowledged (Ticket t) v s x = record { view = send_leaves (Ticket t) v (ack_call s); stream = without_due x }
acknowledged (Refused why) v s x = record { view = v; stream = x }
acknowledged NotOpen v s x = record { view = v; stream = x }

-- The reset was asked for, or there is no such stream; or the association isn't established, and it is still due.
abbrev pub reset_asked : ResetCall → EndView → (stream : ℕ) → Stream → Settled
reset_asked Begun v s x = record { view = reset_leaves Begun v s; stream = without_due x }
reset_asked NoStream v s x = record { view = v; stream = without_due x }
reset_asked NotAgreed v s x = record { view = v; stream = x }

-- by what is due
abbrev pub settled_by : Due → EndView → (stream : ℕ) → Stream → Settled
settled_by Nothing v s x = record { view = v; stream = x }
settled_by Acknowledgement v s x = acknowledged (send_answer v (ack_call s)) v s x
settled_by Reset v s x = reset_asked (reset_call v s) v s x

-- What is due on a stream is passed on.
abbrev pub settled : EndView → (stream : ℕ) → Stream → Settled
settled v s x = settled_by x.due v s x

-- ---- all streams

-- an endpoint, and streams
pub record AllSettled : Type 0 where
  pub view : EndView
  pub streams : List Stream

-- one stream after the other, from this number on
abbrev pub all_settled : EndView → (stream : ℕ) → List Stream → AllSettled
all_settled v s [] = record { view = v; streams = [] }
all_settled v s (x ∷ xs) =
    let first = settled v s x in
    let more = all_settled first.view (suc s) xs in
    record { view = more.view; streams = first.stream ∷ more.streams }

-- an endpoint, and all its streams
pub record Standing : Type 0 where
  pub view : EndView
  pub table : Table

-- so many streams, from 0 on
abbrev pub settled_below : (many : ℕ) → EndView → Table → Standing
settled_below n v x =
    let t = all_settled v 0 (take n x.streams) in
    record { view = t.view; table = record x { streams = t.streams ++ drop n x.streams } }

-- all
abbrev pub settled_all : EndView → Table → Standing
settled_all v x = settled_below (length x.streams) v x

-- ---- closed

-- its state is that of a channel that is being closed
abbrev pub is_closing : State → Bool
is_closing state.Unused = false
is_closing state.Connecting = false
is_closing state.Unanswered = false
is_closing state.Open = false
is_closing state.Closing = true
is_closing state.Refused = false
is_closing state.Silent = false

-- its reset was asked for, as far as that was due
abbrev pub is_asked : Due → Bool
is_asked Nothing = true
is_asked Acknowledgement = true
is_asked Reset = false

-- the reset of an outgoing stream isn't done (RFC 6525, 5.1)
abbrev pub is_resetting_out : EndView → (stream : ℕ) → Bool
is_resetting_out v s = nat_lt s v.sender.streams && is_resetting (v.sender.resets.sending s)

-- THE CHANNEL IS CLOSED: the peer's half was reset and all that it sent before was taken; this side's half was reset, too (RFC 8831, 6.7).
abbrev pub is_closed : EndView → Table → (stream : ℕ) → Bool
is_closed v x s =
    let y = stream_at x s in
    is_closing y.state && (is_drained y && (is_asked y.due && not (is_resetting_out v s)))

-- THE STREAM IS CLOSED, by the same, without a channel that was reported.
abbrev pub is_gone : EndView → Table → (stream : ℕ) → Bool
is_gone v x s =
    let y = stream_at x s in
    is_silent y.state && (is_drained y && (is_asked y.due && not (is_resetting_out v s)))
