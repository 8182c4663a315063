-- What is due is passed on, or an allocation failed.
use Rattle.std.specs.Prelude.{◌≡◌, ℕ, ◌<◌, Bool, true, false, length, Result, Ok, Err}
use Rattle.sctp_model.specs.end.EndView.{EndView}
use Rattle.sctp_values.specs.declared.no_memory.NoMemory as values
use Rattle.sctp_send.specs.declared.queueing.SendFault.TheVariants.{NoSuchStream, Resetting, Empty, TooLong, QueueFull, Spent, NoMemory}
use Rattle.sctp_association.specs.declared.user.calls.Refused.{Refused}
use Rattle.sctp_association.specs.declared.user.calls.Refused.TheVariants.{NotOpen, Fault}
use Rattle.sctp_channels.specs.declared.channels.Channels.{Channels}
use Rattle.sctp_channels.specs.declared.stream.Stream.{Stream}
use Rattle.sctp_channels.specs.Streams.{Table, stream_at, with_stream}
use Rattle.sctp_channels.specs.Settling.{Settled, settled, settled_below, settled_all}
use Rattle.sctp_channels.specs.ChannelsStand.{ChannelsStand}

-- an allocation failed
abbrev pub wants_memory : Refused → Bool
wants_memory NotOpen = false
wants_memory (Fault NoSuchStream) = false
wants_memory (Fault Resetting) = false
wants_memory (Fault Empty) = false
wants_memory (Fault TooLong) = false
wants_memory (Fault QueueFull) = false
wants_memory (Fault Spent) = false
wants_memory (Fault NoMemory) = true

-- what is due on one stream; or nothing changed
abbrev pub SettlesOne : EndView → Table → (stream : ℕ) → Result (Unit {0}) values.NoMemory → Channels → Type 0
SettlesOne v x s (Ok _) c = ChannelsStand c (settled v s (stream_at x s)).view (with_stream x s (settled v s (stream_at x s)).stream)
SettlesOne v x s (Err why) c = ChannelsStand c v x

-- the stream is that after this, and so is the endpoint; or nothing changed
abbrev pub SettlesAs : Settled → EndView → Table → Result Stream values.NoMemory → Channels → Type 0
SettlesAs t v x (Ok y) c = (y ≡ t.stream) × ChannelsStand c t.view x
SettlesAs t v x (Err why) c = ChannelsStand c v x

-- what is due on all; or on those below some stream
abbrev pub SettlesAll : EndView → Table → Result (Unit {0}) values.NoMemory → Channels → Type 0
SettlesAll v x (Ok _) c = ChannelsStand c (settled_all v x).view (settled_all v x).table
SettlesAll v x (Err why) c = (n : ℕ) × (n < length x.streams) × ChannelsStand c (settled_below n v x).view (settled_below n v x).table
