-- What is kept of each stream, and of all of them (RFC 8831, 6.4 to 6.7; RFC 8832, 5.1 and 6).
use Rattle.std.specs.Prelude.{ℕ, zero, suc, ◌%◌, ◌==◌, Bool, true, false, not, ◌&&◌, if◌then◌else◌, List, [], replicate, slice_index_or, slice_set, Option, None, Some}
use Rattle.sctp_dcep.specs.Dcep.{Reliability, Reliable, MaxRetransmits, MaxPacketLifetime, value_of}
use Rattle.sctp_channels.specs.declared.stream.ChannelType.{ChannelType}
use Rattle.sctp_channels.specs.declared.stream.ChannelType.TheVariants as channel
use Rattle.sctp_channels.specs.declared.stream.Due.TheVariants.{Nothing}
use Rattle.sctp_channels.specs.declared.stream.Resets.{Resets}
use Rattle.sctp_channels.specs.declared.stream.Resets.TheVariants.{Zero, One, Two}
use Rattle.sctp_channels.specs.declared.stream.State.{State}
use Rattle.sctp_channels.specs.declared.stream.State.TheVariants.{Unused, Connecting, Unanswered, Open, Closing, Refused, Silent}
use Rattle.sctp_channels.specs.declared.stream.Stream.{Stream}
use Rattle.sctp_channels.specs.declared.table.DtlsRole.{DtlsRole}
use Rattle.sctp_channels.specs.declared.table.DtlsRole.TheVariants.{Client, Server}
use Rattle.sctp_channels.specs.declared.threshold.Threshold.{Threshold}

-- ---- one stream

-- there is no channel on it, and nothing of one is left
abbrev pub unused : Stream
unused = record { left = 0; again = 0; parameter = 0; kind = channel.Reliable; state = Unused; due = Nothing; resets = Zero }

-- there is no channel on it
abbrev pub is_unused : State → Bool
is_unused Unused = true
is_unused Connecting = false
is_unused Unanswered = false
is_unused Open = false
is_unused Closing = false
is_unused Refused = false
is_unused Silent = false

-- there is a channel on it that was opened here or reported
abbrev pub has_channel : State → Bool
has_channel Unused = false
has_channel Connecting = true
has_channel Unanswered = true
has_channel Open = true
has_channel Closing = true
has_channel Refused = false
has_channel Silent = false

-- it is being closed, with such a channel or without one
abbrev pub is_ending : State → Bool
is_ending Unused = false
is_ending Connecting = false
is_ending Unanswered = false
is_ending Open = false
is_ending Closing = true
is_ending Refused = false
is_ending Silent = true

-- it is being closed without a channel that was reported
abbrev pub is_silent : State → Bool
is_silent Unused = false
is_silent Connecting = false
is_silent Unanswered = false
is_silent Open = false
is_silent Closing = false
is_silent Refused = false
is_silent Silent = true

-- a channel on it may be sent on: it was opened, and isn't being closed
abbrev pub may_send : State → Bool
may_send Unused = false
may_send Connecting = true
may_send Unanswered = true
may_send Open = true
may_send Closing = false
may_send Refused = false
may_send Silent = false

-- the peer has reset it, since its last channel was closed
abbrev pub is_reset : Resets → Bool
is_reset Zero = false
is_reset One = true
is_reset Two = true

-- it did so twice
abbrev pub is_reset_again : Resets → Bool
is_reset_again Zero = false
is_reset_again One = false
is_reset_again Two = true

-- a channel may be opened on it: there is none, and no message of an earlier one is left
abbrev pub is_free : Stream → Bool
is_free x = is_unused x.state && not (is_reset x.resets)

-- All messages of the channel that the peer has reset were taken: those that wait behind them are of the stream's next channel.
abbrev pub is_drained : Stream → Bool
is_drained x = is_reset x.resets && (x.left == 0)

-- ---- channel types (RFC 8832, 5.1)

-- the type with this reliability
abbrev pub type_for : (ordered : Bool) → Reliability → ChannelType
type_for true Reliable = channel.Reliable
type_for false Reliable = channel.ReliableUnordered
type_for true (MaxRetransmits n) = channel.Rexmit
type_for false (MaxRetransmits n) = channel.RexmitUnordered
type_for true (MaxPacketLifetime n) = channel.Timed
type_for false (MaxPacketLifetime n) = channel.TimedUnordered

-- its messages are delivered in order
abbrev pub is_ordered : ChannelType → Bool
is_ordered channel.Reliable = true
is_ordered channel.ReliableUnordered = false
is_ordered channel.Rexmit = true
is_ordered channel.RexmitUnordered = false
is_ordered channel.Timed = true
is_ordered channel.TimedUnordered = false

-- a stream in this state, for a channel with this reliability
abbrev pub with_channel : State → (ordered : Bool) → Reliability → Stream → Stream
with_channel state ordered r x = record x { state = state; kind = type_for ordered r; parameter = value_of r }

-- ---- all streams

-- no low threshold of the buffered amount was set
abbrev pub no_threshold : Threshold
no_threshold = record { bytes = 0; is_set = false; is_above = false }

-- This side's role in the DTLS handshake; the stream from which the next message is looked for; each stream; the low threshold of each, none before the first is set.
pub record Table : Type 0 where
  pub role : DtlsRole
  pub next : ℕ
  pub streams : List Stream
  pub thresholds : List Threshold

-- no channel is there yet
abbrev pub fresh_table : DtlsRole → (streams : ℕ) → Table
fresh_table role n = record { role = role; next = 0; streams = replicate n unused; thresholds = [] }

-- the stream of this number
abbrev pub stream_at : Table → ℕ → Stream
stream_at x s = slice_index_or x.streams s unused

-- it is this one now
abbrev pub with_stream : Table → ℕ → Stream → Table
with_stream x s y = record x { streams = slice_set x.streams s y }

-- the threshold of the stream of this number
abbrev pub threshold_at : Table → ℕ → Threshold
threshold_at x s = slice_index_or x.thresholds s no_threshold

-- it is this one now
abbrev pub with_threshold : Table → ℕ → Threshold → Table
with_threshold x s t = record x { thresholds = slice_set x.thresholds s t }

-- This side opens channels on it: the DTLS client on streams of even, the server on streams of odd number (RFC 8832, 6).
abbrev pub is_own : DtlsRole → (stream : ℕ) → Bool
is_own Client s = s % 2 == 0
is_own Server s = s % 2 == 1

-- ---- the first that passes

-- of so many numbers from one on, the first that passes a test
abbrev pub first_from : (ℕ → Bool) → (from many : ℕ) → Option ℕ
first_from test i zero = None
first_from test i (suc n) = if test i then Some i else first_from test (suc i) n
