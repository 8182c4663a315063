-- Ranges of streams outside of which there is nothing to be done.
use Rattle.std.specs.Prelude.{◌≡◌, ℕ, ◌≤◌, ◌<◌, Bool, true, false, ◌||◌, List, slice_index_or}
use Rattle.sctp_channels.specs.declared.span.Span.{Span}
use Rattle.sctp_channels.specs.declared.stream.Stream.{Stream}
use Rattle.sctp_channels.specs.declared.threshold.Threshold.{Threshold}
use Rattle.sctp_channels.specs.declared.stream.Due.{Due}
use Rattle.sctp_channels.specs.declared.stream.Due.TheVariants.{Nothing, Acknowledgement, Reset}
use Rattle.sctp_channels.specs.Streams.{unused, has_channel, is_ending, no_threshold}

-- the stream is one of the range
abbrev pub IsWithin : Span → (stream : ℕ) → Type 0
IsWithin r s = (r.low ≤ s) × (s < r.high)

-- the range is one of so many streams
abbrev pub Fits : Span → (many : ℕ) → Type 0
Fits r n = (r.low ≤ r.high) × (r.high ≤ n)

-- something is due
abbrev pub is_due : Due → Bool
is_due Nothing = false
is_due Acknowledgement = true
is_due Reset = true

-- the stream is being closed, or something of it is due
abbrev pub is_restless : Stream → Bool
is_restless x = is_ending x.state || is_due x.due

-- or the buffered amount was above the threshold
abbrev pub is_busy : Stream → Threshold → Bool
is_busy x t = is_restless x || t.is_above

-- each stream of which one is so is one of the range
abbrev pub AreBusyWithin : Span → List Stream → List Threshold → Type 0
AreBusyWithin r xs ts = (s : ℕ) → is_busy (slice_index_or xs s unused) (slice_index_or ts s no_threshold) ≡ true → IsWithin r s

-- each stream with a channel is one of the range
abbrev pub AreUsedWithin : Span → List Stream → Type 0
AreUsedWithin r xs = (s : ℕ) → has_channel (slice_index_or xs s unused).state ≡ true → IsWithin r s
