-- How much of what the user sent on a channel is buffered, and when the user is told that it is little (as `bufferedAmount` of the WebRTC API).
use Rattle.std.specs.Prelude.{ℕ, nat_lt, nat_le, Bool, true, false, not, ◌&&◌, ◌||◌, List, [], ◌∷◌, length, replicate}
use Rattle.sctp_model.specs.end.EndView.{EndView}
use Rattle.sctp_send.specs.Waiting.{queued_bytes_on}
use Rattle.sctp_dcep.specs.Content.{STRING, BINARY}
use Rattle.sctp_channels.specs.declared.threshold.Threshold.{Threshold}
use Rattle.sctp_channels.specs.Streams.{no_threshold, Table, threshold_at, with_threshold}

-- The payload protocol identifiers of what counts: user data (RFC 8831, 8). Messages of DCEP don't, nor the zero by which an empty content is sent.
abbrev pub user_data : List ℕ
user_data = STRING ∷ BINARY ∷ []

-- THE BUFFERED AMOUNT of a stream: the bytes of its queued messages of user data. No fragment of them has a TSN yet.
abbrev pub buffered : EndView → (stream : ℕ) → ℕ
buffered v s = queued_bytes_on s user_data v.sender

-- ---- a low threshold

-- it is set at this amount
abbrev pub threshold_of : (bytes amount : ℕ) → Threshold
threshold_of n amount = record { bytes = n; is_set = true; is_above = nat_lt n amount }

-- an amount above it would be noted
abbrev pub is_waiting : Threshold → Bool
is_waiting t = t.is_set && not t.is_above

-- The amount is this: if it is above the threshold, that is noted.
abbrev pub looked : (amount : ℕ) → Threshold → Threshold
looked amount t = record t { is_above = t.is_above || (t.is_set && nat_lt t.bytes amount) }

-- this was told
abbrev pub told_low : Threshold → Threshold
told_low t = record t { is_above = false }

-- ---- those of all streams

-- so many, if there are none yet
abbrev pub made : (streams : ℕ) → List Threshold → List Threshold
made n [] = replicate n no_threshold
made n (t ∷ ts) = t ∷ ts

-- a threshold for each stream
abbrev pub with_thresholds : Table → Table
with_thresholds x = record x { thresholds = made (length x.streams) x.thresholds }

-- the threshold of a stream is set
abbrev pub threshold_set : EndView → (stream bytes : ℕ) → Table → Table
threshold_set v s n x = with_threshold (with_thresholds x) s (threshold_of n (buffered v s))

-- a message was accepted on the stream: its amount is looked at
abbrev pub with_look : EndView → (stream : ℕ) → Table → Table
with_look v s x = with_threshold x s (looked (buffered v s) (threshold_at x s))

-- THE AMOUNT IS LOW: it was above the threshold since that was set, or since this was told, and isn't any more.
abbrev pub is_low : EndView → Table → (stream : ℕ) → Bool
is_low v x s = (threshold_at x s).is_above && nat_le (buffered v s) (threshold_at x s).bytes

-- this is told
abbrev pub with_low_told : (stream : ℕ) → Table → Table
with_low_told s x = with_threshold x s (told_low (threshold_at x s))
