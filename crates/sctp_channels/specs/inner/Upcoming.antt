-- What is told next, as far as that is known before it is.
use Rattle.std.specs.Prelude.{◌≡◌, ℕ, ◌≤◌, ◌<◌, Bool, true, false, List, ◌++◌, length, drop, Option, None, Some}
use Rattle.sctp_model.specs.end.EndView.{EndView}
use Rattle.sctp_dcep.specs.Content.{Content}
use Rattle.sctp_channels.specs.declared.reading.Upcoming.{Upcoming}
use Rattle.sctp_channels.specs.declared.reading.Upcoming.TheVariants as upcoming
use Rattle.sctp_channels.specs.declared.stream.State.{State}
use Rattle.sctp_channels.specs.Streams.{is_reset, Table, stream_at}
use Rattle.sctp_channels.specs.Told.{Message}
use Rattle.sctp_channels.specs.Events.{Reported, quiet, reports_message}

-- no message is told
abbrev pub TellsNoMessage : Reported → Type 0
TellsNoMessage r = (s : ℕ) (c : Content) → r.report ≡ Some (record { stream = s; told = Message c }) → ⊥

-- what the first message that waits on a stream says; it is kept in this state, and the peer has reset it or not
abbrev pub ComesOn : Reported → EndView → Table → (stream : ℕ) → State → (reset : Bool) → Type 0
ComesOn r v x s t b = (r ≡ reports_message s (v.receiver.waiting s) v x) × (t ≡ (stream_at x s).state) × (b ≡ is_reset (stream_at x s).resets)

-- Nothing; what the first message that waits on a stream says; or no message.
abbrev pub Comes : Reported → EndView → Table → Upcoming → Type 0
Comes r v x upcoming.Nothing = r ≡ quiet v x
Comes r v x (upcoming.First s t) = ComesOn r v x s t false
Comes r v x (upcoming.Left s t) = ComesOn r v x s t true
Comes r v x upcoming.Other = TellsNoMessage r

-- These bytes are at the beginning of the buffer, and after them it is as it was; or it has no space for them, and is as it was.
abbrev pub PutsAll : (bytes : List ℕ) → Option ℕ → (old new : List ℕ) → Type 0
PutsAll bytes (Some n) old new = (n ≡ length bytes) × (length bytes ≤ length old) × (new ≡ bytes ++ drop (length bytes) old)
PutsAll bytes None old new = (length old < length bytes) × (new ≡ old)
