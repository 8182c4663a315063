-- How an event is told.
use Rattle.std.specs.Prelude.{◌≡◌, ℕ, Option}
use Rattle.sctp_recv.specs.declared.message.Message.{Message}
use Rattle.sctp_channels.specs.declared.coming.Told.{Told}
use Rattle.sctp_channels.specs.declared.event.Event.{Event}
use Rattle.sctp_channels.specs.declared.said.ContentKind.{ContentKind}
use Rattle.sctp_channels.specs.Meanings.{content_bytes, event_meaning}
use Rattle.sctp_channels.specs.Told.{Message as Shows}
use Rattle.sctp_channels.specs.inner.SaidMeans.{kind_meaning, told_meaning}

-- the event tells this of the message
abbrev pub IsEventOf : (stream : ℕ) → Told → Option Message → Event → Type 0
IsEventOf s t m e = event_meaning e ≡ record { stream = s; told = told_meaning (content_bytes m) t }

-- the event tells of a content of this kind
abbrev pub IsContentOf : (stream : ℕ) → ContentKind → Option Message → Event → Type 0
IsContentOf s k m e = event_meaning e ≡ record { stream = s; told = Shows (kind_meaning (content_bytes m) k) }
