-- The next event, if it is a message for which a buffer has space (RFC 8831, 6.6).
use Rattle.std.specs.Prelude.{◌≡◌, ℕ, ◌≤◌, ◌<◌, List, ◌++◌, length, drop, Option, None, Some}
use Rattle.sctp_model.specs.end.EndView.{EndView}
use Rattle.sctp_recv.specs.declared.message.Message.{Message}
use Rattle.sctp_dcep.specs.Content.{Content}
use Rattle.sctp_channels.specs.declared.channels.Channels.{Channels}
use Rattle.sctp_channels.specs.declared.event.Event.TheVariants as event
use Rattle.sctp_channels.specs.declared.reading.Written.{Written}
use Rattle.sctp_channels.specs.declared.reading.Written.TheVariants.{Nothing, Message as Copied, Other}
use Rattle.sctp_channels.specs.Streams.{Table}
use Rattle.sctp_channels.specs.Told.{Message as Shows}
use Rattle.sctp_channels.specs.Events.{Reported}
use Rattle.sctp_channels.specs.Meanings.{content_bytes}
use Rattle.sctp_channels.specs.ChannelsStand.{ChannelsStand}
use Rattle.sctp_channels.specs.Telling.{Tells}

-- these bytes, this many, are at the beginning of the buffer, and after them it is as it was
pub record Copies (bytes : List ℕ) (count : ℕ) (old new : List ℕ) : Type 0 where
  pub counted : count ≡ length bytes
  pub fits : length bytes ≤ length old
  pub put : new ≡ bytes ++ drop (length bytes) old

-- If this is a message, the buffer has no space for it.
abbrev pub FitsNot : Reported → (room : ℕ) → Type 0
FitsNot r room = (s : ℕ) (c : Content) → r.report ≡ Some (record { stream = s; told = Shows c }) → room < length c.bytes

-- the buffer is as it was, unless a message was written
abbrev pub Keeps : Written → (old new : List ℕ) → Type 0
Keeps Nothing old new = new ≡ old
Keeps (Copied s text n) old new = Unit {0}
Keeps Other old new = new ≡ old

-- Nothing is told; or this message, by its bytes; or it is told by another call, since it isn't a message for which the buffer has space, and all is as it was.
abbrev pub Writes : Reported → EndView → Table → Written → Channels → (old new : List ℕ) → Type 0
Writes r v x Nothing c old new = Tells r None c × (new ≡ old)
Writes r v x (Copied s text n) c old new =
    (m : Option Message) × Tells r (Some (event.Message s text m)) c × Copies (content_bytes m) n old new
Writes r v x Other c old new = FitsNot r (length old) × ChannelsStand c v x × (new ≡ old)
