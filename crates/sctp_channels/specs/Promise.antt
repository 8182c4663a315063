-- What is promised of what a user is told, and how a reset of the peer's parts the channels of a stream (RFC 8831, 6.4 to 6.7).
use Rattle.std.specs.Prelude.{◌≡◌, ◌⊎◌, ℕ, ◌+◌, ◌<◌, ◌≤◌, true, false, List, ◌∷◌, length, Option, Some, None}
use Rattle.sctp_model.specs.numbers.Lists.{Has}
use Rattle.sctp_model.specs.receiver.ReceiverView.{Handed}
use Rattle.sctp_model.specs.receiver.ResetTaken.{old_waiting}
use Rattle.sctp_model.specs.world.Calls.{Call}
use Rattle.sctp_model.specs.end.Configured.{IsConfiguration}
use Rattle.sctp_model.specs.end.EndView.{EndView, ended_of}
use Rattle.sctp_model.specs.world.World.{Side, World, Setup, configuration_of, start}
use Rattle.sctp_model.specs.world.Events.{Event, Outcome}
use Rattle.sctp_model.specs.world.Steps.{PassesThrough, last_of}
use Rattle.sctp_model.specs.world.Aged.{Aged}
use Rattle.sctp_model.specs.world.Premises.{FreshAndUnforged}
use Rattle.sctp_outcomes.specs.Users.{Sent, sent, exchange, Match}
use Rattle.sctp_outcomes.specs.Parted.{IsTold, AreMatched, AreParted}
use Rattle.sctp_dcep.specs.Content.{Content, DCEP, id_of, carried, content_of}
use Rattle.sctp_channels.specs.Streams.{is_reset, is_reset_again, Table, stream_at}
use Rattle.sctp_channels.specs.Told.{Message, Closed}
use Rattle.sctp_channels.specs.Events.{first_taken_at, next_report, with_reset}

-- ---- what is told was taken

-- The content is in the message that waits first on the stream, and that is taken.
pub record IsTaken (v : EndView) (x : Table) (s : ℕ) (c : Content) : Type 0 where
  pub message : Handed
  pub rest : List Handed
  pub waits : v.receiver.waiting s ≡ message ∷ rest
  pub content : content_of message.payload message.bytes ≡ Some c
  pub leaves : (next_report v x).view ≡ first_taken_at v s message rest

-- a content that is told is in the message that waited first, and that is taken (RFC 8831, 6.6)
abbrev pub ContentsAreTaken : Type 0
ContentsAreTaken = (v : EndView) (x : Table) (s : ℕ) (c : Content) → (next_report v x).report ≡ Some (record { stream = s; told = Message c }) → IsTaken v x s c

-- ---- the place of a reset

-- how many messages of a stream will have been taken when those before the peer's reset are
abbrev pub place : EndView → Table → (stream : ℕ) → ℕ
place v x s = length (v.receiver.taken s) + (stream_at x s).left

-- The peer has reset the stream, with its place there.
pub record HasPlace (v : EndView) (x : Table) (s n : ℕ) : Type 0 where
  pub is_reset : is_reset (stream_at x s).resets ≡ true
  pub place : place v x s ≡ n

-- Where none is noted, a reset is, with all that is taken and all that waits from before it; where one is, a further one leaves its place.
abbrev pub ResetsAreNoted : Type 0
ResetsAreNoted = (v : EndView) (x : Table) (s : ℕ) → s < length x.streams →
    (is_reset (stream_at x s).resets ≡ false → HasPlace v (with_reset s (old_waiting v.receiver s) x) s (length (v.receiver.taken s) + old_waiting v.receiver s))
    × ((n count : ℕ) → HasPlace v x s n → HasPlace v (with_reset s count x) s n)

-- Whatever is told next, but that the channel is closed, the place stays.
abbrev pub PlacesAreKept : Type 0
PlacesAreKept = (v : EndView) (x : Table) (s n : ℕ) → HasPlace v x s n → ((next_report v x).report ≡ Some (record { stream = s; told = Closed }) → ⊥) →
    HasPlace (next_report v x).view (next_report v x).table s n

-- A channel is told closed once all before the place was taken, and no more.
abbrev pub ClosedAtThePlace : Type 0
ClosedAtThePlace = (v : EndView) (x : Table) (s : ℕ) → ended_of v.phase ≡ None → (next_report v x).report ≡ Some (record { stream = s; told = Closed }) →
    HasPlace v x s (length (v.receiver.taken s))

-- ---- the place of a further reset

-- The peer has reset the stream again, with its place there, which isn't before the first one's.
pub record HasNextPlace (v : EndView) (x : Table) (s n : ℕ) : Type 0 where
  pub is_reset_again : is_reset_again (stream_at x s).resets ≡ true
  pub place : length (v.receiver.taken s) + (stream_at x s).again ≡ n
  pub behind : (stream_at x s).left ≤ (stream_at x s).again

-- A further reset is noted with its place; whatever is told next, but that the channel is closed, the place stays; and once that is told, it is the place of the stream's
-- next channel (RFC 8831, 6.7).
pub record SecondResetsAreKept : Type 0 where
  pub noted : (v : EndView) (x : Table) (s n count : ℕ) → HasPlace v x s n → n ≤ length (v.receiver.taken s) + count →
      HasNextPlace v (with_reset s count x) s (length (v.receiver.taken s) + count)
  pub kept : (v : EndView) (x : Table) (s n : ℕ) → HasNextPlace v x s n → ((next_report v x).report ≡ Some (record { stream = s; told = Closed }) → ⊥) →
      HasNextPlace (next_report v x).view (next_report v x).table s n
  pub next : (v : EndView) (x : Table) (s n : ℕ) → HasNextPlace v x s n → (next_report v x).report ≡ Some (record { stream = s; told = Closed }) →
      HasPlace (next_report v x).view (next_report v x).table s n

-- ---- what is told was sent

-- the call sends this content
pub record IsOfContent (c : Content) (k : Call) : Type 0 where
  pub payload : k.payload ≡ id_of c.text c.bytes
  pub bytes : k.bytes ≡ carried c.bytes

-- the call is one that channels make: of DCEP, or of a content
abbrev pub IsOfChannels : Call → Type 0
IsOfChannels k = (k.payload ≡ DCEP) ⊎ ((c : Content) × IsOfContent c k)

-- THE PROMISE, of one stream in one direction: all messages are matched with messages that were sent, each content with itself; and resets part them.
abbrev pub ChannelsSayWhatWasSent : Type 0
ChannelsSayWhatWasSent = (s : Setup) (es : List Event) (os : List (Option Outcome)) (vs : List World) → ((x : Side) → IsConfiguration (configuration_of s x)) →
    PassesThrough (start s) es os vs → FreshAndUnforged s.sealing es → Aged (start s) es vs → (x : Side) (n : ℕ) →
    ((y : Sent) → Has (sent x es os) y → y.call.lane.stream ≡ n → IsOfChannels y.call) →
    (ms : List Match) × AreMatched (exchange x n es os (last_of (start s) vs)) ms × ((t : IsTold x n es os) → AreParted x n es os vs t ms)
    × ((m : Match) → Has ms m → (c : Content) → content_of m.message.payload m.message.bytes ≡ Some c → IsOfContent c m.sent.call)
