-- Which streams have a message in part: the tickets of those messages, by stream.
use Rattle.std.specs.Prelude.{ℕ, List, map, Option, None, Some}
use Rattle.sctp_sequence.specs.TwoWays.{IsMapOf}
use Rattle.sctp_sequence.specs.declared.two_way_map.TwoWayMap.{TwoWayMap}
use Rattle.sctp_send.specs.inner.Counting.{IsCountedOf}
use Rattle.sctp_send.specs.inner.Owning.{AreRestsOwned}
use Rattle.sctp_send.specs.declared.kept.track.Rest.{Rest as RestFields}
use Rattle.sctp_send.specs.declared.kept.track.Track.{Track as TrackFields}

-- the ticket of a message of which something is left
abbrev pub ticket_left : Option RestFields → Option ℕ
ticket_left None = None
ticket_left (Some r) = Some r.message.value.ticket

-- the tickets of the messages in part, by stream
abbrev pub tickets_left : List TrackFields → List (Option ℕ)
tickets_left ts = map (λ t. ticket_left t.rest) ts

-- What is counted of the streams, and which of them have a message in part; what is left of each has its owners.
pub record IsStreamsOf (size : ℕ) (ts : List TrackFields) (many sum : ℕ) (parts : TwoWayMap) : Type 0 where
  pub counted : IsCountedOf size ts many sum
  pub listed : IsMapOf (tickets_left ts) parts
  pub owned : AreRestsOwned size ts
