-- Across a reset no message of the old channel is told on the next one of its stream (RFC 8831, 6.7).
use Rattle.std.specs.Prelude.{◌≡◌, ℕ, ◌<◌, ◌≤◌, false, List, length, take, drop, Option, Some, None}
use Rattle.sctp_model.specs.numbers.Lists.{Has}
use Rattle.sctp_model.specs.end.Configured.{IsConfiguration}
use Rattle.sctp_model.specs.end.EndView.{EndView, ended_of}
use Rattle.sctp_model.specs.world.World.{Side, other, World, end_of, Setup, configuration_of, start}
use Rattle.sctp_model.specs.world.Events.{Event, Outcome}
use Rattle.sctp_model.specs.world.Steps.{PassesThrough, last_of}
use Rattle.sctp_model.specs.world.Aged.{Aged}
use Rattle.sctp_model.specs.world.Premises.{FreshAndUnforged}
use Rattle.sctp_outcomes.specs.Users.{Sent, sent, exchange, taken, Match}
use Rattle.sctp_outcomes.specs.Parted.{ResetAfter, IsTold, AreMatched}
use Rattle.sctp_dcep.specs.Content.{Content, content_of}
use Rattle.sctp_channels.specs.Streams.{is_reset, Table, stream_at}
use Rattle.sctp_channels.specs.Told.{Closed}
use Rattle.sctp_channels.specs.Events.{next_report, with_reset}
use Rattle.sctp_channels.specs.Promise.{HasPlace, IsOfContent, IsOfChannels}

-- ---- from one view of an endpoint and its streams to a later one

-- another call: it takes no message of the stream, and leaves what is noted of a reset
pub record IsBeside (s : ℕ) (v : EndView) (x : Table) (w : EndView) (z : Table) : Type 0 where
  pub taken : w.receiver.taken s ≡ v.receiver.taken s
  pub left : (stream_at z s).left ≡ (stream_at x s).left
  pub is_reset : is_reset (stream_at z s).resets ≡ is_reset (stream_at x s).resets

-- The user is told events, but not that the channel of the stream is closed; resets are noted; and other calls are made.
pub data Course (s : ℕ) : EndView → Table → EndView → Table → Type 0 where
  Here : (v : EndView) (x : Table) → Course s v x v x
  Tells : (v : EndView) (x : Table) (u : EndView) (y : Table) → ((next_report v x).report ≡ Some (record { stream = s; told = Closed }) → ⊥) →
      Course s (next_report v x).view (next_report v x).table u y → Course s v x u y
  Notes : (v : EndView) (x : Table) (u : EndView) (y : Table) (k count : ℕ) → Course s v (with_reset k count x) u y → Course s v x u y
  Beside : (v : EndView) (x : Table) (w : EndView) (z : Table) (u : EndView) (y : Table) → IsBeside s v x w z → Course s w z u y → Course s v x u y

-- along a course the place of a reset stays (RFC 8831, 6.7)
abbrev pub CoursesKeepPlaces : Type 0
CoursesKeepPlaces = (s n : ℕ) (v : EndView) (x : Table) (u : EndView) (y : Table) → Course s v x u y → HasPlace v x s n → HasPlace u y s n

-- ---- a channel that is closed by the peer's reset

-- The reset that is told is noted on the channel's stream, and at a later place of the run the user is told that the channel is closed, while the association lives.
pub record IsClosed (s : Setup) (x : Side) (n : ℕ) (es : List Event) (os : List (Option Outcome)) (t : IsTold x n es os) : Type 0 where
  pub worlds_then : List World
  pub passes_then : PassesThrough (start s) t.past t.answers worlds_then
  pub table_then : Table
  pub there : n < length table_then.streams
  pub unreset : is_reset (stream_at table_then n).resets ≡ false
  pub past : List Event
  pub answers : List (Option Outcome)
  pub worlds : List World
  pub passes : PassesThrough (start s) past answers worlds
  pub table : Table
  pub course : Course n (end_of (last_of (start s) worlds_then) (other x)) (with_reset n t.waiting table_then) (end_of (last_of (start s) worlds) (other x)) table
  pub alive : ended_of (end_of (last_of (start s) worlds) (other x)).phase ≡ None
  pub closed : (next_report (end_of (last_of (start s) worlds) (other x)) table).report ≡ Some (record { stream = n; told = Closed })

-- What was taken from the stream by then is of before the peer's reset, if some of that waited; and all that is delivered on it later was accepted after the reset.
pub record IsNewBehind (s : Setup) (x : Side) (n : ℕ) (es : List Event) (os : List (Option Outcome)) (t : IsTold x n es os) (c : IsClosed s x n es os t) (ms : List Match) : Type 0 where
  pub count : ℕ
  pub reset : ResetAfter x n 0 t.past t.answers count
  pub new : (m : Match) → Has (drop (length (taken (other x) n c.past c.answers)) ms) m → count < m.sent.ticket
  pub old : 0 < t.waiting → (m : Match) → Has (take (length (taken (other x) n c.past c.answers)) ms) m → m.sent.ticket ≤ count

-- THE PROMISE
abbrev pub NextChannelsAreNew : Type 0
NextChannelsAreNew = (s : Setup) (es : List Event) (os : List (Option Outcome)) (vs : List World) → ((x : Side) → IsConfiguration (configuration_of s x)) →
    PassesThrough (start s) es os vs → FreshAndUnforged s.sealing es → Aged (start s) es vs → (x : Side) (n : ℕ) →
    ((y : Sent) → Has (sent x es os) y → y.call.lane.stream ≡ n → IsOfChannels y.call) →
    (ms : List Match) × AreMatched (exchange x n es os (last_of (start s) vs)) ms
    × ((m : Match) → Has ms m → (c : Content) → content_of m.message.payload m.message.bytes ≡ Some c → IsOfContent c m.sent.call)
    × ((t : IsTold x n es os) (c : IsClosed s x n es os t) → IsNewBehind s x n es os t c ms)
