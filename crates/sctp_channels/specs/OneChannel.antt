-- What is told on a stream between two closings is of one channel: no reset by the peer's user lies in it (RFC 8831, 6.7).
use Rattle.std.specs.Prelude.{◌≡◌, ℕ, ◌<◌, ◌≤◌, min, max, List, [], ◌∷◌, ◌++◌, length, map, Option, Some, None, slice_get}
use Rattle.sctp_model.specs.numbers.Lists.{Has}
use Rattle.sctp_model.specs.end.Configured.{IsConfiguration}
use Rattle.sctp_model.specs.world.World.{Side, A, B, other, World, end_of, Setup, configuration_of, start}
use Rattle.sctp_model.specs.world.Events.{Event, Outcome}
use Rattle.sctp_model.specs.world.Steps.{PassesThrough, last_of}
use Rattle.sctp_model.specs.world.Aged.{Aged}
use Rattle.sctp_model.specs.world.Premises.{FreshAndUnforged}
use Rattle.sctp_outcomes.specs.Users.{exchange, taken, Match}
use Rattle.sctp_outcomes.specs.Parted.{ResetAfter, AreMatched}
use Rattle.sctp_outcomes.specs.AllReported.{HearsToldOnly}
use Rattle.sctp_dcep.specs.Content.{Content, content_of}
use Rattle.sctp_channels.specs.declared.table.DtlsRole.{DtlsRole}
use Rattle.sctp_channels.specs.Streams.{Table, fresh_table}
use Rattle.sctp_channels.specs.Told.{Told, Message, Closed, Report}
use Rattle.sctp_channels.specs.Events.{next_report}
use Rattle.sctp_channels.specs.Driven.{Driven}

-- ---- what is told

-- At a place of the run, after these events, the user is told this content of the stream, each reset of which was noted.
pub record IsTelling (s : Setup) (y : Side) (role : DtlsRole) (many n : ℕ) (events : List Event) (outcomes : List (Option Outcome)) (worlds : List World) (told : List Report) (table : Table) (c : Content)
    : Type 0 where
  pub passes : PassesThrough (start s) events outcomes worlds
  pub driven : Driven y (start s) (fresh_table role many) events outcomes worlds told table
  pub noted : (end_of (last_of (start s) worlds) y).receiver.resets.told n ≡ None
  pub tells : (next_report (end_of (last_of (start s) worlds) y) table).report ≡ Some (record { stream = n; told = Message c })

-- At two places of the run a content is told of the stream, and from the first to the second the user isn't told that a channel of it is closed.
pub record IsOneChannel (s : Setup) (y : Side) (role : DtlsRole) (many n : ℕ) (es : List Event) (os : List (Option Outcome)) (vs : List World) : Type 0 where
  pub events : List Event
  pub between : List Event
  pub later : List Event
  pub outcomes : List (Option Outcome)
  pub answers : List (Option Outcome)
  pub others : List (Option Outcome)
  pub all : es ≡ events ++ (between ++ later)
  pub answered : os ≡ outcomes ++ (answers ++ others)
  pub worlds : List World
  pub beyond : List World
  pub after : List World
  pub through : vs ≡ worlds ++ (beyond ++ after)
  pub told : List Report
  pub behind : List Report
  pub table : Table
  pub last : Table
  pub one : Content
  pub another : Content
  pub first : IsTelling s y role many n events outcomes worlds told table one
  pub goes_on : Driven y (last_of (start s) worlds) table between answers beyond behind last
  pub unclosed : (r : Report) → Has behind r → r ≡ record { stream = n; told = Closed } → ⊥
  pub second : IsTelling s y role many n (events ++ between) (outcomes ++ answers) (worlds ++ beyond) (told ++ behind) last another

-- ---- what is promised

-- The two contents are those of these messages; and of the messages that were sent for them no reset of the stream was accepted after the one and before the other.
pub record AreOfOne (x : Side) (n : ℕ) (es : List Event) (os : List (Option Outcome)) (one another : Content) (m k : Match) : Type 0 where
  pub is_one : content_of m.message.payload m.message.bytes ≡ Some one
  pub is_other : content_of k.message.payload k.message.bytes ≡ Some another
  pub unreset : (count : ℕ) → ResetAfter x n 0 es os count → min m.sent.ticket k.sent.ticket ≤ count → count < max m.sent.ticket k.sent.ticket → ⊥

-- THE PROMISE: where tables drive both ends of a run, and each reset was noted whenever a packet arrived, of each stream in each direction: any two contents that are told without a
-- closing between are of one channel.
abbrev pub ChannelsAreOne : Type 0
ChannelsAreOne = (s : Setup) (es : List Event) (os : List (Option Outcome)) (vs : List World) → ((x : Side) → IsConfiguration (configuration_of s x)) →
    PassesThrough (start s) es os vs → FreshAndUnforged s.sealing es → Aged (start s) es vs →
    (roles : Side → DtlsRole) (many : Side → ℕ) (told : Side → List Report) (left : Side → Table) →
    ((y : Side) → Driven y (start s) (fresh_table (roles y) (many y)) es os vs (told y) (left y)) → ((y : Side) (n : ℕ) → HearsToldOnly y n (start s) es vs) → (x : Side) (n : ℕ) →
    (ms : List Match) × AreMatched (exchange x n es os (last_of (start s) vs)) ms
    × ((c : IsOneChannel s (other x) (roles (other x)) (many (other x)) n es os vs) → (m : Match) × (k : Match)
    × (slice_get ms (length (taken (other x) n c.events c.outcomes)) ≡ Some m)
    × (slice_get ms (length (taken (other x) n (c.events ++ c.between) (c.outcomes ++ c.answers))) ≡ Some k)
    × AreOfOne x n es os c.one c.another m k)

-- It says something of runs: there is one that meets all this (and is Aged, as each run of fewer than 2^31 TSNs is), in which B's user is told two contents of stream 0, that its channel is
-- closed, and a content of the next one. From the first of them to the second it isn't told that a channel is closed.
pub record TwoChannelsOnAStream : Type 0 where
  pub setup : Setup
  pub configured : (x : Side) → IsConfiguration (configuration_of setup x)
  pub events : List Event
  pub outcomes : List (Option Outcome)
  pub worlds : List World
  pub passes : PassesThrough (start setup) events outcomes worlds
  pub premises : FreshAndUnforged setup.sealing events
  pub of_a : DtlsRole
  pub of_b : DtlsRole
  pub told_a : List Report
  pub left_a : Table
  pub left_b : Table
  pub one : Content
  pub another : Content
  pub next : Content
  pub driven_a : Driven A (start setup) (fresh_table of_a 1) events outcomes worlds told_a left_a
  pub driven_b : Driven B (start setup) (fresh_table of_b 1) events outcomes worlds (map (λ (t : Told). record { stream = 0; told = t }) (Message one ∷ Message another ∷ Closed ∷ Message next ∷ [])) left_b
  pub hears : (y : Side) (n : ℕ) → HearsToldOnly y n (start setup) events worlds
  pub channel : IsOneChannel setup B of_b 1 0 events outcomes worlds
