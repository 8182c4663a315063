-- What calls of channels make: events, each a step of the world, which drive the table of their end (RFC 8831, 6; RFC 8832, 6).
use Rattle.std.specs.Prelude.{◌≡◌, ℕ, ◌<◌, ◌≤◌, not, List, [], ◌++◌, length, filter, Option, None}
use Rattle.sctp_model.specs.wire.Packet.{Packet}
use Rattle.sctp_model.specs.end.EndView.{EndView}
use Rattle.sctp_model.specs.world.World.{Side, A, B, other, World, end_of, bag_of, Setup, start}
use Rattle.sctp_model.specs.world.Events.{Event, Outcome}
use Rattle.sctp_model.specs.world.Steps.{PassesThrough, last_of}
use Rattle.sctp_outcomes.specs.AllReported.{HearsToldOnly}
use Rattle.sctp_channels.specs.declared.channels.Channels.{Channels}
use Rattle.sctp_channels.specs.declared.table.DtlsRole.{DtlsRole}
use Rattle.sctp_channels.specs.Streams.{Table, fresh_table}
use Rattle.sctp_channels.specs.Told.{Report}
use Rattle.sctp_channels.specs.ChannelsStand.{ChannelsStand}
use Rattle.sctp_channels.specs.Driven.{is_call, Driven}

-- ---- one call

-- the events that are no call of this end's user
abbrev pub others_in : Side → List Event → List Event
others_in y es = filter (λ (e : Event). not (is_call y e)) es

-- From a world on, events that are steps of it drive the table of an end, whose user is told these reports. Beside calls of that user they are these events. They leave this view of the end and this
-- table, with these packets more in the end's bag; and the other end and its bag as they were, whatever its table. Neither clock goes on, and the random numbers stay.
pub record Makes (y : Side) (w : World) (x : Table) (others : List Event) (told : List Report) (packets : List Packet) (u : EndView) (z : Table) : Type 0 where
  pub events : List Event
  pub outcomes : List (Option Outcome)
  pub worlds : List World
  pub passes : PassesThrough w events outcomes worlds
  pub driven : Driven y w x events outcomes worlds told z
  pub across : (q : Table) → Driven (other y) w q events outcomes worlds [] q
  pub beside : others_in y events ≡ others
  pub here : end_of (last_of w worlds) y ≡ u
  pub there : end_of (last_of w worlds) (other y) ≡ end_of w (other y)
  pub bag : bag_of (last_of w worlds) y ≡ bag_of w y ++ packets
  pub bag_there : bag_of (last_of w worlds) (other y) ≡ bag_of w (other y)
  pub clock_a : (last_of w worlds).clock_a ≡ w.clock_a
  pub clock_b : (last_of w worlds).clock_b ≡ w.clock_b
  pub draw : (last_of w worlds).draw ≡ w.draw

-- A run leads to this world.
pub record IsReached (w : World) : Type 0 where
  pub setup : Setup
  pub events : List Event
  pub outcomes : List (Option Outcome)
  pub worlds : List World
  pub passes : PassesThrough (start setup) events outcomes worlds
  pub ends : last_of (start setup) worlds ≡ w

-- No reset of the peer's is left to be noted, on the streams that are there, and on those on which messages wait.
pub record IsAllNoted (v : EndView) : Type 0 where
  pub there : (s : ℕ) → s < v.receiver.streams → v.receiver.resets.told s ≡ None
  pub waiting : (s : ℕ) → (v.receiver.waiting s ≡ [] → ⊥) → v.receiver.resets.told s ≡ None

-- The call made such events, one at most beside calls of its end's user; the channels represent the view and the table that they leave; and resets are noted, as they were before.
pub record IsMade (y : Side) (w : World) (x : Table) (others : List Event) (told : List Report) (packets : List Packet) (c : Channels) : Type 0 where
  pub view : EndView
  pub table : Table
  pub makes : Makes y w x others told packets view table
  pub few : length others ≤ 1
  pub stands : ChannelsStand c view table
  pub noted : IsReached w → IsAllNoted (end_of w y) → IsAllNoted view

-- ---- calls at both ends

-- with this at one side
abbrev pub with_side : {T : Type 0} → Side → T → (Side → T) → Side → T
with_side A t f A = t
with_side A t f B = f B
with_side B t f A = f A
with_side B t f B = t

-- A run from the start led to this world, driven at both ends by tables that began without a channel: this was told, and these tables are left. Resets are noted at both ends, and
-- were whenever a packet arrived.
pub record IsDrivenTo (s : Setup) (roles : Side → DtlsRole) (many : Side → ℕ) (es : List Event) (os : List (Option Outcome)) (vs : List World) (told : Side → List Report) (w : World) (x : Side → Table)
    : Type 0 where
  pub passes : PassesThrough (start s) es os vs
  pub ends : last_of (start s) vs ≡ w
  pub driven : (y : Side) → Driven y (start s) (fresh_table (roles y) (many y)) es os vs (told y) (x y)
  pub noted : (y : Side) → IsAllNoted (end_of w y)
  pub in_time : (y : Side) (n : ℕ) → HearsToldOnly y n (start s) es vs
