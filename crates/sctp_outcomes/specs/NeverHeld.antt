-- Congestion control is one more reason not to send, and it passes: no endpoint is kept from sending for ever.
use Rattle.std.specs.Prelude.{◌≡◌, ℕ, ◌-◌, ◌<◌, true, List, Some, false, None, Option}
use Rattle.sctp_model.specs.wire.Chunk.{ChunkMeaning}
use Rattle.sctp_model.specs.wire.Packet.{size_of_packet}
use Rattle.sctp_model.specs.sender.Entries.{in_flight}
use Rattle.sctp_model.specs.end.Pacing.{Pace}
use Rattle.sctp_model.specs.end.EndView.{DataAlarm, EndView}
use Rattle.sctp_model.specs.end.Building.{room_behind}
use Rattle.sctp_model.specs.end.UserCalls.{is_open}
use Rattle.sctp_model.specs.world.World.{Side, World, end_of, Setup, configuration_of, start}
use Rattle.sctp_model.specs.world.Events.{Event, Outcome}
use Rattle.sctp_model.specs.world.Premises.{IsReachable}
use Rattle.sctp_model.specs.world.Steps.{Run}

-- If nothing is in flight, fragments have all the space that a packet leaves; if something is, the data timer of an open endpoint runs, whose expiry marks
-- all of it
-- (RFC 9260, 6.1, 6.3.2 and 6.3.3).
pub record IsNeverHeld (e : EndView) : Type 0 where
  pub free : in_flight e.sender ≡ 0 → (xs : List ChunkMeaning) → room_behind e xs ≡ e.configuration.limit - size_of_packet xs
  pub wakes : is_open e.phase ≡ true → 0 < in_flight e.sender → (m : ℕ) × ((e.timers DataAlarm).expiry ≡ Some m)

-- So it is at both endpoints, in every world of every run that meets the premises.
abbrev pub NoneIsHeldForEver : Type 0
NoneIsHeldForEver = (s : Setup) (events : List Event) (w : World) → IsReachable s events w → (x : Side) → IsNeverHeld (end_of w x)

-- An endpoint that is set up without Fast Retransmit has no pace in any run, whatever third parties know: it behaves as one without round trips and
-- congestion control.
abbrev pub NoPaceUnasked : Type 0
NoPaceUnasked = (s : Setup) (events : List Event) (answers : List (Option Outcome)) (w : World) → Run (start s) events answers w →
    (x : Side) → (configuration_of s x).fast_retransmit ≡ false → (end_of w x).pace ≡ None
