-- How far a script is.
use Rattle.std.specs.Prelude.{ℕ, Bool, List, Option, None, Some}
use Rattle.sctp_model.specs.sender.Words.{count_up}
use Rattle.sctp_model.specs.end.Sealing.{Sealing}
use Rattle.sctp_model.specs.end.EndView.{Configuration}
use Rattle.sctp_model.specs.world.World.{World, start}
use Rattle.sctp_events.specs.Setups.{setup_with}
use Rattle.sctp_script.specs.Places as places
use Rattle.sctp_script.specs.Places.{Place, Behind}

-- B's key: the bytes 0 to 31
abbrev pub LISTENER_KEY : List ℕ
LISTENER_KEY = count_up 0 32

-- No `pair` line was there yet; or two endpoints have these configurations, B with this seal, and no line has asked anything of them; or they have
-- reached this world. After the `pair` line it says whether there was a line of options.
pub data Stage : Type 0 where
  Unpaired : Stage
  SetUp : (with_options : Bool) → (a b : Configuration) → Sealing → Stage
  Reached : (with_options : Bool) → World → Stage

-- the place of the next line
abbrev pub place_of : Stage → Place
place_of Unpaired = places.Unpaired
place_of (SetUp with_options a b s) = Behind with_options a b
place_of (Reached with_options w) = places.Acted with_options

-- the world of the two endpoints, once there was a `pair` line
abbrev pub world_of : Stage → Option World
world_of Unpaired = None
world_of (SetUp with_options a b s) = Some (start (setup_with a b s))
world_of (Reached with_options w) = Some w
