-- The theorem on scripts: if only third parties send besides the two endpoints, and no packet arrives too late, each world that the lines of a script lead
-- through is safe.
use Rattle.std.specs.Prelude.{◌≡◌, ℕ, ◌⊎◌, true, false, List, [], ◌∷◌, map, Some}
use Rattle.sctp_model.specs.end.EndView.{Configuration}
use Rattle.sctp_model.specs.end.Configured.{IsConfiguration}
use Rattle.sctp_model.specs.world.World.{Side, World, Setup, configuration_of, start}
use Rattle.sctp_model.specs.world.Events.{Event, Outcome}
use Rattle.sctp_model.specs.world.Steps.{PassesThrough, last_of}
use Rattle.sctp_model.specs.world.Aged.{Aged}
use Rattle.sctp_safety.specs.Runs.{KeepBothPromises}
use Rattle.sctp_outcomes.specs.Users.{exchange, IsFaithful}
use Rattle.sctp_cookie.specs.Seals.{IsUnder}
use Rattle.sctp_events.specs.Events.{Wanted}
use Rattle.sctp_pair.specs.Happens.{IsMeant}
use Rattle.sctp_pair.specs.Unforged.{KeyPremises}
use Rattle.sctp_events.specs.Alike.{turned_round}
use Rattle.sctp_script.specs.Grammar.{Silent, Pairs, Acts}
use Rattle.sctp_script.specs.Places.{Place, Unpaired, Behind, Acted, Plain, Configures, has_options, SaysAt}
use Rattle.sctp_trace.specs.Stages as stages
use Rattle.sctp_trace.specs.Stages.{LISTENER_KEY, Stage, world_of}
use Rattle.sctp_trace.specs.Script.{Goes}

-- The events of lines without a fault, one for each that acts behind the pair, from this place on.
abbrev pub AreEventsOf : Place → List (List ℕ) → List Event → Type 0
AreEventsOf place [] events = events ≡ []
AreEventsOf place (line ∷ lines) events =
    (SaysAt place line (Plain Silent) × AreEventsOf place lines events)
    ⊎ (((c : Configuration) × SaysAt place line (Plain (Pairs c)) × AreEventsOf (Behind false c (turned_round c)) lines events)
    ⊎ (((a b : Configuration) × SaysAt place line (Configures a b) × AreEventsOf (Behind true a b) lines events)
    ⊎ ((wanted : Wanted) × (e : Event) × (es : List Event) × SaysAt place line (Plain (Acts wanted)) × IsMeant wanted e × AreEventsOf (Acted (has_options place)) lines es
    × (events ≡ e ∷ es))))

-- What the lines of a script lead through to a world: two endpoints are set up within the limits, each with a configuration of its own, and the events of these lines, none of which
-- wants memory, pass from START through these worlds.
pub record Course (lines : List (List ℕ)) (w : World) : Type 0 where
  pub setup : Setup
  pub key : IsUnder LISTENER_KEY setup.sealing
  pub configured : (x : Side) → IsConfiguration (configuration_of setup x)
  pub events : List Event
  pub theirs : AreEventsOf Unpaired lines events
  pub outcomes : List Outcome
  pub worlds : List World
  pub passes : PassesThrough (start setup) events (map Some outcomes) worlds
  pub ends : last_of (start setup) worlds ≡ w

-- Lines without a fault have a course to where they lead. If its events meet FRESH and UNFORGED, and it is AGED, both directions are safe in each of its
-- worlds, whatever is lost, repeated or reordered, and once an endpoint has completed its association nothing is missing there; and what the users of both
-- endpoints take is what was sent, on each stream in each direction.
abbrev pub ScriptsAreSafe : Type 0
ScriptsAreSafe = (lines : List (List ℕ)) (written : List ℕ) (stage : Stage) (w : World) → Goes stages.Unpaired lines written stage → world_of stage ≡ Some w →
    (c : Course lines w) × (KeyPremises LISTENER_KEY c.events → Aged (start c.setup) c.events c.worlds →
    KeepBothPromises (start c.setup ∷ c.worlds) × ((x : Side) (n : ℕ) → IsFaithful (exchange x n c.events (map Some c.outcomes) w)))
