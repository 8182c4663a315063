-- What a pair answers to events, and what is promised of the worlds that they lead through.
use Rattle.std.specs.Prelude.{◌≡◌, ℕ, ◌<◌, ◌⊎◌, List, [], ◌∷◌, ◌++◌, length, map, Option, Some, None, Result, Ok, Err}
use Rattle.std.specs.declared.vec.Vec.{Vec}
use Rattle.std.specs.declared.alloc.Global.{Global}
use Rattle.sctp_model.specs.end.Configured.{IsConfiguration}
use Rattle.sctp_model.specs.world.World as world
use Rattle.sctp_model.specs.world.World.{World, Setup, configuration_of, start}
use Rattle.sctp_model.specs.world.Events as meaning
use Rattle.sctp_model.specs.world.Steps.{PassesThrough, last_of}
use Rattle.sctp_model.specs.world.Aged.{Aged}
use Rattle.sctp_model.specs.world.Premises.{FreshAndUnforged}
use Rattle.sctp_safety.specs.Runs.{KeepBothPromises}
use Rattle.sctp_outcomes.specs.Users.{exchange, IsFaithful}
use Rattle.sctp_values.specs.declared.no_memory.NoMemory.{NoMemory}
use Rattle.sctp_events.specs.Events.{outcome_meaning}
use Rattle.sctp_pair.specs.Happens.{Means}
use Rattle.sctp_pair.specs.Memory.{TakesMemory}
use Rattle.sctp_events.specs.declared.event.Event.{Event}
use Rattle.sctp_events.specs.declared.outcome.Outcome.{Outcome}

-- ---- several events

-- A course from a world on: events, the answer to each, and the worlds that they lead through, that world not counted.
pub record Course : Type 0 where
  pub events : List meaning.Event
  pub answers : List (Option meaning.Outcome)
  pub worlds : List World

-- the course of one event
abbrev pub one_event : meaning.Event → Option meaning.Outcome → World → Course
one_event e o x = record { events = e ∷ []; answers = o ∷ []; worlds = x ∷ [] }

-- the course leads on from this world, step by step
abbrev pub LeadsOn : World → Course → Type 0
LeadsOn w c = PassesThrough w c.events c.answers c.worlds

-- events mean these, each its own
abbrev pub AllMean : List Event → List meaning.Event → Type 0
AllMean [] [] = Unit {0}
AllMean (event ∷ events) (e ∷ es) = Means event e × AllMean events es
AllMean [] (e ∷ es) = ⊥
AllMean (event ∷ events) [] = ⊥

-- what outcomes answer
abbrev pub answers_of : List Outcome → List (Option meaning.Outcome)
answers_of outcomes = map (λ o. Some (outcome_meaning o)) outcomes

-- the course with one event more
abbrev pub and_then : Course → meaning.Event → Option meaning.Outcome → World → Course
and_then c e o x = record { events = c.events ++ e ∷ []; answers = c.answers ++ o ∷ []; worlds = c.worlds ++ x ∷ [] }

-- An allocation failed in the last event, which allocates, and in none before.
pub record IsCut (w : World) (c : Course) : Type 0 where
  pub before : Course
  pub outcomes : List Outcome
  pub answered : before.answers ≡ answers_of outcomes
  pub event : meaning.Event
  pub takes : TakesMemory (last_of w before.worlds) event
  pub left : World
  pub cut : c ≡ and_then before event None left

-- It was so; or the allocation for the outcomes failed before the first event, if there is one.
abbrev pub IsWanting : World → List Event → Course → Type 0
IsWanting w events c = ((0 < length events) × (c.answers ≡ [])) ⊎ IsCut w c

-- a run over all events with these outcomes, or one over the events so far
abbrev pub RunLeaves : World → List Event → Result (Vec Outcome Global) NoMemory → Course → Type 0
RunLeaves w events (Ok outcomes) c = (c.answers ≡ answers_of outcomes.items) × AllMean events c.events × LeadsOn w c
RunLeaves w events (Err _) c =
    (done rest : List Event) × (events ≡ done ++ rest) × AllMean done c.events × IsWanting w events c × LeadsOn w c

-- ---- what is promised

-- one course, and another after it
abbrev pub followed_by : Course → Course → Course
followed_by c d = record { events = c.events ++ d.events; answers = c.answers ++ d.answers; worlds = c.worlds ++ d.worlds }

-- a course from the start, of endpoints that are set up within the limits, led to this world
pub record IsRunTo (s : Setup) (before : Course) (w : World) : Type 0 where
  pub configured : (x : world.Side) → IsConfiguration (configuration_of s x)
  pub leads : LeadsOn (start s) before
  pub ends : last_of (start s) before.worlds ≡ w

-- FRESH and UNFORGED, and AGED, of a course from the start
pub record MeetsPremises (s : Setup) (c : Course) : Type 0 where
  pub strangers : FreshAndUnforged s.sealing c.events
  pub aged : Aged (start s) c.events c.worlds

-- What the users of both endpoints see of a course from the start is what was sent, on each stream in each direction: `IsFaithful`.
abbrev pub AreFaithful : Setup → Course → Type 0
AreFaithful s c = (x : world.Side) (n : ℕ) → IsFaithful (exchange x n c.events c.answers (last_of (start s) c.worlds))

-- What holds of a course that goes on from a world: with the one before it is one course, from which a further call may go on; and if that one meets the
-- premises, both directions are safe in each of its worlds from there on, and once an endpoint has completed its association nothing is missing there; and
-- what the users of both endpoints see of that course is what was sent, on each stream in each direction.
pub record Promises (s : Setup) (before : Course) (w : World) (c : Course) : Type 0 where
  pub whole : IsRunTo s (followed_by before c) (last_of w c.worlds)
  pub safe : MeetsPremises s (followed_by before c) → KeepBothPromises (w ∷ c.worlds)
  pub users : MeetsPremises s (followed_by before c) → AreFaithful s (followed_by before c)

-- the promise, whatever course led to the world
abbrev pub Promised : World → Course → Type 0
Promised w c = (s : Setup) (before : Course) → IsRunTo s before w → Promises s before w c
