-- In every world of every run, whatever third parties know, each event has an outcome, and one only.
use Rattle.std.specs.Prelude.{◌≡◌, ◌^◌, ◌<◌, List, Option, Some}
use Rattle.sctp_model.specs.wire.Places.{ArePlaced}
use Rattle.sctp_model.specs.world.World.{World, Setup, start}
use Rattle.sctp_model.specs.world.Events.{Event, OpenBoth, At, Drawing, Connect, Foreign, Outcome, Later}
use Rattle.sctp_model.specs.end.EndView.{IsDraw}
use Rattle.sctp_model.specs.world.Steps.{Step, Run}

-- What may happen: random values are such, a time has 64 bits, and in a third party's packet that reads each chunk is where it may be.
abbrev pub CanHappen : World → Event → Type 0
CanHappen w (OpenBoth x y) = IsDraw x × IsDraw y
CanHappen w (Later x m) = m < 2 ^ 64
CanHappen w (At m) = m < 2 ^ 64
CanHappen w (Drawing d) = IsDraw d
CanHappen w (Connect d) = IsDraw d
CanHappen w (Foreign x (Some p)) = ArePlaced p.chunks
CanHappen w e = Unit {0}

-- the event has an outcome that isn't an allocation failure, and leaves a world
abbrev pub HasOutcome : World → Event → Type 0
HasOutcome w e = (o : Outcome) × (v : World) × Step w e (Some o) v

-- Every event that may happen has one, in every world that events lead to from the start.
abbrev pub EventsHaveOutcomes : Type 0
EventsHaveOutcomes = (s : Setup) (events : List Event) (answers : List (Option Outcome)) (w : World) → Run (start s) events answers w →
    (e : Event) → CanHappen w e → HasOutcome w e

-- And no event has two: what is answered, unless memory is wanted, and the world that is left are one.
abbrev pub OutcomesAreOne : Type 0
OutcomesAreOne = (s : Setup) (events : List Event) (answers : List (Option Outcome)) (w : World) → Run (start s) events answers w →
    (e : Event) (o p : Outcome) (v u : World) → Step w e (Some o) v → Step w e (Some p) u → (o ≡ p) × (v ≡ u)
