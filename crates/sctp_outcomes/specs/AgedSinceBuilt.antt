-- AGED by each packet's own date: TSNs are counted since the step that built it.
use Rattle.std.specs.Prelude.{◌≡◌, ℕ, ◌+◌, ◌<◌, ◌≤◌, nat_le, List, [], ◌∷◌, length, Option, Some, if◌then◌else◌}
use Rattle.sctp_model.specs.numbers.Limits.{AGE_LIMIT}
use Rattle.sctp_model.specs.numbers.Lists.{item_at}
use Rattle.sctp_model.specs.wire.Packet.{Packet}
use Rattle.sctp_model.specs.world.World.{Side, World, bag_of, Setup, start}
use Rattle.sctp_model.specs.world.Events.{Event, Deliver, Outcome}
use Rattle.sctp_model.specs.world.Steps.{Run, PassesThrough}
use Rattle.sctp_model.specs.world.Aged.{assigned_tsns, Aged}

-- the first of these worlds whose bag has n packets: the world after the n-th was built
abbrev pub built_in : Side → ℕ → World → List World → World
built_in s n w [] = w
built_in s n w (v ∷ vs) = if nat_le n (length (bag_of w s)) then w else built_in s n v vs

-- A packet that is delivered in this world is so before either endpoint has assigned AGE_LIMIT more TSNs than when it was built.
abbrev pub IsTimely : (first : World) → (all : List World) → (now : World) → Event → Type 0
IsTimely f all w (Deliver s n) = (p : Packet) → item_at (bag_of w s) n ≡ Some p → (x : Side) →
    assigned_tsns w x < assigned_tsns (built_in s n f all) x + AGE_LIMIT
IsTimely f all w e = Unit {0}

-- so it is of each delivery in these steps
abbrev pub AreTimely : (first : World) → (all : List World) → (now : World) → List Event → List World → Type 0
AreTimely f all w (e ∷ es) (v ∷ vs) = IsTimely f all w e × AreTimely f all v es vs
AreTimely f all w es vs = Unit {0}

-- and of each delivery of a run
abbrev pub EachComesTimely : World → List Event → List World → Type 0
EachComesTimely w es vs = AreTimely w vs w es vs

-- AGED asks no more than that,
abbrev pub AgedAsksNoMore : Type 0
AgedAsksNoMore = (s : Setup) (es : List Event) (os : List (Option Outcome)) (vs : List World) →
    PassesThrough (start s) es os vs → EachComesTimely (start s) es vs → Aged (start s) es vs

-- and no less.
abbrev pub AgedAsksNoLess : Type 0
AgedAsksNoLess = (s : Setup) (es : List Event) (os : List (Option Outcome)) (vs : List World) →
    PassesThrough (start s) es os vs → Aged (start s) es vs → EachComesTimely (start s) es vs

-- For a TSN that was assigned stays so: in every run, also in one that meets no premise, each endpoint's number of them only grows.
abbrev pub PlansOnlyGrow : Type 0
PlansOnlyGrow = (s : Setup) (events more : List Event) (answers others : List (Option Outcome)) (w v : World) → Run (start s) events answers w →
    Run w more others v →
    (x : Side) → assigned_tsns w x ≤ assigned_tsns v x
