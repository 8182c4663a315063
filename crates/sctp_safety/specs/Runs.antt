-- THE HEADLINE, of two endpoints over every run: whatever is called, built, delivered, lost, duplicated, reordered or injected by third parties, however
-- they were opened, and in whichever format and with whichever options they agreed.
use Rattle.std.specs.Prelude.{◌≡◌, ℕ, ◌<◌, true, List, [], ◌∷◌, ◌++◌, Option}
use Rattle.sctp_model.specs.numbers.Limits.{AGE_LIMIT}
use Rattle.sctp_model.specs.numbers.Lists.{Has}
use Rattle.sctp_model.specs.numbers.Serial.{half_space}
use Rattle.sctp_model.specs.end.Sealing.{Sealing}
use Rattle.sctp_model.specs.end.Configured.{IsConfiguration}
use Rattle.sctp_model.specs.sender.Readers.{drained}
use Rattle.sctp_model.specs.end.EndView.{Completed, Over}
use Rattle.sctp_model.specs.world.World.{Side, World, end_of, Setup, configuration_of, start}
use Rattle.sctp_model.specs.world.Events.{Event, Outcome}
use Rattle.sctp_model.specs.world.Steps.{Run, PassesThrough, last_of}
use Rattle.sctp_model.specs.world.Aged.{assigned_tsns, Aged}
use Rattle.sctp_model.specs.world.Premises.{FreshAndUnforged, IsReachedInTime, IsSafeWorld, IsClosedWorld}

-- Both directions are safe in every world that a run reaches in time.
abbrev pub TwoEndsAreSafe : Type 0
TwoEndsAreSafe = (s : Setup) (events : List Event) (w : World) → IsReachedInTime s events w → IsSafeWorld w

-- And in every such world: if either endpoint has completed its association, no message with an index is missing, in either direction. Each was delivered
-- to the peer's user, or waits for it, or was abandoned by its sender (RFC 9260, 9.2).
abbrev pub NothingIsMissing : Type 0
NothingIsMissing = (s : Setup) (events : List Event) (w : World) → IsReachedInTime s events w → IsClosedWorld w

-- And nothing waits there either: at both endpoints no message is queued, none is partly sent, and all that has an index is acknowledged. So each message
-- that `send` accepted was delivered, or waits for the peer's user, or was abandoned or withdrawn.
abbrev pub NothingWaits : Type 0
NothingWaits = (s : Setup) (events : List Event) (w : World) → IsReachedInTime s events w → (x : Side) → (end_of w x).phase ≡ Over Completed →
    (drained w.a.sender ≡ true) × (drained w.b.sender ≡ true)

-- ---- runs and their beginnings

-- a run with its worlds is a run, to where it ends
abbrev pub PassingIsARun : Type 0
PassingIsARun = (w : World) (events : List Event) (answers : List (Option Outcome)) (worlds : List World) →
    PassesThrough w events answers worlds → Run w events answers (last_of w worlds)

-- the worlds that a run to this world passes
pub record HasWorlds (w : World) (events : List Event) (answers : List (Option Outcome)) (last : World) : Type 0 where
  pub worlds : List World
  pub passes : PassesThrough w events answers worlds
  pub ends : last_of w worlds ≡ last

-- and each run has its worlds
abbrev pub RunsHaveWorlds : Type 0
RunsHaveWorlds = (w last : World) (events : List Event) (answers : List (Option Outcome)) →
    Run w events answers last → HasWorlds w events answers last

-- a run that goes on is a run
abbrev pub RunsGoOn : Type 0
RunsGoOn = (w v last : World) (events more : List Event) (answers others : List (Option Outcome)) →
    Run w events answers v → Run v more others last → Run w (events ++ more) (answers ++ others) last

-- and it passes the worlds of both
abbrev pub PassingGoesOn : Type 0
PassingGoesOn = (w : World) (events more : List Event) (answers others : List (Option Outcome)) (worlds beyond : List World) →
    PassesThrough w events answers worlds → PassesThrough (last_of w worlds) more others beyond →
    PassesThrough w (events ++ more) (answers ++ others) (worlds ++ beyond) × (last_of w (worlds ++ beyond) ≡ last_of (last_of w worlds) beyond)

-- what a run of two lists of events is: one of the first list, which goes on with the second
pub record HasBeginning (w : World) (events more : List Event) (answers : List (Option Outcome)) (last : World) : Type 0 where
  pub between : World
  pub before : List (Option Outcome)
  pub behind : List (Option Outcome)
  pub answered : answers ≡ before ++ behind
  pub run : Run w events before between
  pub goes_on : Run between more behind last

-- so the beginning of a run is a run
abbrev pub BeginningsAreRuns : Type 0
BeginningsAreRuns = (w last : World) (events more : List Event) (answers : List (Option Outcome)) →
    Run w (events ++ more) answers last → HasBeginning w events more answers last

-- and if the run meets the premises its beginning does: FRESH speaks of fewer random values there, and of fewer packets
abbrev pub BeginningsMeetThePremises : Type 0
BeginningsMeetThePremises = (s : Sealing) (events more : List Event) → FreshAndUnforged s (events ++ more) → FreshAndUnforged s events

-- and if AGED holds of a run it holds of its beginning: fewer packets arrive there
abbrev pub BeginningsAreAged : Type 0
BeginningsAreAged = (w : World) (events more : List Event) (answers : List (Option Outcome)) (worlds beyond : List World) →
    PassesThrough w events answers worlds → Aged w (events ++ more) (worlds ++ beyond) → Aged w events worlds

-- ---- each world on the way

-- in each of these both directions are safe, and once an endpoint has completed nothing is missing
abbrev pub KeepBothPromises : List World → Type 0
KeepBothPromises [] = Unit {0}
KeepBothPromises (w ∷ ws) = (IsSafeWorld w × IsClosedWorld w) × KeepBothPromises ws

-- So it is in each world that a run goes on through from a world that a run led to, if the premises hold of both as one run.
abbrev pub EachWorldIsSafe : Type 0
EachWorldIsSafe = (s : Setup) (before events : List Event) (answers others : List (Option Outcome)) (past worlds : List World) →
    ((x : Side) → IsConfiguration (configuration_of s x)) → PassesThrough (start s) before answers past →
    PassesThrough (last_of (start s) past) events others worlds →
    FreshAndUnforged s.sealing (before ++ events) → Aged (start s) (before ++ events) (past ++ worlds) → KeepBothPromises (last_of (start s) past ∷ worlds)

-- ---- runs of few TSNs

-- neither endpoint has assigned that many TSNs in any of these worlds
abbrev pub AssignFewer : (limit : ℕ) → List World → Type 0
AssignFewer limit worlds = (w : World) → Has worlds w → (x : Side) → assigned_tsns w x < limit

-- A run of fewer TSNs than a packet may be late by is AGED, however late packets arrive.
abbrev pub ShortRunsAreAged : Type 0
ShortRunsAreAged = (w : World) (events : List Event) (worlds : List World) → AssignFewer AGE_LIMIT (w ∷ worlds) → Aged w events worlds

-- And if neither endpoint assigns half the space of TSNs no AGED is needed: FRESH and UNFORGED are all that is asked (RFC 9260, 2.6).
abbrev pub ShortRunsAreSafe : Type 0
ShortRunsAreSafe = (s : Setup) (events : List Event) (answers : List (Option Outcome)) (worlds : List World) →
    ((x : Side) → IsConfiguration (configuration_of s x)) → PassesThrough (start s) events answers worlds → FreshAndUnforged s.sealing events →
    AssignFewer (half_space 32) (start s ∷ worlds) → KeepBothPromises (start s ∷ worlds)
