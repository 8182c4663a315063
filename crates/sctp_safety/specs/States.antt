-- The states of an endpoint: over every run it goes along the diagram of states (RFC 9260, 4), and what was agreed on stays.
use Rattle.std.specs.Prelude.{◌≡◌, ℕ, Bool, true, false, List, Option}
use Rattle.sctp_model.specs.end.EndView.{Draw, Tags, Stage, Established, ShutdownPending, ShutdownSent, ShutdownReceived, ShutdownAckSent, Ended, Phase}
use Rattle.sctp_model.specs.end.EndView.{Idle, Listening, Calling, Echoing, Open, Over, EndView, has_association}
use Rattle.sctp_model.specs.world.World.{Side, World, end_of, Setup, start}
use Rattle.sctp_model.specs.world.Events.{Event, Outcome}
use Rattle.sctp_model.specs.world.Steps.{Run}

-- ---- the diagram

-- the user's `shutdown`; a drained end; the peer's SHUTDOWN, also after one's own, before or after it went out; the answer of a drained end
pub data IsStageTurn : Stage → Stage → Type 0 where
  UserShuts : IsStageTurn Established ShutdownPending
  Says : IsStageTurn ShutdownPending ShutdownSent
  PeerShuts : IsStageTurn Established ShutdownReceived
  BothShut : IsStageTurn ShutdownPending ShutdownReceived
  Cross : IsStageTurn ShutdownSent ShutdownAckSent
  Answers : IsStageTurn ShutdownReceived ShutdownAckSent

-- Every arrow there is. An association keeps its tags: the caller's own is the one that it generated. Nothing leads away from a closed endpoint.
pub data IsTurn : Phase → Phase → Type 0 where
  ByCall : (d : Draw) → IsTurn Idle (Calling d)
  ByInitAck : (d : Draw) (peer : ℕ) (cookie : List ℕ) → IsTurn (Calling d) (Echoing (record { own = d.tag; peer = peer }) cookie)
  ByCookieAck : (t : Tags) (cookie : List ℕ) → IsTurn (Echoing t cookie) (Open t Established)
  ByCookie : (t : Tags) → IsTurn Listening (Open t Established)
  ByPair : (t : Tags) → IsTurn Idle (Open t Established)
  ByStage : (t : Tags) (g i : Stage) → IsStageTurn g i → IsTurn (Open t g) (Open t i)
  ByEnd : (h : Phase) (why : Ended) → has_association h ≡ true → IsTurn h (Over why)

-- one arrow after the other, or none
pub data IsPath : Phase → Phase → Type 0 where
  Here : (h : Phase) → IsPath h h
  On : (h k l : Phase) → IsTurn h k → IsPath k l → IsPath h l

-- ---- what stays

-- it has called, or was opened
abbrev pub has_begun : Phase → Bool
has_begun Idle = false
has_begun Listening = false
has_begun (Calling d) = true
has_begun (Echoing t xs) = true
has_begun (Open t g) = true
has_begun (Over why) = true

-- it has agreed on terms with its peer, or never will
abbrev pub has_agreed : Phase → Bool
has_agreed Idle = false
has_agreed Listening = false
has_agreed (Calling d) = false
has_agreed (Echoing t xs) = true
has_agreed (Open t g) = true
has_agreed (Over why) = true

-- the same end later
pub record IsLaterEnd (e t : EndView) : Type 0 where
  pub configuration : t.configuration ≡ e.configuration
  pub path : IsPath e.phase t.phase
  pub role : has_begun e.phase ≡ true → t.role ≡ e.role
  pub terms : has_agreed e.phase ≡ true → t.terms ≡ e.terms

-- Of any two worlds of a run from the start, the endpoints of the second are those of the first, later.
abbrev pub EndsFollowTheDiagram : Type 0
EndsFollowTheDiagram = (s : Setup) (events more : List Event) (answers others : List (Option Outcome)) (w v : World) →
    Run (start s) events answers w → Run w more others v → (x : Side) → IsLaterEnd (end_of w x) (end_of v x)

-- And an endpoint that is closed stays closed, for the same reason.
abbrev pub ClosedForGood : Type 0
ClosedForGood = (s : Setup) (events more : List Event) (answers others : List (Option Outcome)) (w v : World) →
    Run (start s) events answers w → Run w more others v → (x : Side) (why : Ended) → (end_of w x).phase ≡ Over why → (end_of v x).phase ≡ Over why
