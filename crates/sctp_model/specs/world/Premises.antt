-- What is assumed of random numbers and of third parties, and what is promised of every world.
use Rattle.std.specs.Prelude.{◌≡◌, ℕ, ◌⊎◌, true, List, [], ◌∷◌, map, Option, None, Some}
use Rattle.sctp_model.specs.numbers.Lists.{Has, joined}
use Rattle.sctp_model.specs.wire.Chunk.{ChunkMeaning, Init, CookieEcho}
use Rattle.sctp_model.specs.wire.Packet.{Packet}
use Rattle.sctp_model.specs.messages.Plan.{Entry, Plan, entry_at, IsOf}
use Rattle.sctp_model.specs.messages.Format.{Lane}
use Rattle.sctp_model.specs.world.Calls.{Asked}
use Rattle.sctp_model.specs.sender.SenderView.{SenderView}
use Rattle.sctp_model.specs.receiver.ReceiverView.{ReceiverView}
use Rattle.sctp_model.specs.world.Safe.{Safe, WasHanded}
use Rattle.sctp_model.specs.end.Sealing.{Body, Sealing}
use Rattle.sctp_model.specs.end.EndView.{Draw, format_of, Completed, Over}
use Rattle.sctp_model.specs.end.Configured.{IsConfiguration}
use Rattle.sctp_model.specs.world.World.{Side, other, World, end_of, log_of, Setup, configuration_of, FIRST_DRAW, start, clock_of}
use Rattle.sctp_model.specs.world.Events.{Event, OpenBoth, Drawing, Connect, Foreign, Outcome}
use Rattle.sctp_model.specs.world.Steps.{Run, PassesThrough, last_of}
use Rattle.sctp_model.specs.world.Aged.{Aged}

-- ---- random numbers: which tags are generated (RFC 9260, 5.3.1)

-- the random values that an event hands in
abbrev pub draws_of : Event → List Draw
draws_of (OpenBoth x y) = x ∷ y ∷ []
draws_of (Connect d) = d ∷ []
draws_of (Drawing d) = d ∷ []
draws_of e = []

-- The tags of a whole run, those that are generated late too, and the one that a world has at its start.
abbrev pub drawn_in : List Event → List ℕ
drawn_in es = map (λ (d : Draw). d.tag) (FIRST_DRAW ∷ joined (map draws_of es))

-- ---- third parties

-- the listener reads a body under its own seal
abbrev pub IsBody : Option Body → Type 0
IsBody (Some b) = Unit {0}
IsBody None = ⊥

-- A chunk that only the two endpoints could have made: an INIT that asks for a tag of theirs, or a COOKIE ECHO of a cookie whose MAC is right.
abbrev pub IsTheirs : Sealing → List ℕ → ChunkMeaning → Type 0
IsTheirs s tags (Init m) = Has tags m.tag
IsTheirs s tags (CookieEcho cookie) = IsBody (s.opened cookie)
IsTheirs s tags x = ⊥

-- A third party's packet. It carries none of these tags, and no INIT in it asks for one (FRESH), nor does a cookie in it open (UNFORGED).
pub record IsStranger (s : Sealing) (tags : List ℕ) (p : Packet) : Type 0 where
  pub untagged : Has tags p.tag → ⊥
  pub chunks : (x : ChunkMeaning) → Has p.chunks x → IsTheirs s tags x → ⊥

-- FRESH and UNFORGED, of the events of a run: each packet of whoever else sends to either endpoint is a third party's. (That no tag is 0 is in each step
-- that takes random values.)
abbrev pub FreshAndUnforged : Sealing → List Event → Type 0
FreshAndUnforged s es = (x : Side) (p : Packet) → Has es (Foreign x (Some p)) → IsStranger s (drawn_in es) p

-- ---- SAFE

-- what an endpoint's user asked for, by its log and its clock
abbrev pub asked_at : World → Side → Asked
asked_at w s = record { calls = (log_of w s).calls; named = (log_of w s).named; clock = clock_of w s }

-- SAFE: the five promises in both directions, in the format that the sending endpoint agreed on.
abbrev pub IsSafeWorld : World → Type 0
IsSafeWorld w = (s : Side) → Safe (format_of (end_of w s)) (end_of w s).sender (end_of w (other s)).receiver (asked_at w s)

-- ---- CLOSING

-- the message has an index
abbrev pub HasEntry : Plan → Lane → ℕ → Type 0
HasEntry p l n = (i : ℕ) × (e : Entry) × (entry_at p i ≡ Some e) × IsOf l n e

-- nothing is missing of what one endpoint sent: every message with an index was abandoned, or was delivered at the other
abbrev pub IsAllArrived : SenderView → ReceiverView → Type 0
IsAllArrived a r = (l : Lane) (n : ℕ) → HasEntry a.plan l n → (a.abandoned l n ≡ true) ⊎ WasHanded a.plan r l n

-- CLOSING: once either endpoint has completed, nothing is missing either way (RFC 9260, 9.2).
abbrev pub IsClosedWorld : World → Type 0
IsClosedWorld w = (s : Side) → (end_of w s).phase ≡ Over Completed → IsAllArrived w.a.sender w.b.receiver × IsAllArrived w.b.sender w.a.receiver

-- ---- the worlds that the theorems speak of

-- These events lead from START to this world, the endpoints are set up within the limits, and FRESH and UNFORGED hold.
pub record IsReachable (s : Setup) (events : List Event) (w : World) : Type 0 where
  pub configured : (x : Side) → IsConfiguration (configuration_of s x)
  pub answers : List (Option Outcome)
  pub run : Run (start s) events answers w
  pub premises : FreshAndUnforged s.sealing events

-- They lead there through these worlds, in time: AGED holds too.
pub record IsReachedInTime (s : Setup) (events : List Event) (w : World) : Type 0 where
  pub configured : (x : Side) → IsConfiguration (configuration_of s x)
  pub answers : List (Option Outcome)
  pub worlds : List World
  pub run : PassesThrough (start s) events answers worlds
  pub ends : last_of (start s) worlds ≡ w
  pub premises : FreshAndUnforged s.sealing events
  pub aged : Aged (start s) events worlds
