-- That each reset of a stream is reported to the receiving application (RFC 6525, 5.2.2; RFC 8831, 6.7).
use Rattle.std.specs.Prelude.{◌≡◌, ℕ, ◌+◌, ◌<◌, ◌≤◌, ◌⊎◌, ◌&&◌, not, Bool, false, List, ◌∷◌, slice_get, Option, Some, None, is_some}
use Rattle.sctp_model.specs.sender.Outgoing.{is_sending}
use Rattle.sctp_model.specs.end.Configured.{IsConfiguration}
use Rattle.sctp_model.specs.end.EndView.{EndView}
use Rattle.sctp_model.specs.world.World.{Side, A, B, other, World, end_of, Setup, configuration_of, start}
use Rattle.sctp_model.specs.world.Events.{Event, Deliver, Foreign, Outcome}
use Rattle.sctp_model.specs.world.Steps.{PassesThrough, last_of}
use Rattle.sctp_model.specs.world.Aged.{Aged}
use Rattle.sctp_model.specs.world.Premises.{FreshAndUnforged}
use Rattle.sctp_outcomes.specs.Users.{same_side, exchange, Match}
use Rattle.sctp_outcomes.specs.Parted.{is_reset, ResetAfter, IsTold, place_of, TakesToldOnly, AreMatched, is_reported, one_if, count_of}

-- ---- the receiving application asks in time

-- a packet arrives at this side in this event
abbrev pub arrives_at : Side → Event → Bool
arrives_at y (Deliver s n) = same_side (other s) y
arrives_at y (Foreign s p) = same_side s y
arrives_at y e = false

-- No reset of the stream is left to be reported at this endpoint; of a stream that isn't there none is reported.
abbrev pub NoneIsLeft : EndView → (stream : ℕ) → Type 0
NoneIsLeft e n = (e.receiver.resets.told n ≡ None) ⊎ (e.receiver.streams ≤ n)

-- Whenever a packet arrives there, its application has asked for the peer's resets: none is left to be reported. (Else a packet may leave two resets to be reported, which are reported
-- as one.)
abbrev pub HearsToldOnly : Side → (stream : ℕ) → World → List Event → List World → Type 0
HearsToldOnly y n w (e ∷ es) (v ∷ vs) = ((arrives_at y e ≡ false) ⊎ NoneIsLeft (end_of w y) n) × HearsToldOnly y n v es vs
HearsToldOnly y n w es vs = Unit {0}

-- ---- how often

-- A reset of this side's begins: it is accepted while the stream takes messages. Until it is done a further call is accepted, and is the same reset (RFC 6525, 5.1.2).
abbrev pub begins_reset : Side → (stream : ℕ) → World → Event → Option Outcome → Bool
begins_reset x n w e o = is_reset x n e o && is_sending ((end_of w x).sender.resets.sending n)

-- how many begin in these events
abbrev pub resets_begun : Side → (stream : ℕ) → World → List Event → List (Option Outcome) → List World → ℕ
resets_begun x n w (e ∷ es) (o ∷ os) (v ∷ vs) = one_if (begins_reset x n w e o) + resets_begun x n v es os vs
resets_begun x n w es os vs = 0

-- one that is to be reported to this side's application
abbrev pub to_report : World → Side → (stream : ℕ) → ℕ
to_report w y n = one_if (is_some ((end_of w y).receiver.resets.told n))

-- one that isn't done: this side's stream takes no message
abbrev pub under_way : World → Side → (stream : ℕ) → ℕ
under_way w x n = one_if (not (is_sending ((end_of w x).sender.resets.sending n)))

-- THE PROMISE: in every run that meets the three premises, in which the peer's application asks in time, of each stream in each direction: of the resets that began all but two were
-- reported, one that is to be reported and one that isn't done.
abbrev pub ResetsAreAllReported : Type 0
ResetsAreAllReported = (s : Setup) (es : List Event) (os : List (Option Outcome)) (vs : List World) → ((x : Side) → IsConfiguration (configuration_of s x)) →
    PassesThrough (start s) es os vs → FreshAndUnforged s.sealing es → Aged (start s) es vs → (x : Side) (n : ℕ) → HearsToldOnly (other x) n (start s) es vs →
    resets_begun x n (start s) es os vs ≤ count_of (is_reported (other x) n) es os + (to_report (last_of (start s) vs) (other x) n + under_way (last_of (start s) vs) x n)

-- ---- where

-- A reset of the stream was reported, or is to be, and this is its place: that number of messages of the stream were delivered before.
pub data IsReportedAt (x : Side) (stream : ℕ) (es : List Event) (os : List (Option Outcome)) (w : World) (place : ℕ) : Type 0 where
  WasReported : (t : IsTold x stream es os) → place_of x stream es os t ≡ place → IsReportedAt x stream es os w place
  IsToBe : (end_of w (other x)).receiver.resets.told stream ≡ Some place → IsReportedAt x stream es os w place

-- Of these two messages that were delivered, the i-th and the j-th, the first was accepted before a reset of the stream, the second after it.
pub record LiesBetween (x : Side) (stream : ℕ) (es : List Event) (os : List (Option Outcome)) (ms : List Match) (i j count : ℕ) : Type 0 where
  pub before : Match
  pub behind : Match
  pub one : slice_get ms i ≡ Some before
  pub other_one : slice_get ms j ≡ Some behind
  pub reset : ResetAfter x stream 0 es os count
  pub old : before.sent.ticket ≤ count
  pub new : count < behind.sent.ticket

-- THE PROMISE, of what is delivered, where messages are taken, too, with all resets reported: if a reset lies between two messages, one was reported, or is to be, whose place does.
abbrev pub ResetsHavePlaces : Type 0
ResetsHavePlaces = (s : Setup) (es : List Event) (os : List (Option Outcome)) (vs : List World) → ((x : Side) → IsConfiguration (configuration_of s x)) →
    PassesThrough (start s) es os vs → FreshAndUnforged s.sealing es → Aged (start s) es vs → (x : Side) (n : ℕ) → HearsToldOnly (other x) n (start s) es vs →
    TakesToldOnly (other x) n es os vs →
    (ms : List Match) × AreMatched (exchange x n es os (last_of (start s) vs)) ms
    × ((i j count : ℕ) → LiesBetween x n es os ms i j count → (place : ℕ) × IsReportedAt x n es os (last_of (start s) vs) place × (i < place) × (place ≤ j))

-- ---- a run of which both say something

-- It meets FRESH and UNFORGED (and Aged, as each run of fewer than 2^31 TSNs does). B's application asks in time; a reset by A's user lies between the second message and the third that
-- are delivered to it on stream 0, and is reported.
pub record AResetLiesBetween : Type 0 where
  pub setup : Setup
  pub configured : (x : Side) → IsConfiguration (configuration_of setup x)
  pub events : List Event
  pub answers : List (Option Outcome)
  pub worlds : List World
  pub passes : PassesThrough (start setup) events answers worlds
  pub premises : FreshAndUnforged setup.sealing events
  pub hears : HearsToldOnly B 0 (start setup) events worlds
  pub takes : TakesToldOnly B 0 events answers worlds
  pub begun : resets_begun A 0 (start setup) events answers worlds ≡ 1
  pub reported : count_of (is_reported B 0) events answers ≡ 1
  pub matches : List Match
  pub matched : AreMatched (exchange A 0 events answers (last_of (start setup) worlds)) matches
  pub between : LiesBetween A 0 events answers matches 1 2 2
