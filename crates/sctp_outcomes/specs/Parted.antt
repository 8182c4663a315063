-- What a reset of a stream keeps apart, in an application's words (RFC 6525, 5.1 and 5.2; RFC 8831, 6.7).
use Rattle.std.specs.Prelude.{◌≡◌, ℕ, ◌+◌, ◌<◌, ◌≤◌, ◌⊎◌, ◌&&◌, ◌==◌, Bool, true, false, List, [], ◌∷◌, ◌++◌, length, map, take, drop, Option, Some, None}
use Rattle.sctp_model.specs.numbers.Lists.{Has, AreInOrder}
use Rattle.sctp_model.specs.messages.Format.{Ordered}
use Rattle.sctp_model.specs.end.Configured.{IsConfiguration}
use Rattle.sctp_model.specs.world.World.{Side, A, B, other, World, end_of, Setup, configuration_of, start}
use Rattle.sctp_model.specs.world.Events.{Event, Reset, WasReset, Outcome, Done, ResetThere}
use Rattle.sctp_model.specs.world.Steps.{Run, PassesThrough, last_of}
use Rattle.sctp_model.specs.world.Aged.{Aged}
use Rattle.sctp_model.specs.world.Premises.{FreshAndUnforged}
use Rattle.sctp_outcomes.specs.Users.{same_side, sent_by, taken_by, taken, Exchange, exchange, Match, IsMatch}

-- ---- what the sending application did

-- this side's reset of the stream was accepted in this event
abbrev pub is_reset : Side → (stream : ℕ) → Event → Option Outcome → Bool
is_reset x n (Reset s m) (Some Done) = same_side s x && (n == m)
is_reset x n e o = false

-- In one of these events it was, when `send` had accepted `count` messages of this side, `before` of them before these events.
abbrev pub ResetAfter : Side → (stream before : ℕ) → List Event → List (Option Outcome) → (count : ℕ) → Type 0
ResetAfter x n before (e ∷ es) (o ∷ os) count = ((is_reset x n e o ≡ true) × (count ≡ before)) ⊎ ResetAfter x n (before + length (sent_by x e o)) es os count
ResetAfter x n before es os count = ⊥

-- ---- what was reported to the receiving application

-- In one of these events the other side asked which stream was reset, and got this one, with how many of its messages that waited were delivered before the
-- reset.
pub record IsTold (x : Side) (stream : ℕ) (es : List Event) (os : List (Option Outcome)) : Type 0 where
  pub past : List Event
  pub answers : List (Option Outcome)
  pub later : List Event
  pub others : List (Option Outcome)
  pub waiting : ℕ
  pub events : es ≡ past ++ WasReset (other x) ∷ later
  pub outcomes : os ≡ answers ++ Some (ResetThere stream waiting) ∷ others
  pub aligned : length answers ≡ length past

-- how many messages of the stream it takes before the first one that was delivered after the reset
abbrev pub place_of : (x : Side) (stream : ℕ) (es : List Event) (os : List (Option Outcome)) → IsTold x stream es os → ℕ
place_of x n es os t = length (taken (other x) n t.past t.answers) + t.waiting

-- Whenever it takes a message of the stream, it has asked for the peer's resets: none of the stream is left to be reported.
abbrev pub TakesToldOnly : Side → (stream : ℕ) → List Event → List (Option Outcome) → List World → Type 0
TakesToldOnly y n (e ∷ es) (o ∷ os) (v ∷ vs) = ((taken_by y n e o ≡ []) ⊎ ((end_of v y).receiver.resets.told n ≡ None)) × TakesToldOnly y n es os vs
TakesToldOnly y n es os vs = Unit {0}

-- the messages that are delivered before this place, and those from it on
abbrev pub delivered_before : (place : ℕ) → List Match → List Match
delivered_before n ms = take n ms

abbrev pub delivered_from : (place : ℕ) → List Match → List Match
delivered_from n ms = drop n ms

-- ---- what is promised

-- All messages that were taken or wait are matched with messages that were sent, as in IsFaithful.
pub record AreMatched (e : Exchange) (ms : List Match) : Type 0 where
  pub all : map (λ (m : Match). m.message) ms ≡ e.taken ++ e.waiting
  pub each : (m : Match) → Has ms m → IsMatch e m
  pub once : AreInOrder (λ (m k : Match). m.sent.ticket ≡ k.sent.ticket → ⊥) ms
  pub in_order : AreInOrder (λ (m k : Match). m.message.lane.kind ≡ Ordered → k.message.lane.kind ≡ Ordered → m.sent.ticket < k.sent.ticket) ms

-- The sender had reset the stream. What is delivered from the place on was accepted after that; what was delivered before it, before: if some of it waited,
-- or messages are taken with all resets reported.
pub record AreParted (x : Side) (stream : ℕ) (es : List Event) (os : List (Option Outcome)) (vs : List World) (t : IsTold x stream es os)
    (ms : List Match) : Type 0 where
  pub count : ℕ
  pub reset : ResetAfter x stream 0 t.past t.answers count
  pub new : (m : Match) → Has (delivered_from (place_of x stream es os t) ms) m → count < m.sent.ticket
  pub old : (0 < t.waiting) ⊎ TakesToldOnly (other x) stream es os vs → (m : Match) → Has (delivered_before (place_of x stream es os t) ms) m →
      m.sent.ticket ≤ count

-- THE PROMISE: in every run that meets the three premises, of each stream in each direction, all messages are matched so that every reset that is reported
-- parts them.
abbrev pub ResetsPartMessages : Type 0
ResetsPartMessages = (s : Setup) (es : List Event) (os : List (Option Outcome)) (vs : List World) → ((x : Side) → IsConfiguration (configuration_of s x)) →
    PassesThrough (start s) es os vs → FreshAndUnforged s.sealing es → Aged (start s) es vs → (x : Side) (n : ℕ) →
    (ms : List Match) × AreMatched (exchange x n es os (last_of (start s) vs)) ms × ((t : IsTold x n es os) → AreParted x n es os vs t ms)

-- ---- how often a reset is reported

-- this side's user asked which stream was reset, and it was this one
abbrev pub is_reported : Side → (stream : ℕ) → Event → Option Outcome → Bool
is_reported y n (WasReset s) (Some (ResetThere m k)) = same_side s y && (n == m)
is_reported y n e o = false

-- an event counts as one, or not at all
abbrev pub one_if : Bool → ℕ
one_if true = 1
one_if false = 0

-- how many of these events are such
abbrev pub count_of : (Event → Option Outcome → Bool) → List Event → List (Option Outcome) → ℕ
count_of test (e ∷ es) (o ∷ os) = one_if (test e o) + count_of test es os
count_of test es os = 0

-- THE PROMISE: in every run that meets the three premises, of each stream in each direction, no more resets are reported to the user than its peer's user
-- asked for, by calls of `reset` that were accepted: a request that the peer retries under another number is reported once.
abbrev pub ResetsAreReportedOnce : Type 0
ResetsAreReportedOnce = (s : Setup) (es : List Event) (os : List (Option Outcome)) (vs : List World) → ((x : Side) → IsConfiguration (configuration_of s x)) →
    PassesThrough (start s) es os vs → FreshAndUnforged s.sealing es → Aged (start s) es vs → (x : Side) (n : ℕ) →
    count_of (is_reported (other x) n) es os ≤ count_of (is_reset x n) es os

-- It says something of runs: there is one that meets FRESH and UNFORGED (and Aged, as each run of fewer than 2^31 TSNs does), in which A's user resets stream 0
-- twice, with nothing sent between, and both resets are reported to B's user.
pub record TwoResetsAreReported : Type 0 where
  pub setup : Setup
  pub configured : (x : Side) → IsConfiguration (configuration_of setup x)
  pub events : List Event
  pub answers : List (Option Outcome)
  pub last : World
  pub run : Run (start setup) events answers last
  pub premises : FreshAndUnforged setup.sealing events
  pub asked : count_of (is_reset A 0) events answers ≡ 2
  pub reported : count_of (is_reported B 0) events answers ≡ 2
